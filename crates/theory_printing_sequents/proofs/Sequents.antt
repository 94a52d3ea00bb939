-- A place in a sequent has the printed names, and so its phrases are read as they were printed.
use Rattle.std.proofs.Common.{ℕ, zero, suc, List, [], ◌∷◌, ◌++◌, length, map, refl}
use Rattle.htt_syntax.specs.Trees.{TyTree, FormulaTree}
use Rattle.theory_typing.specs.Contexts.{en_mono, en_term, en_heap, Context}
use Rattle.theory_views.specs.Contexts.{SequentTree}
use Rattle.theory_text_names.specs.Scopes.{Names, entry_locals, hypothesis_locals}
use Rattle.theory_text_items.specs.Resolving.{sort_of_entry}
use Rattle.theory_printing.specs.Names.{PrintScope}
use Rattle.theory_printing.specs.Brackets.{formula_form}
use Rattle.theory_printing_names.specs.Scopes.{AreNamed, named_none, named_entry, named_hypothesis, AreDeclared, HasPrintedNames}
use Rattle.theory_printing_forms.proofs.Forms.{any_formula}
use Rattle.theory_printing_phrases.proofs.Phrases.{read_ty, read_formula}
use Rattle.theory_printing_sequents.specs.Sequents.{scope_in, EachType, EachFormula, EachPhrase}
use Rattle.theory_printing_sequents.specs.Laws.{place_in, PrintedSequents}

-- ---- names

entries : (g : Context) → AreNamed (entry_locals (map sort_of_entry g)) (map sort_of_entry g) zero
unfolding entry_locals
entries [] = named_none
entries (en_mono ∷ g) = named_entry refl refl (entries g)
entries (en_term A ∷ g) = named_entry refl refl (entries g)
entries (en_heap ∷ g) = named_entry refl refl (entries g)

with_hypotheses : (g : Context) (n : ℕ) → AreNamed (hypothesis_locals n ++ entry_locals (map sort_of_entry g)) (map sort_of_entry g) n
unfolding hypothesis_locals
with_hypotheses g zero = entries g
with_hypotheses g (suc n) = named_hypothesis refl (with_hypotheses g n)

-- the entries and hypotheses have no part in what declared names stand for
pub declared_in : {s : PrintScope} {counts : List ℕ} {names : Names} (g : Context) (n : ℕ)
    → AreDeclared s counts names
    → AreDeclared (scope_in s.vals s.recs g n) counts names
declared_in g n h = record { vals = h.vals; recs = h.recs }

pub names_in : (text : List ℕ) (names : Names) (vals recs : List (List ℕ)) (counts : List ℕ) (g : Context) (n : ℕ)
    → AreDeclared (scope_in vals recs g n) counts names
    → HasPrintedNames (scope_in vals recs g n) counts (place_in text names g n)
names_in text names vals recs counts g n h = record { locals = with_hypotheses g n; declared = h }

-- ---- each phrase

each_type : {P P' : Context → TyTree → Type 0} → ((outer : Context) (A : TyTree) → P outer A → P' outer A) → (g : Context) → EachType P g → EachType P' g
unfolding EachType
each_type f [] h = tt
each_type f (en_mono ∷ outer) h = each_type f outer h
each_type f (en_term A ∷ outer) h = (f outer A h.0, each_type f outer h.1)
each_type f (en_heap ∷ outer) h = each_type f outer h

each_formula : {Q Q' : FormulaTree → Type 0} → ((F : FormulaTree) → Q F → Q' F) → (fs : List FormulaTree) → EachFormula Q fs → EachFormula Q' fs
unfolding EachFormula
each_formula f [] h = tt
each_formula f (F ∷ others) h = (f F h.0, each_formula f others h.1)

-- what follows for each phrase from what is so of each
pub each_phrase : {P P' : Context → TyTree → Type 0} {Q Q' : FormulaTree → Type 0} {q : SequentTree}
    → EachPhrase P Q q
    → ((outer : Context) (A : TyTree) → P outer A → P' outer A)
    → ((F : FormulaTree) → Q F → Q' F)
    → EachPhrase P' Q' q
each_phrase {q = q} h f g =
    record { context = each_type f q.context h.context; hypotheses = each_formula g q.hypotheses h.hypotheses; goal = g q.goal h.goal }

-- ---- all of it

pub printed_sequents : PrintedSequents
printed_sequents = record {
  names = names_in;
  phrases = λ text names vals recs counts q l declared has.
      each_phrase has
      (λ outer A h v. read_ty (names_in text names vals recs counts outer zero (declared_in outer zero declared)) A h l v)
      (λ F h v.
      any_formula (formula_form F)
      (read_formula (names_in text names vals recs counts q.context (length q.hypotheses) declared) F h l v));
}
