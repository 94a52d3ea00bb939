-- What is printed of a tree that has a text is read back as this tree, and as no other: at each place that has the
-- printed names, where the text is what was printed.
use Rattle.std.specs.Prelude.{◌≡◌, ℕ, List, ◌++◌, length, take}
use Rattle.htt_syntax.specs.Trees.{TyTree, FormulaTree, ProofTree}
use Rattle.theory_typing.specs.Contexts.{Context}
use Rattle.theory_views.specs.Contexts.{SequentTree}
use Rattle.theory_text_names.specs.Scopes.{Names, Scope}
use Rattle.theory_text_items.specs.Items.{Resolved}
use Rattle.theory_text_items.specs.Resolving.{in_context}
use Rattle.theory_text_bytes.specs.Texts.{IsText}
use Rattle.theory_printing.specs.Pieces.{bytes_of}
use Rattle.theory_printing.specs.Names.{PrintScope}
use Rattle.theory_printing.specs.Phrases.{ty, formula}
use Rattle.theory_printing.specs.Proofs.{proof}
use Rattle.theory_printing_conditions.specs.Conditions.{HasTextTy, HasTextFormula, HasTextProof}
use Rattle.theory_printing_names.specs.Scopes.{AreDeclared, HasPrintedNames}
use Rattle.theory_printing_sequents.specs.Sequents.{scope_in, scope_of, EachPhrase, HasTextSequent}
use Rattle.theory_printing_sequents.specs.Laws.{place_in, place_of}
use Rattle.theory_printing_declared.specs.Tables.{vals_in, recs_in, counts_in, table_of, AreDifferent}
use Rattle.theory_printing_read.specs.Readings.{TypeStands, FormulaStands, ProofStands}

-- ---- a law for each sort of phrase

abbrev pub TypesAreRead : Type 0
TypesAreRead = (counts : List ℕ) (s : PrintScope) (r : Scope) (A : TyTree)
    → HasTextTy counts s A
    → HasPrintedNames s counts r
    → r.text ≡ bytes_of (ty s A)
    → TypeStands r (ty s A) A

abbrev pub FormulasAreRead : Type 0
FormulasAreRead = (counts : List ℕ) (s : PrintScope) (r : Scope) (F : FormulaTree)
    → HasTextFormula counts s F
    → HasPrintedNames s counts r
    → r.text ≡ bytes_of (formula s F)
    → FormulaStands r (formula s F) F

abbrev pub ProofsAreRead : Type 0
ProofsAreRead = (counts : List ℕ) (s : PrintScope) (r : Scope) (p : ProofTree)
    → HasTextProof counts s p
    → HasPrintedNames s counts r
    → r.text ≡ bytes_of (proof s p)
    → ProofStands r (proof s p) p

-- each phrase of a sequent by itself, where the declared names stand for what was printed
abbrev pub SequentsAreRead : Type 0
SequentsAreRead = (names : Names) (vals recs : List (List ℕ)) (counts : List ℕ) (q : SequentTree)
    → AreDeclared (scope_of vals recs q) counts names
    → HasTextSequent counts vals recs q
    → EachPhrase
    (λ outer A. TypeStands (place_in (bytes_of (ty (scope_in vals recs outer 0) A)) names outer 0)
    (ty (scope_in vals recs outer 0) A) A)
    (λ F. FormulaStands (place_of (bytes_of (formula (scope_of vals recs q) F)) names q) (formula (scope_of vals recs q) F) F)
    q

-- ---- places of sequents that have the printed names

pub record PlacesHavePrintedNames : Type 0 where
  -- with the items of a file that come before a place
  pub in_files : (text phrase : List ℕ) (file : Resolved) (visible : ℕ) (g : Context) (n : ℕ)
      → IsText text file
      → HasPrintedNames (scope_in (vals_in (take visible file.names)) (recs_in (take visible file.names)) g n)
      (counts_in (take visible file.names)) (in_context phrase file.names visible g n)
  -- with given names of values and of recursive predicates, no two of which are the same
  pub with_names : (phrase : List ℕ) (vals recs : List (List ℕ)) (counts : List ℕ) (g : Context) (n : ℕ)
      → length recs ≡ length counts
      → AreDifferent (vals ++ recs)
      → HasPrintedNames (scope_in vals recs g n) counts (place_in phrase (table_of vals recs counts) g n)
