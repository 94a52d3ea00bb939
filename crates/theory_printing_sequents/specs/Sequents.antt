-- What is printed of a sequent: a line with its name, a line for each entry, a line for each hypothesis, and a line
-- with the goal. And which sequents have a text: each of their phrases has one, where it is printed.
use Rattle.std.specs.Prelude.{ℕ, zero, suc, List, [], ◌∷◌, ◌++◌, length, map, codes, decimal}
use Rattle.htt_syntax.specs.Trees.{TyTree, FormulaTree}
use Rattle.theory_typing.specs.Contexts.{EntryTree, en_mono, en_term, en_heap, Context}
use Rattle.theory_views.specs.Contexts.{SequentTree}
use Rattle.theory_text_items.specs.Resolving.{sort_of_entry}
use Rattle.theory_printing.specs.Pieces.{bytes_of}
use Rattle.theory_printing.specs.Names.{PrintScope, name_at, hypothesis_name}
use Rattle.theory_printing.specs.Phrases.{ty, formula}
use Rattle.theory_printing_conditions.specs.Conditions.{HasTextTy, HasTextFormula}

-- a phrase in a context, with so many hypotheses
abbrev pub scope_in : List (List ℕ) → List (List ℕ) → Context → ℕ → PrintScope
scope_in vals recs g hypotheses =
    record { entries = map sort_of_entry g; hypotheses = hypotheses; vals = vals; recs = recs }

-- a phrase in a sequent: its goal, each hypothesis, and a proof of it
abbrev pub scope_of : List (List ℕ) → List (List ℕ) → SequentTree → PrintScope
scope_of vals recs q = scope_in vals recs q.context (length q.hypotheses)

-- ---- the lines

abbrev pub line : List ℕ → List ℕ
line text = text ++ 10 ∷ []

-- what an entry is, in the scope of those before it
abbrev pub entry_bytes : PrintScope → EntryTree → List ℕ
entry_bytes s en_mono = codes "mono"
entry_bytes s (en_term A) = bytes_of (ty s A)
entry_bytes s en_heap = codes "heap"

abbrev pub entry_line : PrintScope → EntryTree → List ℕ
entry_line s e = line (name_at (sort_of_entry e) (length s.entries) ++ codes " : " ++ entry_bytes s e)

-- the outermost entry comes first
unfoldable pub entry_lines : List (List ℕ) → List (List ℕ) → Context → List ℕ
entry_lines vals recs [] = []
entry_lines vals recs (e ∷ outer) = entry_lines vals recs outer ++ entry_line (scope_in vals recs outer zero) e

-- hypotheses from this number on
unfoldable pub hypothesis_lines : PrintScope → ℕ → List FormulaTree → List ℕ
hypothesis_lines s number [] = []
hypothesis_lines s number (F ∷ others) =
    line (hypothesis_name number ++ codes " : [" ++ bytes_of (formula s F) ++ codes "]") ++
    hypothesis_lines s (suc number) others

abbrev pub sequent_bytes : List ℕ → ℕ → List (List ℕ) → List (List ℕ) → SequentTree → List ℕ
sequent_bytes name number vals recs q =
    line (codes "obligation " ++ name ++ codes "." ++ decimal number) ++ entry_lines vals recs q.context ++
    hypothesis_lines (scope_of vals recs q) zero q.hypotheses ++
    line (codes "|- " ++ bytes_of (formula (scope_of vals recs q) q.goal))

-- ---- what is so of each phrase of a sequent: of the type of each entry, which stands in the scope of those before it;
-- of each hypothesis, and of the goal

unfoldable pub EachType : (Context → TyTree → Type 0) → Context → Type 0
EachType P [] = Unit {0}
EachType P (en_term A ∷ outer) = P outer A × EachType P outer
EachType P (_ ∷ outer) = EachType P outer

unfoldable pub EachFormula : (FormulaTree → Type 0) → List FormulaTree → Type 0
EachFormula Q [] = Unit {0}
EachFormula Q (F ∷ others) = Q F × EachFormula Q others

pub record EachPhrase (P : Context → TyTree → Type 0) (Q : FormulaTree → Type 0) (q : SequentTree) : Type 0 where
  pub context : EachType P q.context
  pub hypotheses : EachFormula Q q.hypotheses
  pub goal : Q q.goal

-- which sequents have a text, where the recursive predicates have so many parameters each
abbrev pub HasTextSequent : List ℕ → List (List ℕ) → List (List ℕ) → SequentTree → Type 0
HasTextSequent counts vals recs q =
    EachPhrase (λ outer A. HasTextTy counts (scope_in vals recs outer zero) A)
    (λ F. HasTextFormula counts (scope_of vals recs q) F) q
