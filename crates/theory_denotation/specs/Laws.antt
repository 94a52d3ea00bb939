-- The laws of denotation.
use Rattle.std.specs.Prelude.{◌≡◌, ◌↔◌, ℕ, List, Some}
use Rattle.htt_syntax.specs.Trees.{MonoTree, TermTree, FormulaTree}
use Rattle.theory_values.specs.Values.{Value}
use Rattle.theory_values.specs.Heaps.{Heap}
use Rattle.theory_truth.specs.Worlds.{World, mono_under}
use Rattle.theory_truth.specs.TermValue.{term_value}
use Rattle.theory_truth.specs.Truth.{NotNot, Holds}
use Rattle.theory_truth.specs.Predicates.{RecTree, recs_of}
use Rattle.theory_meaning.specs.Closures.{base, RunResult, done, no_fuel, asks, fault}
use Rattle.theory_meaning.specs.Meaning.{alloc_result, get_result, set_result, free_result, branch_result}
use Rattle.theory_canonical.specs.Skeletons.{Skeleton, sk_o}
use Rattle.theory_canonical.specs.Contexts.{Standing, Heads}
use Rattle.theory_canonical.specs.Canonical.{IsCanonical, IsNeutral, IsCanonicalFormula}
use Rattle.theory_denotation.specs.Outcomes.{Outcome, ended, out_of_fuel, asking, wrong, alloc_outcome, get_outcome}
use Rattle.theory_denotation.specs.Outcomes.{set_outcome, free_outcome, branch_outcome}
use Rattle.theory_denotation.specs.Valuations.{Valuation, value_of_entry, mono_in, HeadEntries}
use Rattle.theory_denotation.specs.Denotation.{term_den, head_den}
use Rattle.theory_denotation.specs.Satisfaction.{Satisfies}
use Rattle.theory_denotation.specs.Valued.{IsOf, ContextValued, HeadsValued, HeadsRun, OnlyValues, valuation_of}

-- A head with its arguments denotes at its skeleton, and of a monotype it denotes the term's value.
pub record HeadsDenote : Type 0 where
  pub at_skeleton : (heads : Heads) (e : HeadEntries) (g : List Standing) (w : Valuation) (term : TermTree)
      (s : Skeleton)
      → HeadsValued heads e
      → ContextValued g w
      → IsNeutral heads g term s
      → IsOf s (head_den e w term)
  pub value : (heads : Heads) (e : HeadEntries) (g : List Standing) (w : Valuation) (term : TermTree)
      → IsNeutral heads g term sk_o
      → term_den e w term sk_o ≡ value_of_entry (head_den e w term)

-- Where all term variables are of monotypes, the denotation of a term is its value, and a valuation
-- satisfies the formulas that hold.
pub record FirstOrderAgrees : Type 0 where
  pub monos : (w : World) (t : MonoTree) → mono_in (valuation_of w) t ≡ mono_under w t
  pub values : (heads : Heads) (e : HeadEntries) (g : List Standing) (w : World) (term : TermTree)
      → HeadsRun heads
      → OnlyValues g
      → IsCanonical heads g term sk_o
      → term_den e (valuation_of w) term sk_o ≡ term_value w term
  pub truths : (table : List RecTree) (heads : Heads) (e : HeadEntries) (g : List Standing) (w : World)
      (formula : FormulaTree)
      → HeadsRun heads
      → OnlyValues g
      → IsCanonicalFormula heads g formula
      → Satisfies (recs_of table) e (valuation_of w) formula ↔ Holds (recs_of table) w formula

-- Truth in valuations is classical too.
abbrev pub SatisfactionIsClassical : Type 0
SatisfactionIsClassical =
    (table : List RecTree) (e : HeadEntries) (w : Valuation) (formula : FormulaTree)
    → NotNot (Satisfies (recs_of table) e w formula)
    → Satisfies (recs_of table) e w formula

-- The outcome as a result of the written meaning.
abbrev pub run_result : Outcome → RunResult
run_result (ended v h cs) = done (base v) h cs
run_result out_of_fuel = no_fuel
run_result asking = asks
run_result wrong = fault

-- The steps on a heap are those of the written meaning.
pub record StepsAgree : Type 0 where
  pub alloc : (v : Value) (h : Heap) (cs : List ℕ) → run_result (alloc_outcome v h cs) ≡ alloc_result (base v) h cs
  pub get : (t : MonoTree) (v : Value) (h : Heap) (cs : List ℕ)
      → run_result (get_outcome t v h cs) ≡ get_result (Some t) (base v) h cs
  pub set : (t : MonoTree) (v u : Value) (h : Heap) (cs : List ℕ)
      → run_result (set_outcome t v u h cs) ≡ set_result (Some t) (base v) (base u) h cs
  pub free : (t : MonoTree) (v : Value) (h : Heap) (cs : List ℕ)
      → run_result (free_outcome t v h cs) ≡ free_result (Some t) (base v) h cs
  pub branch : (v : Value) (on_true on_false : Outcome)
      → run_result (branch_outcome v on_true on_false)
      ≡ branch_result (base v) (run_result on_true) (run_result on_false)
