-- Which recursive atoms a formula has, and when a table of predicates is well founded.
use Rattle.std.specs.Prelude.{◌≡◌, ℕ, suc, ◌+◌, ◌<◌, List, length, Some, slice_get, ◌⊎◌}
use Rattle.htt_syntax.specs.Trees.{TermTree, FormulaTree, t_var, f_and, f_or, f_imp, f_all_t, f_ex_t, f_all_h, f_ex_h}
use Rattle.htt_syntax.specs.Trees.{f_at, f_rec}
use Rattle.theory_truth.specs.Predicates.{RecTree}

-- Each recursive atom of a formula that stands under d binders meets P: by the count of binders
-- around it, its predicate and its index.
unfoldable pub AtomsMeet : (ℕ → ℕ → TermTree → Type 0) → ℕ → FormulaTree → Type 0
AtomsMeet P d (f_and left right) = AtomsMeet P d left × AtomsMeet P d right
AtomsMeet P d (f_or left right) = AtomsMeet P d left × AtomsMeet P d right
AtomsMeet P d (f_imp left right) = AtomsMeet P d left × AtomsMeet P d right
AtomsMeet P d (f_all_t mono body) = AtomsMeet P (suc d) body
AtomsMeet P d (f_ex_t mono body) = AtomsMeet P (suc d) body
AtomsMeet P d (f_all_h body) = AtomsMeet P (suc d) body
AtomsMeet P d (f_ex_h body) = AtomsMeet P (suc d) body
AtomsMeet P d (f_at at formula) = AtomsMeet P d formula
AtomsMeet P d (f_rec number heap place arguments) = P d number place
AtomsMeet P d _ = Unit {0}

abbrev pub IsEarlier : ℕ → ℕ → ℕ → TermTree → Type 0
IsEarlier p d number place = number < p

-- an atom of the predicate itself stands at the index less one, which is the outermost variable
abbrev pub IsEarlierOrLess : ℕ → ℕ → ℕ → ℕ → TermTree → Type 0
IsEarlierOrLess p params d number place = (number < p) ⊎ ((number ≡ p) × (place ≡ t_var (suc (d + params))))

pub record IsFounded (p : ℕ) (r : RecTree) : Type 0 where
  pub zero_founded : AtomsMeet (IsEarlier p) 0 r.at_zero
  pub next_founded : AtomsMeet (IsEarlierOrLess p (length r.params)) 0 r.at_next

abbrev pub IsFoundedTable : List RecTree → Type 0
IsFoundedTable table = (p : ℕ) (r : RecTree) → slice_get table p ≡ Some r → IsFounded p r
