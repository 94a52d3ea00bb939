-- What the shipped choices come to: a run is never left asking.
use Rattle.std.specs.Prelude.{◌≡◌, ◌+◌, ◌≤◌, ℕ, suc, List}
use Rattle.htt_syntax.specs.Trees.{CompTree}
use Rattle.theory_values.specs.Heaps.{Heap, InUse, IsHeap}
use Rattle.theory_meaning.specs.Closures.{RunValue, Env, RunResult, done, no_fuel, fault, Items}
use Rattle.theory_meaning.specs.Meaning.{run}
use Rattle.theory_meaning.specs.Choices.{IsGreatest, numbers_from}

-- No location of the heap is greater.
abbrev pub NoneAbove : Heap → ℕ → Type 0
NoneAbove h g = (l : ℕ) → InUse h l → l ≤ g

-- With so many numbers from g + 1 on, and more, as choices, a run ends without asking, whatever the
-- further ones are; where it is done, it has taken exactly these many, and none is left greater than
-- the last that it took.
pub data Served (g : ℕ) (result : List ℕ → RunResult) : Type 0 where
  served_done : (count : ℕ) (v : RunValue) (k : Heap)
      → NoneAbove k (g + count)
      → ((more : ℕ) → result (numbers_from (suc g) (count + more)) ≡ done v k (numbers_from (suc (g + count)) more))
      → Served g result
  served_no_fuel : (count : ℕ) → ((more : ℕ) → result (numbers_from (suc g) (count + more)) ≡ no_fuel) → Served g result
  served_fault : (count : ℕ) → ((more : ℕ) → result (numbers_from (suc g) (count + more)) ≡ fault) → Served g result

pub record ShippedChoicesSuffice : Type 0 where
  -- each run with the shipped choices ends without asking, where there are enough of them
  pub run_is_served : (items : Items) (n : ℕ) (e : Env) (comp : CompTree) (h : Heap) (g : ℕ)
      → IsGreatest h g
      → Served g (run items n e comp h)
  -- each heap has a greatest location, and one alone
  pub greatest_exists : (h : Heap) → IsHeap h → (g : ℕ) × IsGreatest h g
  pub greatest_is_one : (h : Heap) (g k : ℕ) → IsGreatest h g → IsGreatest h k → g ≡ k
