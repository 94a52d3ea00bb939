-- The locations of a heap next to a location, and the length of a block.
use Rattle.std.specs.Prelude.{ℕ, ◌<◌, ◌≤◌, Bool, false, Option, Some, None, length, nat_eq}
use Rattle.theory_values.specs.Heaps.{Heap, Block, InUse}

-- the least location of the heap that is greater than l
pub record IsLeastAbove (h : Heap) (l m : ℕ) : Type 0 where
  pub above : l < m
  pub in_use : InUse h m
  pub least : (k : ℕ) → InUse h k → l < k → m ≤ k

-- no location of the heap is greater than l
abbrev pub NoneAbove : Heap → ℕ → Type 0
NoneAbove h l = (k : ℕ) → InUse h k → k ≤ l

-- whether a block is there, and of this length
abbrev pub is_of_length : Option Block → ℕ → Bool
is_of_length None n = false
is_of_length (Some block) n = nat_eq (length block) n
