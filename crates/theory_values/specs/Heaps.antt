-- Heaps: finite maps from locations to blocks, a block being a list of words.
use Rattle.std.specs.Prelude.{◌≡◌, ◌≢◌, ℕ, zero, suc, Bool, false, is_none, ◌<◌, List, Option, Some, None, All, nat_eq}
use Rattle.std.specs.Prelude.{if◌then◌else◌}
use Rattle.theory_values.specs.Values.{IsWord}

abbrev pub Block : Type 0
Block = List ℕ

-- What stands at each location.
abbrev pub Heap : Type 0
Heap = ℕ → Option Block

-- A block of a heap stands at a word other than 0 and holds words, so a heap is finite.
pub record IsHeap (h : Heap) : Type 0 where
  pub above_zero : (l : ℕ) (b : Block) → h l ≡ Some b → 0 < l
  pub at_words : (l : ℕ) (b : Block) → h l ≡ Some b → IsWord l
  pub of_words : (l : ℕ) (b : Block) → h l ≡ Some b → All IsWord b

abbrev pub InUse : Heap → ℕ → Type 0
InUse h l = (b : Block) × (h l ≡ Some b)

-- Whether a location may be chosen for a new block: it isn't 0, and not in use.
abbrev pub is_fresh : Heap → ℕ → Bool
is_fresh h zero = false
is_fresh h (suc l) = is_none (h (suc l))

abbrev pub empty_heap : Heap
empty_heap l = None

-- The heap with this at the location, and elsewhere as it was.
abbrev pub with_place : Heap → ℕ → Option Block → Heap
with_place h l at_place m = if nat_eq m l then at_place else h m

abbrev pub with_block : Heap → ℕ → Block → Heap
with_block h l b = with_place h l (Some b)

abbrev pub without_block : Heap → ℕ → Heap
without_block h l = with_place h l None

abbrev pub single_block : ℕ → Block → Heap
single_block l b = with_block empty_heap l b

-- Two heaps with the same blocks.
pub record IsSame (h k : Heap) : Type 0 where
  pub each : (l : ℕ) → h l ≡ k l

-- No block at all.
pub record IsEmpty (h : Heap) : Type 0 where
  pub each : (l : ℕ) → h l ≡ None

-- Exactly one block.
pub record IsOnly (h : Heap) (l : ℕ) (b : Block) : Type 0 where
  pub here : h l ≡ Some b
  pub others : (m : ℕ) → m ≢ l → h m ≡ None

-- At one location: the first is what the other two have together, of which one has nothing.
abbrev pub Joins : Option Block → Option Block → Option Block → Type 0
Joins x None b = x ≡ b
Joins x (Some a) None = x ≡ Some a
Joins x (Some a) (Some b) = ⊥

-- a and b are disjoint, and h is their union.
pub record IsJoin (h a b : Heap) : Type 0 where
  pub each : (l : ℕ) → Joins (h l) (a l) (b l)
