-- A heap as a list: its blocks, each with its location, by ascending location.
use Rattle.std.specs.Prelude.{◌≡◌, ℕ, ◌+◌, ◌<◌, List, [], ◌∷◌, length, sum_by, ⊤}
use Rattle.theory_values.specs.Heaps.{Heap, Block, IsSame, empty_heap, with_block}

-- the heap with these blocks; of two at one location the first counts
abbrev pub heap_of_list : List (ℕ × Block) → Heap
heap_of_list [] = empty_heap
heap_of_list (p ∷ ps) = with_block (heap_of_list ps) p.0 p.1

-- each location is above the one before it, and the first above the bound
abbrev pub AscendsAbove : ℕ → List (ℕ × Block) → Type 0
AscendsAbove bound [] = ⊤
AscendsAbove bound (p ∷ ps) = (bound < p.0) × AscendsAbove p.0 ps

-- the list has exactly the blocks of the heap, by ascending location, from 1 on
pub record IsListing (h : Heap) (blocks : List (ℕ × Block)) : Type 0 where
  pub ascending : AscendsAbove 0 blocks
  pub same_blocks : IsSame h (heap_of_list blocks)

-- over all blocks, the words plus 1
abbrev pub listing_size : List (ℕ × Block) → ℕ
listing_size blocks = sum_by (λ p. length p.1 + 1) blocks

-- how much of the limit on heaps this heap takes
pub record IsSize (h : Heap) (n : ℕ) : Type 0 where
  pub blocks : List (ℕ × Block)
  pub is_listing : IsListing h blocks
  pub counted : n ≡ listing_size blocks
