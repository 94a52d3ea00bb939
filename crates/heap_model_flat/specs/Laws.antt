-- What holds of every heap, its listing and its size.
use Rattle.std.specs.Prelude.{◌≡◌, ℕ, ◌+◌, ◌<◌, List, length, Some, None}
use Rattle.theory_values.specs.Heaps.{Heap, Block, empty_heap, with_block, without_block}
use Rattle.heap_model_flat.specs.Listing.{IsListing, IsSize}

pub record ListingLaws : Type 0 where
  -- a heap has at most one listing, and so one size
  pub listings_agree : (h : Heap) (xs ys : List (ℕ × Block)) → IsListing h xs → IsListing h ys → xs ≡ ys
  pub sizes_agree : (h : Heap) (m n : ℕ) → IsSize h m → IsSize h n → m ≡ n
  -- how the size changes with a block that is put, written or removed
  pub size_of_empty : IsSize empty_heap 0
  pub size_with_new : (h : Heap) (l n : ℕ) (b : Block)
      → 0 < l
      → h l ≡ None
      → IsSize h n
      → IsSize (with_block h l b) (n + (length b + 1))
  pub size_with_written : (h : Heap) (l n : ℕ) (a b : Block)
      → h l ≡ Some a
      → length a ≡ length b
      → IsSize h n
      → IsSize (with_block h l b) n
  pub size_without : (h : Heap) (l n : ℕ) (a : Block)
      → h l ≡ Some a
      → IsSize h (n + (length a + 1))
      → IsSize (without_block h l) n
