-- The laws of heaps.
use Rattle.std.specs.Prelude.{◌≡◌, ℕ, ◌<◌, All}
use Rattle.theory_values.specs.Values.{IsWord}
use Rattle.theory_values.specs.Heaps.{Block, Heap, IsHeap, empty_heap, single_block, IsSame, IsEmpty, IsOnly, IsJoin}

pub record HeapLaws : Type 0 where
  pub join_commutes : {h a b : Heap} → IsJoin h a b → IsJoin h b a
  -- both ways to bracket anew
  pub join_right : {h a b c d : Heap} → IsJoin h a b → IsJoin a c d → (k : Heap) × IsJoin h c k × IsJoin k d b
  pub join_left : {h a b c d : Heap} → IsJoin h a b → IsJoin b c d → (k : Heap) × IsJoin h k d × IsJoin k a c
  -- the parts determine the whole, and the whole and one part the other
  pub join_is_one : {h k a b : Heap} → IsJoin h a b → IsJoin k a b → IsSame h k
  pub join_cancels : {h a b c : Heap} → IsJoin h a b → IsJoin h a c → IsSame b c
  -- two ways to split a heap have four corners
  pub join_crosses : {h a b c d : Heap}
      → IsJoin h a b
      → IsJoin h c d
      → (ac : Heap)
      × (ad : Heap)
      × (bc : Heap)
      × (bd : Heap)
      × IsJoin a ac ad
      × IsJoin b bc bd
      × IsJoin c ac bc
      × IsJoin d ad bd
  pub join_of_empty : (h : Heap) → IsJoin h empty_heap h
  pub join_with_empty : {h a b : Heap} → IsJoin h a b → IsEmpty a → IsSame h b
  -- a part of a heap is a heap, and two disjoint heaps have a heap as their union
  pub part_is_heap : {h a b : Heap} → IsJoin h a b → IsHeap h → IsHeap a × IsHeap b
  pub join_is_heap : {h a b : Heap} → IsJoin h a b → IsHeap a → IsHeap b → IsHeap h
  -- one block; a heap, where its place and its words are words
  pub single_is_only : (l : ℕ) (b : Block) → IsOnly (single_block l b) l b
  pub only_is_heap : {h : Heap} {l : ℕ} {b : Block} → IsOnly h l b → 0 < l → IsWord l → All IsWord b → IsHeap h
  -- two parts of one block at one place are the same, and so is what is left
  pub only_parts : {h a b c d : Heap} {l : ℕ} {x y : Block}
      → IsJoin h a b
      → IsOnly a l x
      → IsJoin h c d
      → IsOnly c l y
      → (x ≡ y) × IsSame b d
