-- What holds of every heap text and heap file.
use Rattle.std.specs.Prelude.{◌≡◌, ℕ, ◌<◌, ◌^◌, List}
use Rattle.theory_values.specs.Heaps.{Heap, IsHeap, InUse, IsSame}
use Rattle.heap_model_text.specs.HeapText.{IsHeapText, IsHeapFile, IsBadLine}

pub record HeapTextLaws : Type 0 where
  -- a heap has one text, and a text one heap
  pub texts_agree : (h : Heap) (a b : List ℕ) → IsHeapText h a → IsHeapText h b → a ≡ b
  pub heaps_agree : (h k : Heap) (a : List ℕ) → IsHeap h → IsHeap k → IsHeapText h a → IsHeapText k a → IsSame h k
  -- the text of a heap is a heap file where the locations are below 2 ^ 63
  pub text_is_file : (h : Heap) (a : List ℕ)
      → IsHeap h
      → IsHeapText h a
      → ((l : ℕ) → InUse h l → l < 2 ^ 63)
      → IsHeapFile a h
  -- a file with a bad line is no heap file, and it has one first bad line
  pub bad_is_no_file : (a : List ℕ) (line : ℕ) (h : Heap) → IsBadLine a line → IsHeapFile a h → ⊥
  pub bad_lines_agree : (a : List ℕ) (m n : ℕ) → IsBadLine a m → IsBadLine a n → m ≡ n
