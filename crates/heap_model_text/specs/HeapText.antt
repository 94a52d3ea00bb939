-- Heap text: a line for each block of a heap, by ascending location.
use Rattle.std.specs.Prelude.{◌≡◌, ℕ, zero, suc, ◌-◌, ◌<◌, ◌^◌, List, [], ◌∷◌, ◌++◌, nat_eq, if◌then◌else◌}
use Rattle.std.specs.Fmt.{decimal}
use Rattle.theory_values.specs.Heaps.{Heap, Block, IsHeap, InUse}
use Rattle.heap_model_flat.specs.Listing.{IsListing}

-- a space and a decimal for each word
abbrev pub words_text : Block → List ℕ
words_text [] = []
words_text (w ∷ ws) = 32 ∷ (decimal w ++ words_text ws)

-- a location, a colon and the words of its block
abbrev pub block_text : ℕ × Block → List ℕ
block_text p = decimal p.0 ++ (58 ∷ words_text p.1)

-- each of them in a line, which a line feed ends
abbrev pub listing_text : List (ℕ × Block) → List ℕ
listing_text [] = []
listing_text (p ∷ ps) = block_text p ++ (10 ∷ listing_text ps)

-- the text of a heap
pub record IsHeapText (h : Heap) (text : List ℕ) : Type 0 where
  pub blocks : List (ℕ × Block)
  pub is_listing : IsListing h blocks
  pub written : text ≡ listing_text blocks

-- a file with the text of a heap whose locations are below 2 ^ 63
pub record IsHeapFile (bytes : List ℕ) (h : Heap) : Type 0 where
  pub is_heap : IsHeap h
  pub is_text : IsHeapText h bytes
  pub below : (l : ℕ) → InUse h l → l < 2 ^ 63

-- the first lines of a file, each with its line feed, where it has one
abbrev pub first_lines : ℕ → List ℕ → List ℕ
first_lines zero bytes = []
first_lines (suc n) [] = []
first_lines (suc n) (b ∷ bytes) = b ∷ first_lines (if nat_eq b 10 then n else suc n) bytes

-- the lines before this one, counted from 1, are a heap file, and with it they are none
pub record IsBadLine (bytes : List ℕ) (line : ℕ) : Type 0 where
  pub heap_before : Heap
  pub before : IsHeapFile (first_lines (line - 1) bytes) heap_before
  pub bad : (h : Heap) → IsHeapFile (first_lines line bytes) h → ⊥
