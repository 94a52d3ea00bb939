-- What the reader of a heap file finds: a line that may follow.
use Rattle.std.specs.Prelude.{◌≡◌, ℕ, ◌<◌, ◌^◌, List, All}
use Rattle.theory_values.specs.Values.{IsWord}
use Rattle.theory_values.specs.Heaps.{Block}
use Rattle.heap_model_text.specs.HeapText.{block_text}

-- the text of a line, without its line feed, is that of a block that may stand after the last location
pub record IsNext (text : List ℕ) (last : ℕ) (p : ℕ × Block) : Type 0 where
  pub written : text ≡ block_text p
  pub above : last < p.0
  pub below : p.0 < 2 ^ 63
  pub of_words : All IsWord p.1
