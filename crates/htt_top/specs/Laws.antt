-- A law of runs from a heap file.
use Rattle.std.specs.Prelude.{ℕ, ◌≤◌, List, length}
use Rattle.htt_syntax_words.specs.declared.words.Which.TheVariants.{HeapFile}
use Rattle.theory_values.specs.Heaps.{Heap}
use Rattle.heap_model_flat.specs.Listing.{IsSize}
use Rattle.heap_model_text.specs.HeapText.{IsHeapFile}
use Rattle.word_machine.specs.Runs.{heap_limit}
use Rattle.htt_top_answers.specs.Lines.{limit_of}

-- the heap of a heap file within its size is within the limit of a run
abbrev pub HeapFilesFit : Type 0
HeapFilesFit =
    (bytes : List ℕ) (h : Heap) (n : ℕ)
    → IsHeapFile bytes h
    → length bytes ≤ limit_of HeapFile
    → IsSize h n
    → n ≤ heap_limit
