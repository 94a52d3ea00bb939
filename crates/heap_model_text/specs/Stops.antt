-- The cause of each stop of the reader.
use Rattle.std.specs.Prelude.{ℕ, List, ⊤}
use Rattle.heap_model_text.specs.HeapText.{IsBadLine}
use Rattle.heap_model_text.specs.declared.stop.HeapStop.{HeapStop}
use Rattle.heap_model_text.specs.declared.stop.HeapStop.TheVariants.{BadHeap, NoMemory}

-- nothing is claimed of want of memory
abbrev pub HasCause : List ℕ → HeapStop → Type 0
HasCause bytes (BadHeap line) = IsBadLine bytes line
HasCause bytes NoMemory = ⊤
