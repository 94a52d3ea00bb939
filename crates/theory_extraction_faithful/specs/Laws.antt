-- The code of a file does what the run of the text of its main does, from each heap and with each list of choices.
use Rattle.std.specs.Prelude.{◌≡◌, ◌≢◌, ◌↔◌, ℕ, List, Some}
use Rattle.htt_syntax_words.specs.declared.words.Kind.{Kind}
use Rattle.theory_values.specs.Values.{Value, encoding}
use Rattle.theory_values.specs.Heaps.{Heap}
use Rattle.theory_meaning.specs.Closures.{RunValue, base, RunResult, done, fault, asks as text_asks}
use Rattle.theory_triples.specs.Triples.{run_of_val}
use Rattle.theory_typing.specs.Laws.{none}
use Rattle.theory_items.specs.Items.{ItemTree}
use Rattle.theory_file_derived.specs.Derived.{texts_of}
use Rattle.word_loader_code.specs.declared.code.Code.{Code}
use Rattle.word_loader_code.specs.Machine.{machine_after, faulted}
use Rattle.theory_instances.specs.Calls.{ProgramVal}
use Rattle.theory_flat.specs.Flat.{Instance, HasFlatInstances}
use Rattle.theory_emission.specs.Codes.{first_code}
use Rattle.theory_emitted.specs.Laws.{CodeHalts, CodeAsks}
use Rattle.theory_extraction.specs.Extraction.{HasVals, HasCode, program}

-- The run of main's text with this fuel.
abbrev pub text_run : List ItemTree → ℕ → Heap → List ℕ → ℕ → RunResult
text_run items main h choices fuel = run_of_val (texts_of items) main fuel choices h

-- With some fuel it ends with a value of these words and this heap, or it asks, or it faults.
abbrev pub TextEnds : List ItemTree → ℕ → Heap → List ℕ → List ℕ → Heap → Type 0
TextEnds items main h choices words k =
    (fuel : ℕ) × (v : Value) × (left : List ℕ)
    × (text_run items main h choices fuel ≡ done (base v) k left)
    × (words ≡ encoding v)

abbrev pub TextAsks : List ItemTree → ℕ → Heap → List ℕ → Type 0
TextAsks items main h choices = (fuel : ℕ) × (text_run items main h choices fuel ≡ text_asks)

abbrev pub TextFaults : List ItemTree → ℕ → Heap → List ℕ → Type 0
TextFaults items main h choices = (fuel : ℕ) × (text_run items main h choices fuel ≡ fault)

-- With no fuel it faults.
abbrev pub NeverFaults : List ItemTree → ℕ → Heap → List ℕ → Type 0
NeverFaults items main h choices = (fuel : ℕ) → text_run items main h choices fuel ≢ fault

-- From this heap with these choices.
pub record DoesAsText (items : List ItemTree) (main : ℕ) (code : Code) (h : Heap) (choices : List ℕ) : Type 0 where
  -- where the text never faults, the code never does, and halts and asks exactly where the text does
  pub never : NeverFaults items main h choices
      → (steps : ℕ) (kind : Kind) (l : ℕ)
      → machine_after code h choices steps ≢ faulted kind l
  pub halts : NeverFaults items main h choices
      → (words : List ℕ) (k : Heap)
      → CodeHalts code h choices words k ↔ TextEnds items main h choices words k
  pub asks : NeverFaults items main h choices → CodeAsks code h choices ↔ TextAsks items main h choices
  -- whether it faults or not: what the text ends with is a value, with whose words the code halts
  pub ends : (fuel : ℕ) (result : RunValue) (k : Heap) (left : List ℕ)
      → text_run items main h choices fuel ≡ done result k left
      → (v : Value) × (result ≡ base v) × CodeHalts code h choices (encoding v) k
  -- and where the code faults, so does the text
  pub faults : (steps : ℕ) (kind : Kind) (l : ℕ)
      → machine_after code h choices steps ≡ faulted kind l
      → TextFaults items main h choices

-- No proof is needed, and no obligation has to be true.
pub record ExtractionIsFaithful : Type 0 where
  -- of the code that a file has
  pub code : (items : List ItemTree) (main : ℕ) (code : Code)
      → HasCode items (Some main) code
      → (h : Heap) (choices : List ℕ)
      → DoesAsText items main code h choices
  -- and of the version 1 code of its instances
  pub first : (items : List ItemTree) (vals : List ProgramVal) (main : ℕ) (instances : List Instance)
      → HasVals none items vals
      → HasFlatInstances (program vals (Some main)) instances
      → (h : Heap) (choices : List ℕ)
      → DoesAsText items main (first_code instances) h choices
