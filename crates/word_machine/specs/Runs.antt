-- The limits of a run, and how it ends.
use Rattle.std.specs.Prelude.{ℕ, ◌≡◌, ◌+◌, ◌<◌, ◌≤◌, List, Option, Some, None, slice_get}
use Rattle.htt_syntax_words.specs.declared.words.Bound.{Bound}
use Rattle.htt_syntax_words.specs.declared.words.Bound.TheVariants as bounds
use Rattle.theory_values.specs.Heaps.{Heap}
use Rattle.theory_meaning.specs.Choices.{AreShipped}
use Rattle.heap_model_flat.specs.Listing.{IsSize}
use Rattle.heap_model_flat.specs.Blocks.{blocks_of}
use Rattle.word_machine_frames.specs.Stacks.{frame_total, total_below}
use Rattle.word_loader_code.specs.declared.code.Code.{Code}
use Rattle.word_loader_code.specs.declared.code.Function.{Function}
use Rattle.word_loader_code.specs.declared.code.Instr.{Instr}
use Rattle.word_loader_code.specs.declared.code.Instr.TheVariants.{Alloc, Call, Tail}
use Rattle.word_loader_code.specs.Machine.{Machine as State, Stack, going, halted, faulted, machine_after}
use Rattle.theory_machine.specs.Fits.{next_instr}
use Rattle.word_machine.specs.Steps.{IsGoing}
use Rattle.word_machine.specs.declared.runs.End.{End}
use Rattle.word_machine.specs.declared.runs.End.TheVariants.{Halted, Fault, Stopped}

-- the most locals plus 1, over all frames, and the most words plus 1, over all blocks
abbrev pub frame_limit : ℕ
frame_limit = 16000000

abbrev pub heap_limit : ℕ
heap_limit = 16000000

-- a new frame of the function beside the others would pass the limit, with this total
abbrev pub PassesFrames : Option Function → ℕ → ℕ → Type 0
PassesFrames None others total = ⊥
PassesFrames (Some f) others total = (total ≡ others + (f.locals + 1)) × (frame_limit < total)

-- a new block of n words would
abbrev pub PassesHeap : Heap → ℕ → ℕ → Type 0
PassesHeap h n total = (size : ℕ) × IsSize h size × (total ≡ size + (n + 1)) × (heap_limit < total)

-- the instruction would pass this limit, with the total that it would reach; a tail call first takes
-- off the frame that it replaces
abbrev pub PassesLimit : Code → Heap → Stack → Option Instr → Bound → ℕ → Type 0
PassesLimit code h stack (Some (Call g a d)) bounds.Frame total =
    PassesFrames (slice_get code.functions g) (frame_total stack) total
PassesLimit code h stack (Some (Tail g a)) bounds.Frame total =
    PassesFrames (slice_get code.functions g) (total_below stack) total
PassesLimit code h stack (Some (Alloc d s n)) bounds.Heap total = PassesHeap h n total
PassesLimit code h stack instr bound total = ⊥

abbrev pub StopsAt : Code → State → Bound → ℕ → Type 0
StopsAt code (going h stack choices) bound total = PassesLimit code h stack (next_instr code stack) bound total
StopsAt code over bound total = ⊥

-- no limit stops any of the first n steps
abbrev pub Unstopped : Code → Heap → List ℕ → ℕ → Type 0
Unstopped code h choices n =
    (k : ℕ) → k < n → (bound : Bound) (total : ℕ) → StopsAt code (machine_after code h choices k) bound total → ⊥

-- the run comes to this state within its steps, and no limit came first
pub record Reaches (code : Code) (h : Heap) (choices : List ℕ) (steps : ℕ) (state : State) : Type 0 where
  pub count : ℕ
  pub within : count ≤ steps
  pub unstopped : Unstopped code h choices count
  pub there : machine_after code h choices count ≡ state

-- this limit stops the run before it has used its steps, and no limit came first
pub record IsStopped (code : Code) (h : Heap) (choices : List ℕ) (steps : ℕ) (bound : Bound) (total : ℕ) : Type 0 where
  pub count : ℕ
  pub within : count < steps
  pub unstopped : Unstopped code h choices count
  pub stops : StopsAt code (machine_after code h choices count) bound total

-- the run has used its steps and would go on
pub record UsesSteps (code : Code) (h : Heap) (choices : List ℕ) (steps : ℕ) : Type 0 where
  pub unstopped : Unstopped code h choices steps
  pub going : IsGoing (machine_after code h choices steps)

abbrev pub EndsAs : Code → Heap → List ℕ → ℕ → End → Type 0
EndsAs code h choices steps (Halted words k) = Reaches code h choices steps (halted words (blocks_of k))
EndsAs code h choices steps (Fault kind l) = Reaches code h choices steps (faulted kind l)
EndsAs code h choices steps (Stopped bounds.Step count) = (count ≡ steps) × UsesSteps code h choices steps
EndsAs code h choices steps (Stopped bound total) = IsStopped code h choices steps bound total

-- the end of a run of so many steps with the shipped choices of its heap
abbrev pub EndsShipped : Code → Heap → ℕ → End → Type 0
EndsShipped code h steps end = (choices : List ℕ) × AreShipped h steps choices × EndsAs code h choices steps end
