-- The laws of the written machine for valid code.
use Rattle.std.specs.Prelude.{ℕ, ◌≡◌, ◌≤◌, ◌⊎◌, List, [], ◌∷◌, Option, Some, slice_get}
use Rattle.theory_values.specs.Heaps.{Heap, InUse}
use Rattle.theory_meaning.specs.Choices.{AreShipped}
use Rattle.word_loader_code.specs.declared.code.Code.{Code}
use Rattle.word_loader_code.specs.declared.code.Instr.{Instr}
use Rattle.word_loader_code.specs.declared.code.Instr.TheVariants.{Alloc}
use Rattle.word_loader_code.specs.Valid.{IsValid}
use Rattle.word_loader_code.specs.Machine.{Machine, Stack, going, asking, step, started, machine_after}
use Rattle.word_loader_code.specs.Laws.{Asks}
use Rattle.theory_machine.specs.Fits.{FitsCode, StackFits, next_instr}

pub record FramesKeepFitting : Type 0 where
  -- at the start, after a step, and so after any number of steps
  pub at_start : (code : Code) (h : Heap) (choices : List ℕ)
      → IsValid code
      → FitsCode code (started (slice_get code.functions 0) h choices)
  pub after_step : (code : Code) (machine : Machine)
      → IsValid code
      → FitsCode code machine
      → FitsCode code (step code machine)
  pub after_run : (code : Code) (h : Heap) (choices : List ℕ) (n : ℕ)
      → IsValid code
      → FitsCode code (machine_after code h choices n)

-- the first choice is missing, 0 or in use
abbrev pub CannotChoose : Heap → List ℕ → Type 0
CannotChoose h [] = Unit {0}
CannotChoose h (l ∷ choices) = (l ≡ 0) ⊎ InUse h l

-- an `alloc` is next that cannot choose
abbrev pub WantsChoice : Option Instr → Heap → List ℕ → Type 0
WantsChoice (Some (Alloc d s n)) h choices = CannotChoose h choices
WantsChoice instr h choices = ⊥

pub record AsksOnlyAtAlloc : Type 0 where
  pub asks_there : (code : Code) (h : Heap) (stack : Stack) (choices : List ℕ)
      → IsValid code
      → StackFits code stack
      → Asks (step code (going h stack choices))
      → WantsChoice (next_instr code stack) h choices
  pub only_there : (code : Code) (h : Heap) (stack : Stack) (choices : List ℕ)
      → IsValid code
      → StackFits code stack
      → WantsChoice (next_instr code stack) h choices
      → step code (going h stack choices) ≡ asking

abbrev pub ShippedChoicesSufficeForCode : Type 0
ShippedChoicesSufficeForCode =
    (code : Code) (h : Heap) (count : ℕ) (choices : List ℕ) (n : ℕ)
    → IsValid code
    → AreShipped h count choices
    → n ≤ count
    → Asks (machine_after code h choices n)
    → ⊥
