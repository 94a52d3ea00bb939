-- What a step answers, and what it leaves.
use Rattle.std.specs.Prelude.{ℕ, ◌≡◌, ◌+◌, List, ◌∷◌, length, nat_eq, if◌then◌else◌, Option, Some, None}
use Rattle.theory_values.specs.Heaps.{Heap, Block}
use Rattle.word_machine_frames.specs.Stacks.{locals_of}
use Rattle.word_loader_code.specs.declared.code.Code.{Code}
use Rattle.word_loader_code.specs.declared.code.Instr.{Instr}
use Rattle.word_loader_code.specs.declared.code.Instr.TheVariants.{Alloc}
use Rattle.word_loader_code.specs.Machine.{Machine as State, Stack, going, halted, faulted, asking, step}
use Rattle.theory_machine.specs.Fits.{next_instr}
use Rattle.word_machine.specs.declared.stepped.Stepped.{Stepped}
use Rattle.word_machine.specs.declared.stepped.Stepped.TheVariants.{Going, Halted, Fault, Asks}

-- a state with these choices
abbrev pub with_choices : State → List ℕ → State
with_choices (going h stack old) choices = going h stack choices
with_choices over choices = over

-- the choices that an instruction leaves: an `alloc` uses the first
abbrev pub choices_left : Option Instr → ℕ → List ℕ → List ℕ
choices_left (Some (Alloc d s n)) l rest = rest
choices_left instr l rest = l ∷ rest

-- the location to choose next, where the choices are numbers in a row
abbrev pub next_fresh : Option Instr → ℕ → ℕ
next_fresh (Some (Alloc d s n)) l = l + 1
next_fresh instr l = l

-- the next instruction of a state that goes on
abbrev pub next_of : Code → State → Option Instr
next_of code (going h stack choices) = next_instr code stack
next_of code over = None

abbrev pub IsGoing : State → Type 0
IsGoing (going h stack choices) = Unit {0}
IsGoing over = ⊥

abbrev pub IsHalted : State → Type 0
IsHalted (halted words h) = Unit {0}
IsHalted other = ⊥

-- where the written machine came to, as an answer and the state after it; where it asks, nothing has
-- changed
abbrev pub Comes : State → State → List ℕ → Stepped → State → Type 0
Comes before written left Going after = IsGoing after × (written ≡ with_choices after left)
Comes before written left Halted after = IsHalted after × (written ≡ after)
Comes before written left (Fault kind l) after = (after ≡ faulted kind l) × (written ≡ after)
Comes before written left Asks after = (after ≡ before) × (written ≡ asking)

-- a step of the written machine with a first choice and these behind it
abbrev pub StepsTo : Code → State → ℕ → List ℕ → Stepped → State → Type 0
StepsTo code before fresh rest stepped after =
    Comes before (step code (with_choices before (fresh ∷ rest))) (choices_left (next_of code before) fresh rest)
    stepped after

-- the same over a heap and the frames, for a machine that goes on
abbrev pub Performs : Stepped → Heap → Stack → Heap → Stack → List ℕ → State → Type 0
Performs Going h stack h' stack' left written = written ≡ going h' stack' left
Performs Halted h stack h' stack' left written = written ≡ halted (locals_of stack') h'
Performs (Fault kind l) h stack h' stack' left written = written ≡ faulted kind l
Performs Asks h stack h' stack' left written = (written ≡ asking) × (h' ≡ h) × (stack' ≡ stack)

-- a block of this length
abbrev pub fitting : Option Block → ℕ → Option Block
fitting None n = None
fitting (Some block) n = if nat_eq (length block) n then Some block else None
