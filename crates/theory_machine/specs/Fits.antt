-- Machines whose frames fit their code.
use Rattle.std.specs.Prelude.{ℕ, ◌≡◌, ◌+◌, ◌<◌, ◌≤◌, length, Option, Some, None, slice_get}
use Rattle.word_loader_code.specs.declared.code.Code.{Code}
use Rattle.word_loader_code.specs.declared.code.Function.{Function}
use Rattle.word_loader_code.specs.declared.code.Instr.{Instr}
use Rattle.word_loader_code.specs.Machine.{Frame, Stack, bottom, above, top, Machine, going}

-- the function of a frame
abbrev pub function_of : Code → Frame → Option Function
function_of code frame = slice_get code.functions frame.function

-- the instruction at a place of a function, and that at which the top frame of a stack goes on
abbrev pub instr_at : Option Function → ℕ → Option Instr
instr_at None next = None
instr_at (Some f) next = slice_get f.body next

abbrev pub next_instr : Code → Stack → Option Instr
next_instr code stack = instr_at (function_of code (top stack)) (top stack).next

-- the frame stands before an instruction of the function, with all its locals
pub record StandsIn (f : Function) (frame : Frame) : Type 0 where
  pub next : frame.next < length f.body
  pub locals : length frame.locals ≡ f.locals

abbrev pub FrameFits : Option Function → Frame → Type 0
FrameFits None frame = ⊥
FrameFits (Some f) frame = StandsIn f frame

-- a result of the function fits at this place of the frame
abbrev pub ResultHasPlace : Option Function → ℕ → Frame → Type 0
ResultHasPlace None d frame = ⊥
ResultHasPlace (Some f) d frame = d + f.result ≤ length frame.locals

-- each frame fits its function, and its result the frame below
abbrev pub StackFits : Code → Stack → Type 0
StackFits code (bottom frame) = FrameFits (function_of code frame) frame
StackFits code (above frame d below) =
    FrameFits (function_of code frame) frame
    × ResultHasPlace (function_of code frame) d (top below)
    × StackFits code below

-- a machine that goes on has frames that fit
abbrev pub FitsCode : Code → Machine → Type 0
FitsCode code (going h stack choices) = StackFits code stack
FitsCode code over = Unit {0}
