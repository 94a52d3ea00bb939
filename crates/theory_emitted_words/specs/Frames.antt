-- A machine in a frame, and where instructions stand.
use Rattle.std.specs.Prelude.{◌≡◌, ℕ, ◌+◌, List, [], ◌∷◌, Some, slice_get}
use Rattle.theory_values.specs.Heaps.{Heap}
use Rattle.word_loader_code.specs.declared.code.Code.{Code}
use Rattle.word_loader_code.specs.declared.code.Instr.{Instr}
use Rattle.word_loader_code.specs.Machine.{Frame, Stack, with_top, Machine, going, after_steps}

-- What stands around the locals of the top frame: the code, the number of the frame's function, the heap, the
-- stack, whose own top frame doesn't count, and the choices that are left.
pub record FrameSite : Type 0 where
  pub code : Code
  pub number : ℕ
  pub heap : Heap
  pub stack : Stack
  pub choices : List ℕ

abbrev pub frame_at : FrameSite → ℕ → List ℕ → Frame
frame_at a next locals = record { function = a.number; next = next; locals = locals }

-- The machine whose top frame goes on at a place of its body, with these locals.
abbrev pub machine_at : FrameSite → ℕ → List ℕ → Machine
machine_at a next locals = going a.heap (with_top a.stack (frame_at a next locals)) a.choices

-- After some number of steps the one machine is the other.
pub record Leads (code : Code) (before after : Machine) : Type 0 where
  pub steps : ℕ
  pub there : after_steps code before steps ≡ after

-- The instructions stand in a body from a place on.
abbrev pub InstrsAt : List Instr → ℕ → List Instr → Type 0
InstrsAt body at [] = Unit {0}
InstrsAt body at (i ∷ others) = (slice_get body at ≡ Some i) × InstrsAt body (at + 1) others
