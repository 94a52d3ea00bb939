-- How the two vectors stand for a stack.
use Rattle.std.specs.Prelude.{ℕ, ◌≡◌, ◌≤◌, List, [], ◌∷◌, take, drop}
use Rattle.word_loader_code.specs.Machine.{Frame, Stack, bottom, above}
use Rattle.word_machine_frames.specs.declared.frames.Activation.{Activation}

abbrev pub frame_of : Activation → List ℕ → Frame
frame_of a locals = record { function = a.function; next = a.next; locals = locals }

-- the stack of an activation over others, the nearest first: the words from its start on are its
-- locals, and those before it are the locals of the others
unfoldable pub stack_of : List ℕ → Activation → List Activation → Stack
stack_of words a [] = bottom (frame_of a (drop a.start words))
stack_of words a (b ∷ below) = above (frame_of a (drop a.start words)) a.place (stack_of (take a.start words) b below)

-- the locals begin in order, those of the bottom frame at 0, and none begins past the end
unfoldable pub StandInOrder : ℕ → ℕ → List Activation → Type 0
StandInOrder end start [] = start ≡ 0
StandInOrder end start (b ∷ below) = (start ≤ end) × StandInOrder start b.start below
