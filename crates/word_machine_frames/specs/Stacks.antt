-- What the operations of the frames come to, on a stack of the written machine.
use Rattle.std.specs.Prelude.{ℕ, ◌≡◌, ◌+◌, ◌≤◌, List, length, Bool, true, false}
use Rattle.word_loader_code.specs.Machine.{Stack, bottom, above, top, with_words, goes_on}

-- the locals of the top frame
abbrev pub locals_of : Stack → List ℕ
locals_of stack = (top stack).locals

-- the top frame has these words from a place on, and goes on at its next instruction
abbrev pub written : Stack → ℕ → List ℕ → Stack
written stack place words = goes_on stack ((top stack).next + 1) (with_words (locals_of stack) place words)

-- locals plus 1, over all frames, and over those below the top one
unfoldable pub frame_total : Stack → ℕ
frame_total (bottom frame) = length frame.locals + 1
frame_total (above frame d below) = length frame.locals + 1 + frame_total below

abbrev pub total_below : Stack → ℕ
total_below (bottom frame) = 0
total_below (above frame d below) = frame_total below

-- so many words fit where the result of the top frame goes
abbrev pub ResultFits : Stack → ℕ → Type 0
ResultFits (bottom frame) n = Unit {0}
ResultFits (above frame d below) n = d + n ≤ length (locals_of below)

-- the top frame returns these words: the frame below goes on with them in their place; from the
-- bottom frame nothing changes
abbrev pub ReturnsTo : Stack → List ℕ → Stack → Bool → Type 0
ReturnsTo (bottom frame) words after popped = (popped ≡ false) × (after ≡ bottom frame)
ReturnsTo (above frame d below) words after popped =
    (popped ≡ true) × (after ≡ goes_on below (top below).next (with_words (locals_of below) d words))
