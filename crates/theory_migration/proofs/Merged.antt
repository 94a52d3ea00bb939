-- The stack of migrated code: the stack of the old code without the frames that wait to return, as it is, the
-- result of the frame above them.
use Rattle.std.proofs.Common.{◌≡◌, ℕ, zero, suc, ◌+◌, List, Bool, true, false, Option, Some, None, slice_get, refl, sym, ap, ◌∙◌}
use Rattle.theory_values.specs.Heaps.{Heap}
use Rattle.word_loader_code.specs.declared.code.Code.{Code}
use Rattle.word_loader_code.specs.declared.code.Function.{Function}
use Rattle.word_loader_code.specs.declared.code.Instr.{Instr}
use Rattle.word_loader_code.specs.Machine.{Frame, Stack, bottom, above, top, with_top, goes_on, Machine, going, halted, faulted, asking, returned}
use Rattle.theory_migration.specs.Migration.{is_returned}

-- a frame waits at the return of what it gets at d from the function with number g
abbrev pub waits_in : Code → Option Function → ℕ → ℕ → ℕ → Bool
waits_in code (Some f) next d g = is_returned code f g d (slice_get f.body next)
waits_in code None next d g = false

abbrev pub waits : Code → Frame → ℕ → ℕ → Bool
waits code frame d g = waits_in code (slice_get code.functions frame.function) frame.next d g

abbrev pub merged_above : Bool → Frame → ℕ → Stack → Stack
merged_above true frame d below = with_top below frame
merged_above false frame d below = above frame d below

abbrev pub merged : Code → Stack → Stack
merged code (bottom frame) = bottom frame
merged code (above frame d below) = merged_above (waits code (top below) d frame.function) frame d (merged code below)

abbrev pub merged_machine : Code → Machine → Machine
merged_machine code (going h stack choices) = going h (merged code stack) choices
merged_machine code machine = machine

top_of_with : (stack : Stack) (frame : Frame) → top (with_top stack frame) ≡ frame
top_of_with (bottom old) frame = refl
top_of_with (above old d below) frame = refl

with_twice : (stack : Stack) (first second : Frame) → with_top (with_top stack first) second ≡ with_top stack second
with_twice (bottom old) first second = refl
with_twice (above old d below) first second = refl

top_above : (b : Bool) (frame : Frame) (d : ℕ) (below : Stack) → top (merged_above b frame d below) ≡ frame
top_above true frame d below = top_of_with below frame
top_above false frame d below = refl

pub top_merged : (code : Code) (stack : Stack) → top (merged code stack) ≡ top stack
top_merged code (bottom frame) = refl
top_merged code (above frame d below) = top_above (waits code (top below) d frame.function) frame d (merged code below)

with_above : (b : Bool) (old frame : Frame) (d : ℕ) (below : Stack) → with_top (merged_above b old d below) frame ≡ merged_above b frame d below
with_above true old frame d below = with_twice below old frame
with_above false old frame d below = refl

-- another frame on top, whose function returns as many words
pub merged_with : (code : Code) (stack : Stack) (frame : Frame)
    → ((below : Frame) (d : ℕ) → waits code below d frame.function ≡ waits code below d (top stack).function)
    → merged code (with_top stack frame) ≡ with_top (merged code stack) frame
merged_with code (bottom old) frame same = refl
merged_with code (above old d below) frame same =
    ap (λ b. merged_above b frame d (merged code below)) (same (top below) d)
    ∙ sym (with_above (waits code (top below) d old.function) old frame d (merged code below))

pub merged_goes_on : (code : Code) (stack : Stack) (next : ℕ) (locals : List ℕ)
    → merged code (goes_on stack next locals) ≡ goes_on (merged code stack) next locals
merged_goes_on code stack next locals =
    merged_with code stack (record (top stack) { next = next; locals = locals }) (λ below d. refl)
    ∙ (λ j. with_top (merged code stack) (record (sym (top_merged code stack) j) { next = next; locals = locals }))

-- what is returned doesn't depend on the frame that returns it
pub returned_with : (h : Heap) (stack : Stack) (frame : Frame) (words choices : List ℕ)
    → returned h (with_top stack frame) words choices ≡ returned h stack words choices
returned_with h (bottom old) frame words choices = refl
returned_with h (above old d below) frame words choices = refl

-- a call: the frame below goes on behind it, where it waits or doesn't
pub merged_call : (code : Code) (stack : Stack) (frame : Frame) (d next : ℕ) (locals : List ℕ) (b : Bool)
    → waits code (top (goes_on stack next locals)) d frame.function ≡ b
    → merged code (above frame d (goes_on stack next locals)) ≡ merged_above b frame d (goes_on (merged code stack) next locals)
merged_call code stack frame d next locals b q = λ j. merged_above (q j) frame d (merged_goes_on code stack next locals j)

pub tail_merged : (stack : Stack) (frame : Frame) (next : ℕ) (locals : List ℕ) → with_top (goes_on stack next locals) frame ≡ with_top stack frame
tail_merged stack frame next locals = with_twice stack (record (top stack) { next = next; locals = locals }) frame
