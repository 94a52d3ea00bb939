use Rattle.std.specs.Prelude.{slice_get}
use Rattle.std.proofs.Common.{◌≡◌, Some, get_or}
use Rattle.std.proofs.lemmas.Option.{slice_get-get_or}
use Rattle.word_loader_code.specs.declared.code.Function.{Function}
use Rattle.word_loader_code.specs.declared.code.Instr.{Instr}
use Rattle.word_loader_code.specs.declared.code.Instr.TheVariants.{Const}
use Rattle.word_loader_code.specs.Machine.{top}
use Rattle.heap_model_flat.specs.Blocks.{blocks_of}
use Rattle.word_machine.specs.States.{state_of}
use Rattle.word_machine.proofs.Stepping.{going_fits, going_is, function_within, function_read, next_read, next_of-read}
use Rattle.word_machine.proofs.machine.Machine.next_instr.Goals as goal

pub bounds-as_slice-function : goal.bounds-as_slice-function
unfolding state_of
bounds-as_slice-function c =
    let code = c.args.code.now in
    let m = c.args.self.now in
    let fits = going_fits code m.over (blocks_of m.heap) m.frames (going_is m.over (blocks_of m.heap) m.frames c.requires.going) c.requires.fits in
    rw (c.function.ensures, c.as_slice.ensures.same_items) (function_within code m.frames fits)

pub bounds-as_slice-next : goal.bounds-as_slice-next
unfolding state_of
bounds-as_slice-next c =
    let code = c.args.code.now in
    let m = c.args.self.now in
    let f : Function = c.index-as_slice-function.result in
    let fits = going_fits code m.over (blocks_of m.heap) m.frames (going_is m.over (blocks_of m.heap) m.frames c.requires.going) c.requires.fits in
    let read = rw (c.function.ensures, c.as_slice.ensures.same_items) at c.index-as_slice-function.is in
    rw (c.next.ensures, c.as_slice-2.ensures.same_items) (next_read code m.frames f fits (function_read code m.frames f fits read))

pub returns : goal.returns
unfolding state_of
returns c =
    let code = c.args.code.now in
    let m = c.args.self.now in
    let f : Function = c.index-as_slice-function.result in
    let none = going_is m.over (blocks_of m.heap) m.frames c.requires.going in
    let fits = going_fits code m.over (blocks_of m.heap) m.frames none c.requires.fits in
    let read = rw (c.function.ensures, c.as_slice.ensures.same_items) at c.index-as_slice-function.is in
    let there = function_read code m.frames f fits read in
    let within = next_read code m.frames f fits there in
    let i : Instr = get_or c.as_slice-2.result.now c.next.result (Const 0 0) in
    let i_is : slice_get f.body (top m.frames).next ≡ Some i =
    rw (c.next.ensures, c.as_slice-2.ensures.same_items) (slice_get-get_or f.body (top m.frames).next (Const 0 0) within) in
    record { function = there; instr = i_is; next = next_of-read code m.over (blocks_of m.heap) m.frames f i none there i_is }
