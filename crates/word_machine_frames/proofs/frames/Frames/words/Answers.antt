use Rattle.std.proofs.Common.{◌≡◌, ◌+◌, ◌-◌, arith, refl}
use Rattle.word_machine_frames.proofs.Stacks.{room, locals-view}
use Rattle.word_machine_frames.proofs.Parts.{words_at-drop}
use Rattle.word_machine_frames.proofs.frames.Frames.words.Goals as goal

pub overflow_add-from : goal.overflow_add-from
overflow_add-from c =
    let all = room _ _ _ _ c.self.view_is c.self.invariant in
    omega arith

pub overflow_add-result : goal.overflow_add-result
overflow_add-result c =
    let all = room _ _ _ _ c.self.view_is c.self.invariant in
    omega arith

pub offset_bounds-deref-from : goal.offset_bounds-deref-from
offset_bounds-deref-from c =
    let all = room _ _ _ _ c.self.view_is c.self.invariant in
    omega arith

pub slice_bounds-result-end : goal.slice_bounds-result-end
slice_bounds-result-end c =
    let all = room _ _ _ _ c.self.view_is c.self.invariant in
    omega arith

pub returns : goal.returns
returns c =
    let start = c.self.inside.top.start in
    let count : start + c.args.place + c.args.count - (start + c.args.place) ≡ c.args.count = omega arith in
    rw (count, locals-view _ _ _ _ c.self.view_is, words_at-drop, c.deref.ensures.value) refl
