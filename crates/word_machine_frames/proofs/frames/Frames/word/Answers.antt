use Rattle.std.proofs.Common.{◌+◌, ◌<◌, length, arith}
use Rattle.word_machine_frames.proofs.Stacks.{room, locals-view}
use Rattle.std.proofs.lemmas.List.{get_or_read}
use Rattle.word_machine_frames.proofs.Parts.{word_at-drop}
use Rattle.word_machine_frames.proofs.frames.Frames.word.Goals as goal

pub overflow_add-self-inside : goal.overflow_add-self-inside
overflow_add-self-inside c =
    let all = room _ _ _ _ c.self.view_is c.self.invariant in
    omega arith

pub index-requires : goal.index-requires
index-requires c =
    let all = room _ _ _ _ c.self.view_is c.self.invariant in
    omega arith

pub returns : goal.returns
returns c =
    let all = room _ _ _ _ c.self.view_is c.self.invariant in
    let within : c.self.inside.top.start + c.args.place < length c.self.inside.words.items = omega arith in
    rw (locals-view _ _ _ _ c.self.view_is, word_at-drop)
    (get_or_read c.self.inside.words.items (c.self.inside.top.start + c.args.place) c.index.result.now within c.index.ensures 0)
