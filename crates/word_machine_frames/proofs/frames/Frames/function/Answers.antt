use Rattle.std.proofs.Common.{sym, ap}
use Rattle.word_loader_code.specs.Machine.{Frame}
use Rattle.word_machine_frames.proofs.Stacks.{top-view}
use Rattle.word_machine_frames.proofs.frames.Frames.function.Goals as goal

pub returns : goal.returns
returns c = sym (ap (λ (frame : Frame). frame.function) (top-view _ _ _ _ c.self.view_is))
