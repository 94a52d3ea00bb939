use Rattle.std.proofs.Common.{◌∙◌, ap, sym, refl}
use Rattle.word_loader_code.specs.Machine.{goes_on}
use Rattle.word_machine_frames.proofs.Stacks.{goes_on-stack_of, locals-view}
use Rattle.word_machine_frames.proofs.frames.Frames.jump.Goals as goal

pub returns : goal.returns
returns c =
    goes_on-stack_of _ _ _ _ _ _ c.self.view_is refl ∙ ap (goes_on c.args.self.now c.args.target) (sym (locals-view _ _ _ _ c.self.view_is))
