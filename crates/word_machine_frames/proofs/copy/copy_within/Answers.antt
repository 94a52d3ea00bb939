use Rattle.std.proofs.Common.{◌∙◌}
use Rattle.word_machine_frames.proofs.Copies.{copied_within}
use Rattle.word_machine_frames.proofs.copy.copy_within.Goals as goal

pub returns : goal.returns
returns c = c.copy_within.ensures.after ∙ copied_within c.args.words.now c.args.to c.args.from c.args.count c.requires.read
