use Rattle.std.proofs.Common.{rules, append_assoc}
use Rattle.htt_top_answers.proofs.lines.counted_line.Goals as goal

pub returns : goal.returns
returns c = simp append_assoc (search rules)
