use Rattle.std.proofs.Common.{◌-◌, refl}
use Rattle.htt_parser_trees.specs.TreeLevels.{raw_appl_unary}
use Rattle.htt_parser_words.proofs.Steps.{stopped, after_err, reading}
use Rattle.htt_parser_operands.proofs.operands.Operands.unary.Goals as goal

pub returns-in_err-operand : goal.returns-in_err-operand
unfolding reading
returns-in_err-operand g c = stopped _ _ _ _ _ c.from_residual.ensures.1 (after_err _ _ _ _ c.in_err-operand.ensures)

pub returns : goal.returns
unfolding reading
returns g c = rw (c.in_ok-operand.ensures, raw_appl_unary) refl
