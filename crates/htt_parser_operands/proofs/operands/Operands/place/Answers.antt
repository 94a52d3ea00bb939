use Rattle.std.proofs.Common.{refl}
use Rattle.htt_parser_trees.specs.TreeLevels.{raw_atom_place}
use Rattle.htt_parser_words.proofs.Steps.{stopped, after_err, reading}
use Rattle.htt_parser_operands.proofs.operands.Operands.place.Goals as goal

pub returns-in_err-value : goal.returns-in_err-value
unfolding reading
returns-in_err-value g c = stopped _ _ _ _ _ c.from_residual.ensures.1 (after_err _ _ _ _ c.in_err-value.ensures)

pub returns : goal.returns
unfolding reading
returns g c = rw (c.in_ok-value.ensures, raw_atom_place) refl
