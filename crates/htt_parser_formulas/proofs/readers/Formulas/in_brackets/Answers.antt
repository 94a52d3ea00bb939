use Rattle.std.proofs.Common.{◌-◌, refl}
use Rattle.htt_parser_trees.specs.TreeLevels.{raw_fatom_brackets}
use Rattle.htt_parser_words.proofs.Steps.{stopped, after_err, reading}
use Rattle.htt_parser_formulas.proofs.readers.Formulas.in_brackets.Goals as goal

pub returns-in_err-formula : goal.returns-in_err-formula
unfolding reading
returns-in_err-formula g c = stopped _ _ _ _ _ c.from_residual.ensures.1 (after_err _ _ _ _ c.in_err-formula.ensures)

pub returns-in_err-at : goal.returns-in_err-at
unfolding reading
returns-in_err-at g c = stopped _ _ _ _ _ c.from_residual-in_err-at.ensures.1 (rw c.in_ok-formula.ensures (after_err _ _ _ _ c.in_err-at.ensures))

pub returns : goal.returns
unfolding reading
returns g c = rw (c.in_ok-formula.ensures, c.in_ok-at.ensures, raw_fatom_brackets) refl
