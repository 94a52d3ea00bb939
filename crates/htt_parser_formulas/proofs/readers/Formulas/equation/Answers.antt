use Rattle.std.proofs.Common.{◌-◌, refl}
use Rattle.htt_parser_trees.specs.TreeLevels.{raw_fatom_eq}
use Rattle.htt_parser_words.proofs.Steps.{stopped, after_err, reading}
use Rattle.htt_parser_formulas.proofs.readers.Formulas.equation.Goals as goal

pub returns-in_err-mono : goal.returns-in_err-mono
unfolding reading
returns-in_err-mono g c = stopped _ _ _ _ _ c.from_residual.ensures.1 (after_err _ _ _ _ c.in_err-mono.ensures)

pub returns-in_err-other : goal.returns-in_err-other
unfolding reading
returns-in_err-other g c = stopped _ _ _ _ _ c.from_residual-in_err-other.ensures.1 (rw c.in_ok-mono.ensures (after_err _ _ _ _ c.in_err-other.ensures))

pub returns : goal.returns
unfolding reading
returns g c = rw (c.in_ok-mono.ensures, c.in_ok-other.ensures, raw_fatom_eq) refl
