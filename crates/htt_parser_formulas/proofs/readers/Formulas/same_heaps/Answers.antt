use Rattle.std.proofs.Common.{refl}
use Rattle.htt_parser_trees.specs.TreeLevels.{raw_fatom_same}
use Rattle.htt_parser_words.proofs.Steps.{stopped, after_err, reading}
use Rattle.htt_parser_formulas.proofs.readers.Formulas.same_heaps.Goals as goal

pub returns-in_err-at : goal.returns-in_err-at
unfolding reading
returns-in_err-at g c = stopped _ _ _ _ _ c.from_residual.ensures.1 (after_err _ _ _ _ c.in_err-at.ensures)

pub returns-in_err-one : goal.returns-in_err-one
unfolding reading
returns-in_err-one g c = stopped _ _ _ _ _ c.from_residual-in_err-one.ensures.1 (rw c.in_ok-at.ensures (after_err _ _ _ _ c.in_err-one.ensures))

pub returns-in_err-at-2 : goal.returns-in_err-at-2
unfolding reading
returns-in_err-at-2 g c =
    stopped _ _ _ _ _ c.from_residual-in_err-at-2.ensures.1
    (rw (c.in_ok-at.ensures, c.in_ok-one.ensures) (after_err _ _ _ _ c.in_err-at-2.ensures))

pub returns-in_err-other : goal.returns-in_err-other
unfolding reading
returns-in_err-other g c =
    stopped _ _ _ _ _ c.from_residual-in_err-other.ensures.1
    (rw (c.in_ok-at.ensures, c.in_ok-one.ensures, c.in_ok-at-2.ensures) (after_err _ _ _ _ c.in_err-other.ensures))

pub returns-in_err-at-3 : goal.returns-in_err-at-3
unfolding reading
returns-in_err-at-3 g c =
    stopped _ _ _ _ _ c.from_residual-in_err-at-3.ensures.1
    (rw (c.in_ok-at.ensures, c.in_ok-one.ensures, c.in_ok-at-2.ensures, c.in_ok-other.ensures) (after_err _ _ _ _ c.in_err-at-3.ensures))

pub returns : goal.returns
unfolding reading
returns g c = rw (c.in_ok-at.ensures, c.in_ok-one.ensures, c.in_ok-at-2.ensures, c.in_ok-other.ensures, c.in_ok-at-3.ensures, raw_fatom_same) refl
