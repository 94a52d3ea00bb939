use Rattle.std.proofs.Common.{◌-◌, refl}
use Rattle.htt_parser_trees.specs.TreeLevels.{raw_ty_all}
use Rattle.htt_parser_words.proofs.Steps.{stopped, after_err, reading}
use Rattle.htt_parser_terms.proofs.readers.Terms.all_ty.Goals as goal

pub returns-in_err-parameter : goal.returns-in_err-parameter
unfolding reading
returns-in_err-parameter g c = stopped _ _ _ _ _ c.from_residual.ensures.1 (after_err _ _ _ _ c.in_err-parameter.ensures)

pub returns-in_err-at : goal.returns-in_err-at
unfolding reading
returns-in_err-at g c = stopped _ _ _ _ _ c.from_residual-in_err-at.ensures.1 (rw c.in_ok-parameter.ensures (after_err _ _ _ _ c.in_err-at.ensures))

pub returns-in_err-at-2 : goal.returns-in_err-at-2
unfolding reading
returns-in_err-at-2 g c =
    stopped _ _ _ _ _ c.from_residual-in_err-at-2.ensures.1
    (rw (c.in_ok-parameter.ensures, c.in_ok-at.ensures) (after_err _ _ _ _ c.in_err-at-2.ensures))

pub returns-in_err-body : goal.returns-in_err-body
unfolding reading
returns-in_err-body g c =
    stopped _ _ _ _ _ c.from_residual-in_err-body.ensures.1
    (rw (c.in_ok-parameter.ensures, c.in_ok-at.ensures, c.in_ok-at-2.ensures) (after_err _ _ _ _ c.in_err-body.ensures))

pub returns : goal.returns
unfolding reading
returns g c = rw (c.in_ok-parameter.ensures, c.in_ok-at.ensures, c.in_ok-at-2.ensures, c.in_ok-body.ensures, raw_ty_all) refl
