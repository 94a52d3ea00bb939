use Rattle.std.proofs.Common.{◌-◌, refl}
use Rattle.theory_grammar.specs.Phrases.{quantified}
use Rattle.htt_parser_words.proofs.Steps.{stopped, after_err, reading}
use Rattle.htt_parser_formulas.proofs.readers.Formulas.quantified.Goals as goal

pub returns-in_err-name : goal.returns-in_err-name
unfolding reading quantified
returns-in_err-name g c = stopped _ _ _ _ _ c.from_residual.ensures.1 (after_err _ _ _ _ c.in_err-name.ensures)

pub returns-in_err-at : goal.returns-in_err-at
unfolding reading quantified
returns-in_err-at g c = stopped _ _ _ _ _ c.from_residual-in_err-at.ensures.1 (rw c.in_ok-name.ensures (after_err _ _ _ _ c.in_err-at.ensures))

pub returns-in_err-sort : goal.returns-in_err-sort
unfolding reading quantified
returns-in_err-sort g c =
    stopped _ _ _ _ _ c.from_residual-in_err-sort.ensures.1
    (rw (c.in_ok-name.ensures, c.in_ok-at.ensures) (after_err _ _ _ _ c.in_err-sort.ensures))

pub returns-in_err-at-2 : goal.returns-in_err-at-2
unfolding reading quantified
returns-in_err-at-2 g c =
    stopped _ _ _ _ _ c.from_residual-in_err-at-2.ensures.1
    (rw (c.in_ok-name.ensures, c.in_ok-at.ensures, c.in_ok-sort.ensures) (after_err _ _ _ _ c.in_err-at-2.ensures))

pub returns-in_err-body : goal.returns-in_err-body
unfolding reading quantified
returns-in_err-body g c =
    stopped _ _ _ _ _ c.from_residual-in_err-body.ensures.1
    (rw (c.in_ok-name.ensures, c.in_ok-at.ensures, c.in_ok-sort.ensures, c.in_ok-at-2.ensures) (after_err _ _ _ _ c.in_err-body.ensures))

pub returns : goal.returns
unfolding reading quantified
returns g c = rw (c.in_ok-name.ensures, c.in_ok-at.ensures, c.in_ok-sort.ensures, c.in_ok-at-2.ensures, c.in_ok-body.ensures, c.over.ensures) refl
