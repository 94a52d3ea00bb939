use Rattle.std.proofs.Common.{◌-◌, refl}
use Rattle.htt_parser_words.proofs.Steps.{after_err, reading}
use Rattle.htt_parser_terms.proofs.Choices.{stopped_next}
use Rattle.htt_parser_terms.proofs.readers.Terms.bound_step.Goals as goal

pub returns-in_err-name : goal.returns-in_err-name
unfolding reading
returns-in_err-name g c = λ next. stopped_next _ _ _ _ _ _ c.from_residual.ensures.1 (after_err _ _ _ _ c.in_err-name.ensures)

pub returns-in_err-at : goal.returns-in_err-at
unfolding reading
returns-in_err-at g c = λ next. stopped_next _ _ _ _ _ _ c.from_residual-in_err-at.ensures.1 (rw c.in_ok-name.ensures (after_err _ _ _ _ c.in_err-at.ensures))

pub returns-in_err-step : goal.returns-in_err-step
unfolding reading
returns-in_err-step g c = λ next.
    stopped_next _ _ _ _ _ _ c.from_residual-in_err-step.ensures.1
    (rw (c.in_ok-name.ensures, c.in_ok-at.ensures) (after_err _ _ _ _ c.in_err-step.ensures.gives))

pub returns-in_err-at-2 : goal.returns-in_err-at-2
unfolding reading
returns-in_err-at-2 g c = λ next.
    stopped_next _ _ _ _ _ _ c.from_residual-in_err-at-2.ensures.1
    (rw (c.in_ok-name.ensures, c.in_ok-at.ensures, c.in_ok-step.ensures.gives) (after_err _ _ _ _ c.in_err-at-2.ensures))

pub returns : goal.returns
unfolding reading
returns g c = λ next. rw (c.in_ok-name.ensures, c.in_ok-at.ensures, c.in_ok-step.ensures.gives, c.in_ok-at-2.ensures, c.in_ok-step.ensures.named) refl
