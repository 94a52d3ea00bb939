use Rattle.std.proofs.Common.{◌+◌, length, sym, ◌∙◌}
use Rattle.htt_syntax_measure.proofs.Binders.{start_depth, next_depth, zero_within, next_within}
use Rattle.htt_syntax_measure.proofs.Loops.{few_nothing, few_beside, terms_start, terms_next, terms_end, params_start}
use Rattle.htt_syntax_measure.proofs.Loops.{params_next, params_end, steps_start, steps_next, steps_end}
use Rattle.htt_syntax_measure.proofs.+measure.Goals as goal

pub terms::measure_terms-loop-term-init : goal.terms::measure_terms-loop-term-init
terms::measure_terms-loop-term-init g t c = (
  λ p d h e. terms_start p d c.args.terms.now c.nothing-total.result c.nothing-total.ensures,
  few_nothing c.nothing-total.result c.nothing-total.ensures,
)

pub terms::measure_terms-loop-term-preserved : goal.terms::measure_terms-loop-term-preserved
terms::measure_terms-loop-term-preserved g t c = (
  λ p d h e.
      c.loop-term.invariant.0 p d h e
      ∙ terms_next p d c.loop-term.term-index c.args.terms.now c.term-item.result c.loop-term.total
      c.measure_term.result c.beside-total.result c.loop-term-test.true c.term-item.is
      (c.measure_term.ensures.sized p d h e) c.beside-total.ensures,
  few_beside c.loop-term.total c.measure_term.result c.beside-total.result c.beside-total.ensures,
)

pub terms::measure_terms-returns : goal.terms::measure_terms-returns
terms::measure_terms-returns g t c = record {
  sized = λ p d h e.
      sym (c.loop-term.invariant.0 p d h e
      ∙ terms_end p d c.loop-term.term-index c.args.terms.now c.loop-term.total c.loop-term-test.false
      c.loop-term.invariant.1);
}

pub computations::measure_params-loop-param-init : goal.computations::measure_params-loop-param-init
computations::measure_params-loop-param-init g t c = (
  λ p d h e rest. params_start p d c.args.params.now rest c.nothing-total.result c.nothing-total.ensures,
  (λ d e. start_depth c.args.depth d e, zero_within (length c.args.params.now)),
)

pub computations::measure_params-loop-param-preserved : goal.computations::measure_params-loop-param-preserved
computations::measure_params-loop-param-preserved g t c = (
  λ p d h e rest.
      c.loop-param.invariant.0 p d h e rest
      ∙ params_next p d c.loop-param.param-index c.args.params.now c.param-item.result rest c.loop-param.total
      c.measure_ty.result c.beside-total.result c.loop-param-test.true c.param-item.is
      (c.measure_ty.ensures.sized p (d + c.loop-param.param-index) h (c.loop-param.invariant.1.0 d e))
      c.beside-total.ensures,
  (
    λ d e.
        next_depth d c.loop-param.param-index c.under-inner.result
        (c.under-inner.ensures (d + c.loop-param.param-index) (c.loop-param.invariant.1.0 d e)),
    next_within c.loop-param.param-index (length c.args.params.now) c.loop-param-test.true,
  ),
)

pub computations::measure_params-returns : goal.computations::measure_params-returns
computations::measure_params-returns g t c = record {
  sized = λ p d h e rest.
      c.loop-param.invariant.0 p d h e rest
      ∙ params_end p d c.loop-param.param-index c.args.params.now rest c.loop-param.total c.loop-param-test.false
      c.loop-param.invariant.1.1;
}

pub computations::measure_steps-loop-step-init : goal.computations::measure_steps-loop-step-init
computations::measure_steps-loop-step-init g t c = (
  λ p d h e end. steps_start p d c.args.steps.now end c.nothing-total.result c.nothing-total.ensures,
  (λ d e. start_depth c.args.depth d e, zero_within (length c.args.steps.now)),
)

pub computations::measure_steps-loop-step-preserved : goal.computations::measure_steps-loop-step-preserved
computations::measure_steps-loop-step-preserved g t c = (
  λ p d h e end.
      c.loop-step.invariant.0 p d h e end
      ∙ steps_next p d c.loop-step.step-index c.args.steps.now c.step-item.result end c.loop-step.total
      c.measure_step.result c.beside-total.result c.loop-step-test.true c.step-item.is
      (c.measure_step.ensures.sized p (d + c.loop-step.step-index) h (c.loop-step.invariant.1.0 d e))
      c.beside-total.ensures,
  (
    λ d e.
        next_depth d c.loop-step.step-index c.under-inner.result
        (c.under-inner.ensures (d + c.loop-step.step-index) (c.loop-step.invariant.1.0 d e)),
    next_within c.loop-step.step-index (length c.args.steps.now) c.loop-step-test.true,
  ),
)

pub computations::measure_steps-returns : goal.computations::measure_steps-returns
computations::measure_steps-returns g t c = record {
  sized = λ p d h e end.
      c.loop-step.invariant.0 p d h e end
      ∙ steps_end p d c.loop-step.step-index c.args.steps.now end c.loop-step.total c.loop-step-test.false
      c.loop-step.invariant.1.1;
}
