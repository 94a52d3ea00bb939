use Rattle.std.proofs.Common.{rules, refl, length}
use Rattle.std.proofs.lemmas.Option.{slice_get_read}
use Rattle.htt_syntax.specs.Views.{ty_tree, step_tree}
use Rattle.htt_syntax_walk.specs.Walk.{walk_ty, walk_step}
use Rattle.htt_syntax_walk.proofs.Chains.{terms_walked, row_starts, row_continues}
use Rattle.htt_syntax_walk.proofs.+walk.Goals as goal

pub terms::walk_terms-returns : goal.terms::walk_terms-returns
terms::walk_terms-returns g t c = record {
  walked =
      terms_walked (g.A.Action.puts c.args.action.now) c.args.depth c.loop-term.term-index c.args.terms.now c.loop-term.walked.items
      c.of.result c.of.ensures.same_items c.loop-term.invariant c.loop-term-test.false;
}

pub computations::walk_params-loop-param-init : goal.computations::walk_params-loop-param-init
computations::walk_params-loop-param-init g t c = (
  row_starts ty_tree (walk_ty (g.A.Action.puts c.args.action.now)) c.args.depth c.new-walked.result.items c.new-walked.ensures.items,
  search rules,
)

pub computations::walk_params-loop-param-preserved : goal.computations::walk_params-loop-param-preserved
computations::walk_params-loop-param-preserved g t c = (
  row_continues ty_tree (walk_ty (g.A.Action.puts c.args.action.now)) c.args.depth c.loop-param.param-index c.args.params.now
      c.loop-param.walked.items c.push.new.self.items c.param-item.result c.in_ok-walk_ty.field-0 c.loop-param.inner (search rules)
      (slice_get_read c.args.params.now (length c.args.params.now) c.loop-param.param-index c.param-item.result refl c.loop-param-test.true
      c.param-item.is) c.loop-param.invariant.0 c.loop-param.invariant.1 c.in_ok-walk_ty.ensures.walked,
  search rules,
)

pub computations::walk_steps-loop-step-init : goal.computations::walk_steps-loop-step-init
computations::walk_steps-loop-step-init g t c = (
  row_starts step_tree (walk_step (g.A.Action.puts c.args.action.now)) c.args.depth c.new-walked.result.items c.new-walked.ensures.items,
  search rules,
)

pub computations::walk_steps-loop-step-preserved : goal.computations::walk_steps-loop-step-preserved
computations::walk_steps-loop-step-preserved g t c = (
  row_continues step_tree (walk_step (g.A.Action.puts c.args.action.now)) c.args.depth c.loop-step.step-index c.args.steps.now
      c.loop-step.walked.items c.push.new.self.items c.step-item.result c.in_ok-walk_step.field-0 c.loop-step.inner (search rules)
      (slice_get_read c.args.steps.now (length c.args.steps.now) c.loop-step.step-index c.step-item.result refl c.loop-step-test.true
      c.step-item.is) c.loop-step.invariant.0 c.loop-step.invariant.1 c.in_ok-walk_step.ensures.walked,
  search rules,
)
