use Rattle.std.proofs.Common.{sym, ap, ◌∙◌}
use Rattle.htt_syntax.specs.Trees.{x_body}
use Rattle.htt_syntax.specs.Views.{term_tree}
use Rattle.htt_syntax.specs.Levels.{steps_tree, params_tree, triple_tree, comp_tree, fix_tree}
use Rattle.theory_canonical_decided.specs.Decision.{comp_is_canonical, fix_is_canonical}
use Rattle.canonical_forms_skeletons.specs.Views.{skeleton_tree}
use Rattle.canonical_forms_decision.specs.Views.{context_tree, heads_tree}
use Rattle.canonical_forms_decision.proofs.Loops.{terms_next, terms_end, steps_next, steps_end, params_next, params_end, skeleton_read, argument_told, answer_told}
use Rattle.canonical_forms_decision.proofs.+decide.Goals as goal

pub terms::values_at-loop-term-preserved : goal.terms::values_at-loop-term-preserved
terms::values_at-loop-term-preserved t c =
    c.loop-term.invariant
    ∙ terms_next (heads_tree c.args.context.now) (context_tree c.args.context.now) c.loop-term.term-index c.args.terms.now
    c.term-item.result c.loop-term.all c.in_ok-this.this c.and-all.result c.loop-term-test.true c.term-item.is
    c.in_ok-this.ensures.decided c.and-all.ensures.both

pub terms::values_at-returns : goal.terms::values_at-returns
terms::values_at-returns t c = record {
  decided =
      sym (c.loop-term.invariant
      ∙ terms_end (heads_tree c.args.context.now) (context_tree c.args.context.now) c.loop-term.term-index c.args.terms.now
      c.loop-term.all c.loop-term-test.false);
}

pub computations::comp_at-loop-step-init : goal.computations::comp_at-loop-step-init
computations::comp_at-loop-step-init t c = (
  ap
      (λ k. comp_is_canonical (heads_tree c.args.context.now) k
      (steps_tree c.args.comp.now.steps (term_tree c.args.comp.now.result)))
      (sym c.in_ok-inner.ensures.standings),
  c.in_ok-inner.ensures.heads,
)

pub computations::comp_at-loop-step-preserved : goal.computations::comp_at-loop-step-preserved
computations::comp_at-loop-step-preserved t c = (
  c.loop-step.invariant.0
      ∙ steps_next (heads_tree c.args.context.now) (heads_tree c.loop-step.inner) (context_tree c.loop-step.inner)
      (context_tree c.in_ok-next.next) c.loop-step.step-index c.as_slice-step-items.result.now c.args.comp.now.steps c.step-item.result
      (term_tree c.args.comp.now.result) c.loop-step.all c.in_ok-this.this c.and-all.result c.as_slice-step-items.ensures.same_items
      c.loop-step.invariant.1 c.loop-step-test.true c.step-item.is c.in_ok-this.ensures.decided c.and-all.ensures.both
      c.in_ok-next.ensures.standings,
  c.in_ok-next.ensures.heads ∙ c.loop-step.invariant.1,
)

pub computations::comp_at-returns : goal.computations::comp_at-returns
unfolding comp_tree
computations::comp_at-returns t c = record {
  decided =
      sym (c.loop-step.invariant.0
      ∙ steps_end (heads_tree c.args.context.now) (heads_tree c.loop-step.inner) (context_tree c.loop-step.inner)
      c.loop-step.step-index c.as_slice-step-items.result.now c.args.comp.now.steps (term_tree c.args.comp.now.result)
      c.loop-step.all c.in_ok-last.last c.and.result c.as_slice-step-items.ensures.same_items c.loop-step.invariant.1
      c.loop-step-test.false c.in_ok-last.ensures.decided c.and.ensures.both);
}

pub computations::fix_at-loop-param-init : goal.computations::fix_at-loop-param-init
unfolding fix_tree
computations::fix_at-loop-param-init t c = (
  ap
      (λ k. fix_is_canonical (heads_tree c.args.context.now) k (skeleton_tree c.args.whole.now)
      (params_tree c.args.fix.now.params (x_body (triple_tree c.args.fix.now.triple) (comp_tree c.args.fix.now.body))))
      (sym c.in_ok-inner.ensures.standings),
  c.in_ok-inner.ensures.heads,
  c.requires.whole,
)

pub computations::fix_at-arrow_parts-requires : goal.computations::fix_at-arrow_parts-requires
computations::fix_at-arrow_parts-requires t c = record {
  arrow = (
    _,
    _,
    c.loop-param.invariant.2
        ∙ skeleton_read c.loop-param.param-index c.as_slice-param-items.result.now c.args.fix.now.params c.param-item.result
        (x_body (triple_tree c.args.fix.now.triple) (comp_tree c.args.fix.now.body)) c.as_slice-param-items.ensures.same_items
        c.loop-param-test.true c.param-item.is,
  );
}

pub computations::fix_at-loop-param-preserved : goal.computations::fix_at-loop-param-preserved
computations::fix_at-loop-param-preserved t c =
    let rest = x_body (triple_tree c.args.fix.now.triple) (comp_tree c.args.fix.now.body) in
    let told =
    sym c.arrow_parts.ensures.parts
    ∙ c.loop-param.invariant.2
    ∙ skeleton_read c.loop-param.param-index c.as_slice-param-items.result.now c.args.fix.now.params c.param-item.result rest
    c.as_slice-param-items.ensures.same_items c.loop-param-test.true c.param-item.is
    in (
      c.loop-param.invariant.0
          ∙ params_next (heads_tree c.args.context.now) (heads_tree c.loop-param.inner) (context_tree c.loop-param.inner)
          (context_tree c.in_ok-next.next) (skeleton_tree c.args.whole.now) _ c.loop-param.param-index
          c.as_slice-param-items.result.now c.args.fix.now.params c.param-item.result rest c.loop-param.all
          c.in_ok-this.this c.and-all.result c.as_slice-param-items.ensures.same_items c.loop-param.invariant.1
          c.loop-param-test.true c.param-item.is c.in_ok-this.ensures.decided c.and-all.ensures.both (argument_told told)
          c.in_ok-next.ensures.standings,
      c.in_ok-next.ensures.heads ∙ c.loop-param.invariant.1,
      answer_told told,
    )

pub computations::fix_at-returns : goal.computations::fix_at-returns
unfolding fix_tree
computations::fix_at-returns t c = record {
  decided =
      sym (c.loop-param.invariant.0
      ∙ params_end (heads_tree c.args.context.now) (heads_tree c.loop-param.inner) (heads_tree c.in_ok-under.under)
      (context_tree c.loop-param.inner) (context_tree c.in_ok-under.under) (skeleton_tree c.args.whole.now)
      c.loop-param.param-index c.as_slice-param-items.result.now c.args.fix.now.params (triple_tree c.args.fix.now.triple)
      (comp_tree c.args.fix.now.body) c.loop-param.all c.in_ok-spec.spec c.in_ok-body.body c.and.result c.and-2.result
      c.as_slice-param-items.ensures.same_items c.loop-param.invariant.1
      (c.in_ok-under.ensures.heads ∙ c.loop-param.invariant.1) c.loop-param-test.false c.in_ok-spec.ensures.decided
      c.in_ok-body.ensures.decided c.in_ok-under.ensures.standings c.and.ensures.both c.and-2.ensures.both);
}
