use Rattle.std.proofs.Common.{◌+◌, ◌-◌, sym, ap, ◌∙◌, take, arith}
use Rattle.theory_text_names.specs.Scopes.{hypotheses}
use Rattle.htt_resolve_scopes.specs.Views.{sort_of, local_tree, innermost_first}
use Rattle.htt_resolve_scopes.proofs.Outward.{innermost_none, hypotheses_end, hypotheses_outward, at_most_one_hypothesis}
use Rattle.htt_resolve_scopes.proofs.uses.hypotheses.Goals as goal

pub returns : goal.returns
returns c =
    let none = innermost_none c.args.locals.now c.outward.left c.outward-test.false in
    record { counted = sym (c.outward.invariant.0 ∙ hypotheses_end c.outward.counted (innermost_first (take c.outward.left c.args.locals.now)) none) }

pub outward-preserved : goal.outward-preserved
outward-preserved c =
    let inner = innermost_first (take c.outward.left c.args.locals.now) in
    let outer = innermost_first (take (c.outward.left - 1) c.args.locals.now) in
    let count = c.one_more_hypothesis-counted.ensures.counted in
    let some = c.outward-test.true in
    let most = at_most_one_hypothesis (sort_of c.innermost-local.result.sort) c.outward.counted in
    let within = c.outward.invariant.1 in (
      c.outward.invariant.0
          ∙ hypotheses_outward c.outward.counted inner (local_tree c.innermost-local.result) outer c.innermost-local.ensures.first
          ∙ ap (λ n. n + hypotheses outer) (sym count),
      omega (arith, count, some, most, within),
    )
