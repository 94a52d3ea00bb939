use Rattle.std.proofs.Common.{◌-◌, sym, ap, ◌∙◌, take, arith}
use Rattle.std.specs.Prelude.{Some}
use Rattle.theory_text_names.specs.Uses.{local_use}
use Rattle.htt_resolve_scopes.specs.Views.{sort_of, local_tree, innermost_first}
use Rattle.htt_resolve_scopes.proofs.Outward.{innermost_none, local_end, local_here, local_past, at_most_one_more}
use Rattle.htt_resolve_scopes.proofs.uses.local_use.Goals as goal

pub returns : goal.returns
returns c =
    let none = innermost_none c.args.locals.now c.outward.left c.outward-test.false in
    record { innermost = sym (c.outward.invariant.0 ∙ local_end c.args.name.now c.outward.inside (innermost_first (take c.outward.left c.args.locals.now)) none) }

pub returns-then-is_named : goal.returns-then-is_named
returns-then-is_named c =
    let inner = innermost_first (take c.outward.left c.args.locals.now) in
    let outer = innermost_first (take (c.outward.left - 1) c.args.locals.now) in
    record {
      innermost =
          ap Some c.use_of.ensures.used
          ∙ sym
          (c.outward.invariant.0
          ∙ local_here c.args.name.now c.outward.inside inner (local_tree c.innermost-local.result) outer c.innermost-local.ensures.first
          (sym c.is_named.ensures.named ∙ c.if-is_named.true));
    }

pub outward-preserved : goal.outward-preserved
outward-preserved c =
    let inner = innermost_first (take c.outward.left c.args.locals.now) in
    let outer = innermost_first (take (c.outward.left - 1) c.args.locals.now) in
    let count = c.one_more-inside.ensures.counted in
    let some = c.outward-test.true in
    let most = at_most_one_more (sort_of c.innermost-local.result.sort) c.outward.inside in
    let within = c.outward.invariant.1 in (
      c.outward.invariant.0
          ∙ local_past c.args.name.now c.outward.inside inner (local_tree c.innermost-local.result) outer c.innermost-local.ensures.first
          (sym c.is_named.ensures.named ∙ c.if-is_named.false)
          ∙ ap (λ n. local_use c.args.name.now n outer) (sym count),
      omega (arith, count, some, most, within),
    )
