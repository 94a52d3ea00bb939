use Rattle.std.proofs.Common.{◌≡◌, ℕ, ◌-◌, sym, ap, ◌∙◌, subst, take, arith}
use Rattle.theory_text_names.specs.Uses.{heap_outside, heap_or_outer}
use Rattle.std.specs.Prelude.{Option}
use Rattle.htt_resolve_scopes.specs.Views.{sort_of, is_of, local_tree, innermost_first}
use Rattle.htt_resolve_scopes.proofs.Outward.{innermost_none, heap_end, heap_outward, at_most_one_more}
use Rattle.htt_resolve_scopes.proofs.heaps.heap_outside.Goals as goal

pub returns : goal.returns
returns c =
    let none = innermost_none c.args.locals.now c.outward.left c.outward-test.false in
    record {
      reached =
          sym
          (c.outward.invariant.0
          ∙ heap_end (is_of c.args.word) c.outward.over_left c.outward.inside (innermost_first (take c.outward.left c.args.locals.now)) none);
    }

pub outward-preserved : goal.outward-preserved
outward-preserved c =
    let inner = innermost_first (take c.outward.left c.args.locals.now) in
    let outer = innermost_first (take (c.outward.left - 1) c.args.locals.now) in
    let count = c.one_more-inside.ensures.counted in
    let some = c.outward-test.true in
    let most = at_most_one_more (sort_of c.innermost-local.result.sort) c.outward.inside in
    let within = c.outward.invariant.1 in
    let past = subst (λ b. (n : ℕ) (rest : ℕ → Option ℕ) → heap_or_outer b c.outward.over_left n rest ≡ rest c.in-Some.fewer) c.is_of.ensures.same c.in-Some.ensures.past in (
      c.outward.invariant.0
          ∙ heap_outward (is_of c.args.word) c.outward.over_left c.in-Some.fewer c.outward.inside inner (local_tree c.innermost-local.result) outer c.innermost-local.ensures.first past
          ∙ ap (λ n. heap_outside (is_of c.args.word) c.in-Some.fewer n outer) (sym count),
      omega (arith, count, some, most, within),
    )
