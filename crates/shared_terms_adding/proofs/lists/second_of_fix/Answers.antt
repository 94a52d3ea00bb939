use Rattle.std.proofs.Common.{ap, length, arith}
use Rattle.htt_syntax.specs.declared.tree.Fix.{Fix}
use Rattle.htt_syntax.specs.Trees.{x_body}
use Rattle.htt_syntax.specs.Levels.{triple_tree, comp_tree}
use Rattle.shared_terms_adding.proofs.Opening.{param_second}
use Rattle.shared_terms_adding.proofs.lists.second_of_fix.Goals as goal

pub returns-then-from-params : goal.returns-then-from-params
returns-then-from-params c =
    let e = ap (λ (fix : Fix). length fix.params) c.get.ensures in
    record { second = param_second c.args.fix.now.params c.args.from (x_body (triple_tree c.args.fix.now.triple) (comp_tree c.args.fix.now.body)) (omega (arith, c.if-from-params.true, ap length c.as_slice-params.ensures.same_items, e)) }
