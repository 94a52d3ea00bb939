use Rattle.std.proofs.Common.{ap, length, arith}
use Rattle.htt_syntax.specs.declared.tree.Fix.{Fix}
use Rattle.htt_syntax.specs.Trees.{x_body}
use Rattle.htt_syntax.specs.Levels.{triple_tree, comp_tree}
use Rattle.shared_terms_adding.proofs.Opening.{param_form}
use Rattle.shared_terms_adding.proofs.lists.form_of_fix.Goals as goal

pub returns-then-from-as_slice : goal.returns-then-from-as_slice
returns-then-from-as_slice c =
    let e = ap (λ (fix : Fix). length fix.params) c.get.ensures in
    record { form = param_form c.args.fix.now.params c.args.from (x_body (triple_tree c.args.fix.now.triple) (comp_tree c.args.fix.now.body)) (omega (arith, c.if-from-as_slice.true, ap length c.as_slice.ensures.same_items, e)) }
