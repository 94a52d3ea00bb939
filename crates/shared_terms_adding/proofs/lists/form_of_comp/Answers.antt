use Rattle.std.proofs.Common.{ap, length, arith}
use Rattle.htt_syntax.specs.Views.{term_tree}
use Rattle.shared_terms_adding.proofs.Opening.{step_form}
use Rattle.shared_terms_adding.proofs.lists.form_of_comp.Goals as goal

pub returns-then-from-as_slice : goal.returns-then-from-as_slice
returns-then-from-as_slice c =
    record { form = step_form c.args.comp.now.steps c.args.from (term_tree c.args.comp.now.result) (omega (arith, c.if-from-as_slice.true, ap length c.as_slice.ensures.same_items)) }
