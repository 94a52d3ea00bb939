use Rattle.std.proofs.Common.{ap, length, arith}
use Rattle.htt_syntax.specs.Views.{term_tree}
use Rattle.shared_terms_adding.proofs.Opening.{step_second}
use Rattle.shared_terms_adding.proofs.lists.second_of_comp.Goals as goal

pub returns-then-from-steps : goal.returns-then-from-steps
returns-then-from-steps c =
    record { second = step_second c.args.comp.now.steps c.args.from (term_tree c.args.comp.now.result) (omega (arith, c.if-from-steps.true, ap length c.as_slice-steps.ensures.same_items)) }
