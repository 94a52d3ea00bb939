use Rattle.sp_checker.proofs.Made.{equal_parts}
use Rattle.sp_checker.proofs.nodes.equal.Goals as goal

pub returns : goal.returns
returns c =
    record { made = equal_parts c.args.mono c.args.left c.args.right c.formula_eq.result c.formula_eq.ensures.made }
