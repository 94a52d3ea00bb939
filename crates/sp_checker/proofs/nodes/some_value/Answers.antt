use Rattle.sp_checker.proofs.Made.{value_part}
use Rattle.sp_checker.proofs.nodes.some_value.Goals as goal

pub returns : goal.returns
returns c =
    record {
      made = value_part c.args.mono c.args.body c.boxed.result c.formula_ex_t.result c.boxed.ensures.same_value
          c.formula_ex_t.ensures.made;
    }
