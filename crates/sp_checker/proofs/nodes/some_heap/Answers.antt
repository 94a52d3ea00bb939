use Rattle.htt_syntax.specs.declared.tree.Formula.TheVariants as vformula
use Rattle.htt_syntax.specs.Trees.{f_ex_h}
use Rattle.htt_syntax.specs.Levels.{formula_ex_h}
use Rattle.sp_checker.proofs.Made.{one_part}
use Rattle.sp_checker.proofs.nodes.some_heap.Goals as goal

pub returns : goal.returns
returns c =
    record {
      made = one_part vformula.ExH f_ex_h formula_ex_h c.args.body c.boxed.result c.formula_ex_h.result c.boxed.ensures.same_value
          c.formula_ex_h.ensures.made;
    }
