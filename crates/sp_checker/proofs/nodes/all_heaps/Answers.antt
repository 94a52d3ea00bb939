use Rattle.htt_syntax.specs.declared.tree.Formula.TheVariants as vformula
use Rattle.htt_syntax.specs.Trees.{f_all_h}
use Rattle.htt_syntax.specs.Levels.{formula_all_h}
use Rattle.sp_checker.proofs.Made.{one_part}
use Rattle.sp_checker.proofs.nodes.all_heaps.Goals as goal

pub returns : goal.returns
returns c =
    record {
      made = one_part vformula.AllH f_all_h formula_all_h c.args.body c.boxed.result c.formula_all_h.result c.boxed.ensures.same_value
          c.formula_all_h.ensures.made;
    }
