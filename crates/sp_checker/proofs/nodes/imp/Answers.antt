use Rattle.htt_syntax.specs.declared.tree.Formula.TheVariants as vformula
use Rattle.htt_syntax.specs.Trees.{f_imp}
use Rattle.htt_syntax.specs.Levels.{formula_imp}
use Rattle.sp_checker.proofs.Made.{two_parts}
use Rattle.sp_checker.proofs.nodes.imp.Goals as goal

pub returns : goal.returns
returns c =
    record {
      made = two_parts vformula.Imp f_imp formula_imp c.args.left c.args.right c.boxed.result c.boxed-2.result c.formula_imp.result
          c.boxed.ensures.same_value c.boxed-2.ensures.same_value c.formula_imp.ensures.made;
    }
