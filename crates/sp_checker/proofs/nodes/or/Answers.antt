use Rattle.htt_syntax.specs.declared.tree.Formula.TheVariants as vformula
use Rattle.htt_syntax.specs.Trees.{f_or}
use Rattle.htt_syntax.specs.Levels.{formula_or}
use Rattle.sp_checker.proofs.Made.{two_parts}
use Rattle.sp_checker.proofs.nodes.or.Goals as goal

pub returns : goal.returns
returns c =
    record {
      made = two_parts vformula.Or f_or formula_or c.args.left c.args.right c.boxed.result c.boxed-2.result c.formula_or.result
          c.boxed.ensures.same_value c.boxed-2.ensures.same_value c.formula_or.ensures.made;
    }
