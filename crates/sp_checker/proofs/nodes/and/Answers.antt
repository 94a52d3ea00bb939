use Rattle.htt_syntax.specs.declared.tree.Formula.TheVariants as vformula
use Rattle.htt_syntax.specs.Trees.{f_and}
use Rattle.htt_syntax.specs.Levels.{formula_and}
use Rattle.sp_checker.proofs.Made.{two_parts}
use Rattle.sp_checker.proofs.nodes.and.Goals as goal

pub returns : goal.returns
returns c =
    record {
      made = two_parts vformula.And f_and formula_and c.args.left c.args.right c.boxed.result c.boxed-2.result c.formula_and.result
          c.boxed.ensures.same_value c.boxed-2.ensures.same_value c.formula_and.ensures.made;
    }
