use Rattle.theory_states.specs.States.{merge}
use Rattle.sp_checker.proofs.ends.merge.Goals as goal

pub returns : goal.returns
unfolding merge
returns c = record { state = c.or.ensures.made _ _ c.copy_formula.ensures.same_tree c.copy_formula-2.ensures.same_tree }
