use Rattle.theory_states.specs.States.{last}
use Rattle.sp_checker.proofs.ends.last.Goals as goal

pub returns : goal.returns
unfolding last
returns c = record { owed = c.imp.ensures.made _ _ c.copy_formula.ensures.same_tree c.copy_formula-2.ensures.same_tree }
