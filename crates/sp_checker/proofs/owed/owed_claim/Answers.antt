use Rattle.theory_states.specs.States.{owed}
use Rattle.sp_checker.proofs.Made.{some_owed}
use Rattle.sp_checker.proofs.owed.owed_claim.Goals as goal

pub returns : goal.returns
unfolding owed
returns c =
    record { owed = some_owed c.imp.result _ (c.imp.ensures.made _ _ c.copy_formula.ensures.same_tree c.copy_formula-2.ensures.same_tree) }
