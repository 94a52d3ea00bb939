use Rattle.theory_states.specs.States.{owed}
use Rattle.htt_syntax.specs.Levels.{triple_tree, formula_join}
use Rattle.sp_checker.proofs.Made.{some_owed}
use Rattle.sp_checker.proofs.owed.owed_run.Goals as goal

pub returns : goal.returns
unfolding owed triple_tree
returns c =
    let split = c.and-split.ensures.made _ _ (formula_join 2 1 0) c.needed_at.ensures.there in
    let some = c.some_heap-2.ensures.made _ (c.some_heap.ensures.made _ split) in
    record { owed = some_owed c.imp.result _ (c.imp.ensures.made _ _ c.copy_formula.ensures.same_tree some) }
