use Rattle.theory_states.specs.States.{owed}
use Rattle.htt_syntax.specs.Levels.{term_var, formula_join}
use Rattle.sp_checker.proofs.Made.{some_owed}
use Rattle.sp_checker.proofs.owed.owed_get.Goals as goal

pub returns : goal.returns
unfolding owed
returns c =
    let held = c.cell-held.ensures.made _ _ _ c.mono_past.ensures.past c.term_past.ensures.past (term_var 2) in
    let split = c.and-split.ensures.made _ _ held (formula_join 3 1 0) in
    let some = c.some_heap-some.ensures.made _ (c.some_heap.ensures.made _ split) in
    let value = c.some_value.ensures.made _ _ c.mono_past-2.ensures.past some in
    record { owed = some_owed c.imp.result _ (c.imp.ensures.made _ _ c.copy_formula.ensures.same_tree value) }
