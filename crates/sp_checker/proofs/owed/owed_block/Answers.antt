use Rattle.theory_states.specs.States.{owes_block}
use Rattle.htt_syntax.specs.Levels.{formula_join}
use Rattle.sp_checker.proofs.Made.{some_owed}
use Rattle.sp_checker.proofs.owed.owed_block.Goals as goal

pub returns : goal.returns
unfolding owes_block
returns c =
    let there = c.block-there.ensures.made _ _ c.mono_past.ensures.past c.term_past.ensures.past in
    let split = c.and-split.ensures.made _ _ there (formula_join 2 1 0) in
    let some = c.some_heap-2.ensures.made _ (c.some_heap.ensures.made _ split) in
    record { owed = some_owed c.imp.result _ (c.imp.ensures.made _ _ c.copy_formula.ensures.same_tree some) }
