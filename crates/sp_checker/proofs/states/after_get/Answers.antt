use Rattle.theory_states.specs.States.{after}
use Rattle.htt_syntax.specs.Levels.{term_var, formula_join}
use Rattle.sp_checker.proofs.states.after_get.Goals as goal

pub returns : goal.returns
unfolding after
returns c =
    let held = c.cell-held.ensures.made _ _ _ c.mono_past.ensures.past c.term_past.ensures.past (term_var 4) in
    let split = c.and-split.ensures.made _ _ held (formula_join 2 1 0) in
    let some = c.some_heap-2.ensures.made _ (c.some_heap.ensures.made _ split) in
    record { state = c.and.ensures.made _ _ c.state_at.ensures.there some }
