use Rattle.theory_states.specs.States.{after}
use Rattle.htt_syntax.specs.Levels.{formula_join}
use Rattle.sp_checker.proofs.states.after_set.Goals as goal

pub returns : goal.returns
unfolding after
returns c =
    let held = c.cell-held.ensures.made _ _ _ c.mono_past.ensures.past c.term_past.ensures.past c.term_past-2.ensures.past in
    let now = c.and-now.ensures.made _ _ (formula_join 3 2 0) (c.and.ensures.made _ _ held (formula_join 4 1 0)) in
    let there = c.block-there.ensures.made _ _ c.mono_past-2.ensures.past c.term_past-3.ensures.past in
    let all = c.and-all.ensures.made _ _ c.state_at.ensures.there (c.and-2.ensures.made _ _ there now) in
    let two = c.some_heap-2.ensures.made _ (c.some_heap.ensures.made _ all) in
    record { state = c.some_heap-4.ensures.made _ (c.some_heap-3.ensures.made _ two) }
