use Rattle.theory_states.specs.States.{after}
use Rattle.htt_syntax.specs.Levels.{formula_join}
use Rattle.sp_checker.proofs.states.after_free.Goals as goal

pub returns : goal.returns
unfolding after
returns c =
    let there = c.block-there.ensures.made _ _ c.mono_past.ensures.past c.term_past.ensures.past in
    let split = c.and-split.ensures.made _ _ there (formula_join 1 0 2) in
    let both = c.and.ensures.made _ _ c.state_at.ensures.there split in
    record { state = c.some_heap-2.ensures.made _ (c.some_heap.ensures.made _ both) }
