use Rattle.theory_states.specs.States.{after}
use Rattle.htt_syntax.specs.Levels.{term_var, formula_join}
use Rattle.sp_checker.proofs.states.after_alloc.Goals as goal

pub returns : goal.returns
unfolding after
returns c =
    let held = c.cell-held.ensures.made _ _ _ c.mono_past.ensures.past (term_var 4) c.term_past.ensures.past in
    let added = c.some_heap-added.ensures.made _ (c.and.ensures.made _ _ held (formula_join 2 1 0)) in
    record { state = c.some_heap.ensures.made _ (c.and-2.ensures.made _ _ c.state_at.ensures.there added) }
