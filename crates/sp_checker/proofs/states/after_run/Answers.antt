use Rattle.theory_states.specs.States.{after}
use Rattle.htt_syntax.specs.Levels.{triple_tree, formula_join}
use Rattle.sp_checker.proofs.states.after_run.Goals as goal

pub returns : goal.returns
unfolding after triple_tree
returns c =
    let given = c.and-given.ensures.made _ _ (formula_join 2 1 0) c.needed_at.ensures.there in
    let left = c.and-left.ensures.made _ _ (formula_join 4 0 1) c.left_at.ensures.there in
    let each = c.imp-each.ensures.made _ _ given (c.some_heap.ensures.made _ left) in
    let splits = c.all_heaps-splits.ensures.made _ (c.all_heaps.ensures.made _ each) in
    record { state = c.some_heap-2.ensures.made _ (c.and.ensures.made _ _ c.state_at.ensures.there splits) }
