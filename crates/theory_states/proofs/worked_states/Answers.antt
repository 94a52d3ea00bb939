use Rattle.std.proofs.Common.{refl}
use Rattle.theory_renaming.specs.Renaming.{lift, lifts, rename_mono, rename_term}
use Rattle.theory_states.specs.States.{past, at_heaps, at_heap, at_result, start, owes_block, owed, after, branch, some_values, within, ending, finish, merge}
use Rattle.theory_states.specs.States.{last}
use Rattle.theory_states.proofs.worked_states.Goals as goal

pub returns : goal.returns
unfolding lift lifts rename_mono rename_term past at_heaps at_heap at_result start owes_block owed after branch some_values within ending finish merge last
returns c = record {
  examples = record {
    two = refl;
    free_owes = refl;
    no_steps = refl;
    swap_owes = refl;
    run_goes_on = refl;
    run_ends = refl;
    claim_goes_on = refl;
    set_goes_on = refl;
    alloc_goes_on = refl;
    alloc_owes = refl;
    free_goes_on = refl;
    set_owes = refl;
    run_owes = refl;
    run_writes = refl;
    claim_owes = refl;
    three = refl;
    three_end = refl;
    two_variables_end = refl;
    monotypes_end = refl;
    branches = refl;
    branches_meet = refl;
  };
}
