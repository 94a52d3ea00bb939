use Rattle.theory_states.proofs.Keeping.{start_scoped, owed_scoped, after_scoped, branch_scoped, merge_scoped, last_scoped}
use Rattle.theory_states.proofs.states_keep_scope.Goals as goal

pub returns : goal.returns
returns c = record {
  law = record {
    starts = start_scoped;
    owes = owed_scoped;
    goes_on = after_scoped;
    branches = branch_scoped;
    merges = merge_scoped;
    lasts = last_scoped;
  };
}
