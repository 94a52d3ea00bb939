use Rattle.theory_typing_canonical.proofs.StatesKept.{start_kept, owed_kept, after_kept, branch_kept, finish_kept, merge_kept, last_kept}
use Rattle.theory_typing_canonical.proofs.states_keep_canonical.Goals as goal

pub returns : goal.returns
returns c = record {
  law = record {
    starts = λ heads g P d. start_kept g d;
    owes = λ heads g step R s d. owed_kept g step s d;
    goes_on = λ heads g step R s d. after_kept g step s d;
    branches = λ heads g R M side d m. branch_kept g side d m;
    ends = λ heads g R zs t M d row p m. finish_kept g zs d row p m;
    merges = λ heads g F G d e. merge_kept g d e;
    lasts = λ heads g F G d e. last_kept g d e;
  };
}
