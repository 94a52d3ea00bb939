use Rattle.theory_rows_substitution.proofs.Results.{slots_have_results}
use Rattle.theory_rows_substitution.proofs.slots_have_results.Goals as goal

pub returns : goal.returns
returns c = record { law = slots_have_results }
