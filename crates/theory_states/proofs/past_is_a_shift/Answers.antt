use Rattle.theory_states.proofs.Shifts.{past_shifts}
use Rattle.theory_states.proofs.past_is_a_shift.Goals as goal

pub returns : goal.returns
returns c = record { law = past_shifts }
