use Rattle.theory_renaming.proofs.Shifts.{what_a_shift_is}
use Rattle.theory_renaming.proofs.what_a_shift_is.Goals as goal

pub returns : goal.returns
returns c = record { law = what_a_shift_is }
