use Rattle.theory_machine.proofs.Fitting.{frames_keep_fitting_lem}
use Rattle.theory_machine.proofs.laws.frames_keep_fitting.Goals as goal

pub returns : goal.returns
returns c = record { law = frames_keep_fitting_lem }
