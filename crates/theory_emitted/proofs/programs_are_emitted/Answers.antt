use Rattle.theory_emitted.proofs.Main.{programs_emitted}
use Rattle.theory_emitted.proofs.programs_are_emitted.Goals as goal

pub returns : goal.returns
returns c = record { law = programs_emitted }
