use Rattle.theory_emitted.proofs.Main.{main_emitted}
use Rattle.theory_emitted.proofs.main_is_emitted.Goals as goal

pub returns : goal.returns
returns c = record { law = main_emitted }
