use Rattle.theory_flat_denoted.proofs.Main.{main_denoted}
use Rattle.theory_flat_denoted.proofs.main_denotes.Goals as goal

pub returns : goal.returns
returns c = record { law = main_denoted }
