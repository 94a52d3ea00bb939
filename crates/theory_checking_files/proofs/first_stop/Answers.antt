use Rattle.theory_checking_files.proofs.Files.{first_stop}
use Rattle.theory_checking_files.proofs.first_stop.Goals as goal

pub returns : goal.returns
returns c = record { law = first_stop }
