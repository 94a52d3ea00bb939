use Rattle.theory_checking_files.proofs.Files.{derived_files_reach}
use Rattle.theory_checking_files.proofs.derived_files_reach.Goals as goal

pub returns : goal.returns
returns c = record { law = derived_files_reach }
