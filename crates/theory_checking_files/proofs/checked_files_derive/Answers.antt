use Rattle.theory_checking_files.proofs.Files.{checked_files_derive}
use Rattle.theory_checking_files.proofs.checked_files_derive.Goals as goal

pub returns : goal.returns
returns c = record { law = checked_files_derive }
