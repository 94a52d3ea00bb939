use Rattle.theory_checking_files.proofs.Files.{files_come_to_one}
use Rattle.theory_checking_files.proofs.files_come_to_one.Goals as goal

pub returns : goal.returns
returns c = record { law = files_come_to_one }
