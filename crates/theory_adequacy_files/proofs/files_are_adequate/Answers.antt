use Rattle.theory_adequacy_files.proofs.Files.{files}
use Rattle.theory_adequacy_files.proofs.files_are_adequate.Goals as goal

pub returns : goal.returns
returns c = record { law = files }
