use Rattle.theory_extraction_formed.proofs.Files.{files_formed}
use Rattle.theory_extraction_formed.proofs.file_programs_are_formed.Goals as goal

pub returns : goal.returns
returns c = record { law = files_formed }
