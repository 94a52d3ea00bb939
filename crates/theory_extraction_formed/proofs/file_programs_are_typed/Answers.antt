use Rattle.theory_extraction_formed.proofs.Files.{files_typed}
use Rattle.theory_extraction_formed.proofs.file_programs_are_typed.Goals as goal

pub returns : goal.returns
returns c = record { law = files_typed }
