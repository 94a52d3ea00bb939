use Rattle.theory_extraction_narrow.proofs.Files.{checked_files_are_narrow}
use Rattle.theory_extraction_narrow.proofs.checked_files_are_narrow.Goals as goal

pub returns : goal.returns
returns c = record { law = checked_files_are_narrow }
