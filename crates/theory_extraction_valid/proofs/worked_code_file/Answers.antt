use Rattle.theory_extraction_valid.proofs.Valid.{code_is_valid}
use Rattle.theory_extraction_valid.proofs.Worked.{worked}
use Rattle.theory_extraction_valid.proofs.worked_code_file.Goals as goal

pub returns : goal.returns
returns c = record { examples = worked code_is_valid }
