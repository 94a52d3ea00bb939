use Rattle.theory_emission.specs.Codes.{first_code, code_of}
use Rattle.theory_extraction_once.proofs.Codes.{code_one}
use Rattle.theory_extraction_once.proofs.code_is_one.Goals as goal

pub returns : goal.returns
returns c = record { law = code_one code_of; first = code_one first_code }
