use Rattle.theory_emission.specs.Codes.{first_code, code_of}
use Rattle.theory_extraction_total.proofs.Decided.{decided}
use Rattle.theory_extraction_total.proofs.extraction_is_decided.Goals as goal

pub returns : goal.returns
returns c = record { law = decided code_of; first = decided first_code }
