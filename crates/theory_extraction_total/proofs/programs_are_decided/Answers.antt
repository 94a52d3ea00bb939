use Rattle.theory_extraction_total.proofs.Decided.{programs}
use Rattle.theory_extraction_total.proofs.programs_are_decided.Goals as goal

pub returns : goal.returns
returns c = record { law = programs }
