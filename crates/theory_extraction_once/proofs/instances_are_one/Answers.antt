use Rattle.theory_extraction_once.proofs.Flat.{instances_one}
use Rattle.theory_extraction_once.proofs.instances_are_one.Goals as goal

pub returns : goal.returns
returns c = record { law = instances_one }
