use Rattle.theory_printing_read.proofs.Read.{sequents_are_read}
use Rattle.theory_printing_read.proofs.printed_sequents_are_read.Goals as goal

pub returns : goal.returns
returns c = record { law = sequents_are_read }
