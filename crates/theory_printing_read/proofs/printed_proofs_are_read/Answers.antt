use Rattle.theory_printing_read.proofs.Read.{proofs_are_read}
use Rattle.theory_printing_read.proofs.printed_proofs_are_read.Goals as goal

pub returns : goal.returns
returns c = record { law = proofs_are_read }
