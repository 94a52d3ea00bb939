use Rattle.theory_printing_read.proofs.Read.{types_are_read}
use Rattle.theory_printing_read.proofs.printed_types_are_read.Goals as goal

pub returns : goal.returns
returns c = record { law = types_are_read }
