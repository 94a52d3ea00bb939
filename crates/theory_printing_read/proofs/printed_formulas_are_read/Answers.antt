use Rattle.theory_printing_read.proofs.Read.{formulas_are_read}
use Rattle.theory_printing_read.proofs.printed_formulas_are_read.Goals as goal

pub returns : goal.returns
returns c = record { law = formulas_are_read }
