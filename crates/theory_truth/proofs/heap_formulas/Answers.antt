use Rattle.theory_truth.proofs.Cells.{formulas}
use Rattle.theory_truth.proofs.heap_formulas.Goals as goal

pub returns : goal.returns
returns c = record { law = formulas }
