use Rattle.theory_examples.proofs.Heaps.{values, heaps, choices}
use Rattle.theory_examples.proofs.worked_heaps.Goals as goal

pub returns : goal.returns
returns c = record { values = values; heaps = heaps; choices = choices }
