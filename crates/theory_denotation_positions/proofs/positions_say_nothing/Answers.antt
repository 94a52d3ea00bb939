use Rattle.theory_denotation_positions.proofs.PlainTruth.{nothing}
use Rattle.theory_denotation_positions.proofs.positions_say_nothing.Goals as goal

pub returns : goal.returns
returns c = record { law = nothing }
