use Rattle.theory_denotation_types.proofs.Shaped.{has_shape}
use Rattle.theory_denotation_types.proofs.meaning_has_shape.Goals as goal

pub returns : goal.returns
returns c = record { law = has_shape }
