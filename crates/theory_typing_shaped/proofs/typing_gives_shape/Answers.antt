use Rattle.theory_typing_shaped.proofs.Fitting.{gives_shape}
use Rattle.theory_typing_shaped.proofs.typing_gives_shape.Goals as goal

pub returns : goal.returns
returns c = record { law = gives_shape }
