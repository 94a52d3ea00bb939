use Rattle.theory_saturation.proofs.Sums.{keeps}
use Rattle.theory_saturation.proofs.saturation_keeps.Goals as goal

pub returns : goal.returns
returns c = record { law = keeps }
