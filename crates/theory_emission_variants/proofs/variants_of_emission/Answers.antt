use Rattle.theory_emission_variants.proofs.Missed.{missed}
use Rattle.theory_emission_variants.proofs.variants_of_emission.Goals as goal

pub returns : goal.returns
returns c = record { variants = missed }
