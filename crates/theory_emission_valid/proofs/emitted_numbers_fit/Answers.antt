use Rattle.theory_emission_valid.proofs.Codes.{numbers_fit}
use Rattle.theory_emission_valid.proofs.emitted_numbers_fit.Goals as goal

pub returns : goal.returns
returns c = record { law = numbers_fit }
