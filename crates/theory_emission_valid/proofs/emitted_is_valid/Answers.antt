use Rattle.theory_emission_valid.proofs.Codes.{is_valid}
use Rattle.theory_emission_valid.proofs.emitted_is_valid.Goals as goal

pub returns : goal.returns
returns c = record { law = is_valid }
