use Rattle.theory_file_calls.proofs.Endless.{without_harm}
use Rattle.theory_file_calls.proofs.endless_value.Goals as goal

pub returns : goal.returns
returns c = record { law = without_harm }
