use Rattle.theory_meaning_simulation.proofs.Denoted.{denoted}
use Rattle.theory_meaning_simulation.proofs.text_is_denoted.Goals as goal

pub returns : goal.returns
returns c = record { law = denoted }
