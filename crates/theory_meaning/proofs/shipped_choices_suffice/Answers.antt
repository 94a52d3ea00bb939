use Rattle.theory_meaning.proofs.Shipped.{suffices}
use Rattle.theory_meaning.proofs.shipped_choices_suffice.Goals as goal

pub returns : goal.returns
returns c = record { law = suffices }
