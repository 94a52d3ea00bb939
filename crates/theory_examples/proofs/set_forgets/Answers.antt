use Rattle.theory_examples.proofs.Variants.{set_forgets}
use Rattle.theory_examples.proofs.set_forgets.Goals as goal

pub returns : goal.returns
returns c = record { law = set_forgets }
