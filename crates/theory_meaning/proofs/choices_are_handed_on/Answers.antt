use Rattle.theory_meaning.proofs.Handed.{handed_on}
use Rattle.theory_meaning.proofs.choices_are_handed_on.Goals as goal

pub returns : goal.returns
returns c = record { law = handed_on }
