use Rattle.theory_denotation_relations.proofs.Choices.{handed_on}
use Rattle.theory_denotation_relations.proofs.choices_are_handed_on.Goals as goal

pub returns : goal.returns
returns c = record { law = handed_on }
