use Rattle.theory_denotation_relations.proofs.Choices.{valued}
use Rattle.theory_denotation_relations.proofs.files_are_valued.Goals as goal

pub returns : goal.returns
returns c = record { law = valued }
