use Rattle.word_loader_code.proofs.Steps.{choices_are_handed_on_lem}
use Rattle.word_loader_code.proofs.laws.choices_are_handed_on.Goals as goal

pub returns : goal.returns
returns c = record { law = choices_are_handed_on_lem }
