use Rattle.heap_model_text.proofs.Examples.{worked_examples}
use Rattle.heap_model_text.proofs.laws.worked_examples.Goals as goal

pub returns : goal.returns
returns c = record { examples = worked_examples }
