use Rattle.theory_examples.proofs.Contexts.{worlds, contexts, sorts}
use Rattle.theory_examples.proofs.worked_contexts.Goals as goal

pub returns : goal.returns
returns c = record { worlds = worlds; contexts = contexts; sorts = sorts }
