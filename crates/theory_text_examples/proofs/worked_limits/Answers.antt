use Rattle.theory_text_examples.proofs.WorkedLimits.{limits}
use Rattle.theory_text_examples.proofs.worked_limits.Goals as goal

pub returns : goal.returns
returns c = record { law = limits }
