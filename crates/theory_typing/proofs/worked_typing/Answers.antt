use Rattle.theory_typing.proofs.Worked.{worked}
use Rattle.theory_typing.proofs.worked_typing.Goals as goal

pub returns : goal.returns
returns c = record { examples = worked }
