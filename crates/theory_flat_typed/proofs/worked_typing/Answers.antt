use Rattle.theory_flat_typed.proofs.Worked.{worked}
use Rattle.theory_flat_typed.proofs.worked_typing.Goals as goal

pub returns : goal.returns
returns c = record { examples = worked }
