use Rattle.theory_typing.proofs.Given.{given}
use Rattle.theory_typing.proofs.worlds_give.Goals as goal

pub returns : goal.returns
returns c = record { law = given }
