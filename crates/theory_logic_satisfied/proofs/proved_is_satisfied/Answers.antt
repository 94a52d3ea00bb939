use Rattle.theory_logic_satisfied.proofs.Satisfied.{proved}
use Rattle.theory_logic_satisfied.proofs.proved_is_satisfied.Goals as goal

pub returns : goal.returns
returns c = record { law = proved }
