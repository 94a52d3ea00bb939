use Rattle.theory_logic_true.proofs.True.{proved}
use Rattle.theory_logic_true.proofs.proved_is_true.Goals as goal

pub returns : goal.returns
returns c = record { law = proved }
