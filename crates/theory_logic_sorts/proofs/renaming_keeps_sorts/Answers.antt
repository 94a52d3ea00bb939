use Rattle.theory_logic_sorts.proofs.Renamed.{renamed}
use Rattle.theory_logic_sorts.proofs.renaming_keeps_sorts.Goals as goal

pub returns : goal.returns
returns c = record { law = renamed }
