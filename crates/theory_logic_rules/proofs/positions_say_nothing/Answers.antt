use Rattle.theory_logic_rules.proofs.Positions.{positions_infer, positions_prove, positions_state}
use Rattle.theory_logic_rules.proofs.positions_say_nothing.Goals as goal

pub returns : goal.returns
returns c = record { inferred = positions_infer; proved = positions_prove; stated = positions_state }
