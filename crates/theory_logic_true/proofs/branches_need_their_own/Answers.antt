use Rattle.theory_logic_true.proofs.WrongCase.{wrong}
use Rattle.theory_logic_true.proofs.branches_need_their_own.Goals as goal

pub returns : goal.returns
returns c = record { law = wrong }
