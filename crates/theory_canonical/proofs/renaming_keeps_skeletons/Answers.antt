use Rattle.theory_canonical.proofs.Renamed.{skeleton_stays}
use Rattle.theory_canonical.proofs.renaming_keeps_skeletons.Goals as goal

pub returns : goal.returns
returns c = record { law = skeleton_stays }
