use Rattle.theory_canonical.proofs.OneSkeleton.{neutral_once}
use Rattle.theory_canonical.proofs.neutral_has_one_skeleton.Goals as goal

pub returns : goal.returns
returns c = record { law = λ heads g term s t d e. neutral_once d e }
