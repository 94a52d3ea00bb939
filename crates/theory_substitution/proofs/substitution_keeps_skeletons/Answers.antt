use Rattle.theory_substitution.specs.Closing.{closing}
use Rattle.theory_substitution.specs.Monotypes.{put_mono}
use Rattle.theory_substitution.proofs.Skeletons.{skeleton_kept, skeleton_filled}
use Rattle.theory_substitution.proofs.substitution_keeps_skeletons.Goals as goal

pub returns : goal.returns
returns c = record { terms = λ new s x ty r d. skeleton_kept d; monotypes = λ mono x ty. skeleton_filled (put_mono mono x) (closing x) ty }
