use Rattle.theory_truth.proofs.Stars.{stars}
use Rattle.theory_truth.proofs.star_is_split.Goals as goal

pub returns : goal.returns
returns c = record { law = stars }
