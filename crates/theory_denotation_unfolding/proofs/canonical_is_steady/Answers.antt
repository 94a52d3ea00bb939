use Rattle.theory_denotation_unfolding.proofs.Unfolded.{canonical_steady}
use Rattle.theory_denotation_unfolding.proofs.canonical_is_steady.Goals as goal

pub returns : goal.returns
returns c = record { law = canonical_steady }
