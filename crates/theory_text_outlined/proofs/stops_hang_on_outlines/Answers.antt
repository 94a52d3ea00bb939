use Rattle.theory_text_outlined.proofs.Proofs.{law}
use Rattle.theory_text_outlined.proofs.stops_hang_on_outlines.Goals as goal

pub returns : goal.returns
returns c = record { law = law }
