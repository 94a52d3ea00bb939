use Rattle.theory_text_outlined.proofs.Declarations.{law}
use Rattle.theory_text_outlined.proofs.declarations_hang_on_outlines.Goals as goal

pub returns : goal.returns
returns c = record { law = law }
