use Rattle.theory_extraction_sound.proofs.Worked.{worked}
use Rattle.theory_extraction_sound.proofs.worked_headline.Goals as goal

pub returns : goal.returns
returns c = record { examples = worked }
