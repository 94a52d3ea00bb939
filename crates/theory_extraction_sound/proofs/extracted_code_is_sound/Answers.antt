use Rattle.theory_extraction_sound.proofs.Sound.{code_is_sound}
use Rattle.theory_extraction_sound.proofs.extracted_code_is_sound.Goals as goal

pub returns : goal.returns
returns c = record { law = code_is_sound }
