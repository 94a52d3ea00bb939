use Rattle.theory_file_sound.proofs.Sound.{derived_sound}
use Rattle.theory_file_sound.proofs.derived_file_is_sound.Goals as goal

pub returns : goal.returns
returns c = record { law = derived_sound }
