use Rattle.theory_file_steps.proofs.Growing.{sound}
use Rattle.theory_file_steps.proofs.files_are_sound.Goals as goal

pub returns : goal.returns
returns c = record { law = sound }
