use Rattle.theory_typing_sound.proofs.Sound.{sound}
use Rattle.theory_typing_sound.proofs.typing_is_sound.Goals as goal

pub returns : goal.returns
returns c = record { law = sound }
