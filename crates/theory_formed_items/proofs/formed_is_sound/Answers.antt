use Rattle.theory_formed_items.proofs.Sound.{formed_sound}
use Rattle.theory_formed_items.proofs.formed_is_sound.Goals as goal

pub returns : goal.returns
returns c = record { law = formed_sound }
