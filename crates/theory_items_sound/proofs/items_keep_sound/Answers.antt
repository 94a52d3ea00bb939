use Rattle.theory_items_sound.proofs.Kept.{items_keep_sound}
use Rattle.theory_items_sound.proofs.items_keep_sound.Goals as goal

pub returns : goal.returns
returns c = record { law = items_keep_sound }
