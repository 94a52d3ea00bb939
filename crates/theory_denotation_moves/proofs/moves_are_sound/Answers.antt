use Rattle.theory_denotation_moves.proofs.Sound.{sound}
use Rattle.theory_denotation_moves.proofs.moves_are_sound.Goals as goal

pub returns : goal.returns
returns c = record { law = sound }
