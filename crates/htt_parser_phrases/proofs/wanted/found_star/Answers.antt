use Rattle.std.proofs.Common.{refl}
use Rattle.htt_parser_words.proofs.Steps.{stopped, after_err, reading}
use Rattle.htt_parser_phrases.proofs.wanted.found_star.Goals as goal

pub returns-in_err-star : goal.returns-in_err-star
unfolding reading
returns-in_err-star g c = stopped _ _ _ _ _ c.from_residual.ensures.1 (after_err _ _ _ _ c.in_err-star.ensures)

pub returns : goal.returns
unfolding reading
returns g c = rw c.in_ok-star.ensures refl
