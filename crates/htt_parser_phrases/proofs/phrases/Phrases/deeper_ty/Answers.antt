use Rattle.std.proofs.Common.{◌≡◌, drop}
use Rattle.theory_grammar.specs.Readers.{◌>>=◌}
use Rattle.htt_parser_words.proofs.Steps.{stopped}
use Rattle.htt_parser_levels.specs.Levels.{ty_found}
use Rattle.htt_parser_levels.proofs.Findings.{stops_within, made_of, only_ty, found_ty}
use Rattle.htt_parser_phrases.proofs.phrases.Phrases.deeper_ty.Goals as goal

pub returns-in_err-found : goal.returns-in_err-found
unfolding ◌>>=◌
returns-in_err-found c = stopped _ _ _ _ _ c.from_residual.ensures.1 (stops_within ty_found _ _ _ c.in_err-found.ensures)

pub unreachable-requires : goal.unreachable-requires
unfolding ◌>>=◌
unreachable-requires c = let made = made_of ty_found _ _ _ c.in_ok-found.ensures in only_ty c.in_ok-found.found made.part made.makes c.in_default.not-Type

pub returns : goal.returns
unfolding ◌>>=◌
returns c = found_ty c.in_ok-found.found _ _ _ c.in_ok-found.ensures c.in-Type.is
