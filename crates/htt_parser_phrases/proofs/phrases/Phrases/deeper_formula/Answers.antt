use Rattle.std.proofs.Common.{◌≡◌, drop}
use Rattle.theory_grammar.specs.Readers.{◌>>=◌}
use Rattle.htt_parser_words.proofs.Steps.{stopped}
use Rattle.htt_parser_levels.specs.Levels.{formula_found}
use Rattle.htt_parser_levels.proofs.Findings.{stops_within, made_of, only_formula, found_formula}
use Rattle.htt_parser_phrases.proofs.phrases.Phrases.deeper_formula.Goals as goal

pub returns-in_err-found : goal.returns-in_err-found
unfolding ◌>>=◌
returns-in_err-found c = stopped _ _ _ _ _ c.from_residual.ensures.1 (stops_within formula_found _ _ _ c.in_err-found.ensures)

pub unreachable-requires : goal.unreachable-requires
unfolding ◌>>=◌
unreachable-requires c =
    let made = made_of formula_found _ _ _ c.in_ok-found.ensures in
    only_formula c.in_ok-found.found made.part made.makes c.in_default.not-Formula

pub returns : goal.returns
unfolding ◌>>=◌
returns c = found_formula c.in_ok-found.found _ _ _ c.in_ok-found.ensures c.in-Formula.is
