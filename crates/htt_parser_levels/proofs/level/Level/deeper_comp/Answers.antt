use Rattle.theory_grammar.specs.Readers.{◌>>=◌}
use Rattle.htt_parser_words.proofs.Steps.{stopped}
use Rattle.htt_parser_levels.specs.declared.found.Wanted.TheVariants as wanted
use Rattle.htt_parser_levels.specs.Levels.{comp_found}
use Rattle.htt_parser_levels.proofs.Findings.{stops_within, made_of, only_comp, found_comp}
use Rattle.htt_parser_levels.proofs.level.Level.deeper_comp.Goals as goal

pub returns-in_err-found : goal.returns-in_err-found
unfolding ◌>>=◌
returns-in_err-found g c =
    stopped _ _ _ _ _ c.from_residual.ensures.1 (stops_within comp_found _ _ _ (c.requires.1 wanted.Computation _ _ c.in_err-found.ensures))

pub unreachable-requires : goal.unreachable-requires
unfolding ◌>>=◌
unreachable-requires g c =
    let made = made_of comp_found _ _ _ (c.requires.1 wanted.Computation _ _ c.in_ok-found.ensures) in
    only_comp c.in_ok-found.found made.part made.makes c.in_default.not-Computation

pub returns : goal.returns
unfolding ◌>>=◌
returns g c = found_comp c.in_ok-found.found _ _ _ (c.requires.1 wanted.Computation _ _ c.in_ok-found.ensures) c.in-Computation.is
