use Rattle.std.proofs.Common.{sym, subst, length}
use Rattle.theory_grammar.specs.Grammar.{mono}
use Rattle.theory_reading.specs.Laws.{read_mono}
use Rattle.theory_reading.proofs.Laws.{mono_is_derived}
use Rattle.theory_refusals.proofs.Phrases.{whole_mono_is_refused}
use Rattle.htt_parser.specs.Refusals.{RefusesTokens}
use Rattle.htt_parser.proofs.Whole.{to_the_end, goes_on, refused}
use Rattle.htt_parser.proofs.calls.parse_mono.Goals as goal

pub returns-in-None-clause-derived : goal.returns-in-None-clause-derived
returns-in-None-clause-derived c = (mono_is_derived c.args.tokens.now _ (to_the_end read_mono c.args.tokens.now _ _ c.in-Ok.ensures c.in-None.ensures.is)).0

pub returns-in-None-clause-within : goal.returns-in-None-clause-within
returns-in-None-clause-within c = (mono_is_derived c.args.tokens.now _ (to_the_end read_mono c.args.tokens.now _ _ c.in-Ok.ensures c.in-None.ensures.is)).1

pub returns-in-Some-clause-refused : goal.returns-in-Some-clause-refused
returns-in-Some-clause-refused c =
    goes_on (mono 1) read_mono whole_mono_is_refused (length c.args.text.now) c.args.tokens.now _ _ _ _ c.in-Ok.ensures c.in-Some.ensures.is

pub returns-in-Err-clause-refused : goal.returns-in-Err-clause-refused
returns-in-Err-clause-refused c =
    subst (RefusesTokens (mono 1) (length c.args.text.now) c.args.tokens.now) (sym c.stop.ensures)
    (refused (mono 1) read_mono whole_mono_is_refused c.args.tokens.now (length c.args.text.now) c.in-Err.halted c.in-Err.ensures)
