use Rattle.std.proofs.Common.{sym, subst, length}
use Rattle.theory_grammar.specs.Grammar.{proof}
use Rattle.theory_reading.specs.Laws.{read_proof}
use Rattle.theory_reading.proofs.Laws.{proof_is_derived}
use Rattle.theory_refusals.proofs.Phrases.{whole_proof_is_refused}
use Rattle.htt_parser.specs.Refusals.{RefusesTokens}
use Rattle.htt_parser.proofs.Whole.{to_the_end, goes_on, refused}
use Rattle.htt_parser.proofs.calls.parse_proof.Goals as goal

pub returns-in-None-clause-derived : goal.returns-in-None-clause-derived
returns-in-None-clause-derived c = (proof_is_derived c.args.tokens.now _ (to_the_end read_proof c.args.tokens.now _ _ c.in-Ok.ensures c.in-None.ensures.is)).0

pub returns-in-None-clause-within : goal.returns-in-None-clause-within
returns-in-None-clause-within c = (proof_is_derived c.args.tokens.now _ (to_the_end read_proof c.args.tokens.now _ _ c.in-Ok.ensures c.in-None.ensures.is)).1

pub returns-in-Some-clause-refused : goal.returns-in-Some-clause-refused
returns-in-Some-clause-refused c =
    goes_on (proof 1) read_proof whole_proof_is_refused (length c.args.text.now) c.args.tokens.now _ _ _ _ c.in-Ok.ensures
    c.in-Some.ensures.is

pub returns-in-Err-clause-refused : goal.returns-in-Err-clause-refused
returns-in-Err-clause-refused c =
    subst (RefusesTokens (proof 1) (length c.args.text.now) c.args.tokens.now) (sym c.stop.ensures)
    (refused (proof 1) read_proof whole_proof_is_refused c.args.tokens.now (length c.args.text.now) c.in-Err.halted c.in-Err.ensures)
