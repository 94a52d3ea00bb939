use Rattle.std.proofs.Common.{sym, subst, length}
use Rattle.theory_reading.proofs.Laws.{file_is_derived}
use Rattle.htt_parser.specs.Refusals.{RefusesFile}
use Rattle.htt_parser.proofs.Whole.{refused_file}
use Rattle.htt_parser.proofs.calls.parse.Goals as goal

pub returns-in-Ok-clause-derived : goal.returns-in-Ok-clause-derived
returns-in-Ok-clause-derived c = (file_is_derived c.args.tokens.now _ _ c.in-Ok.ensures).0

pub returns-in-Ok-clause-within : goal.returns-in-Ok-clause-within
returns-in-Ok-clause-within c = (file_is_derived c.args.tokens.now _ _ c.in-Ok.ensures).1

pub returns-in-Err-clause-refused : goal.returns-in-Err-clause-refused
returns-in-Err-clause-refused c =
    subst (RefusesFile (length c.args.text.now) c.args.tokens.now) (sym c.stop.ensures)
    (refused_file c.args.tokens.now (length c.args.text.now) c.in-Err.halted c.in-Err.ensures)
