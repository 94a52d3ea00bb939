use Rattle.std.proofs.Common.{◌≡◌, ◌-◌, suc, refl, arith}
use Rattle.theory_grammar.specs.Readers.{too_many}
use Rattle.theory_grammar.specs.Beginnings.{begins_decl}
use Rattle.theory_grammar.specs.Reading.{file_on, deeper}
use Rattle.htt_parser_words.specs.declared.cursor.Reason.TheVariants.{TooMany}
use Rattle.htt_parser_words.proofs.Steps.{refuse_stops, stopped_more}
use Rattle.htt_parser_words.proofs.Monotypes.{err_along}
use Rattle.htt_parser_declarations.specs.Parts.{put_decl}
use Rattle.htt_parser_declarations.proofs.Files.{file_none, file_full, file_read, file_halt}
use Rattle.htt_parser_declarations.proofs.declarations.Declarations.more_declaration.Goals as goal

pub returns-in_default-clause-gives : goal.returns-in_default-clause-gives
returns-in_default-clause-gives c = file_none _ _ _ c.in_default.ensures.is

pub returns-then-room-eq0-clause-gives : goal.returns-then-room-eq0-clause-gives
returns-then-room-eq0-clause-gives c =
    err_along _ _ _ _ (file_full (deeper 63 c.args.left) c.args.room _ _ _ c.if-room-eq0.true c.in-Some.ensures.is)
    (refuse_stops _ _ too_many begins_decl TooMany c.args.at _ refl c.refuse.ensures)

pub returns-in_err-declaration-clause-gives : goal.returns-in_err-declaration-clause-gives
returns-in_err-declaration-clause-gives c =
    let d = deeper 63 c.args.left in
    let some : c.args.room ≡ suc (c.args.room - 1) = omega (arith, c.if-room-eq0.false) in
    stopped_more _ put_decl _ _ _ (file_on d c.args.room) (file_on d (c.args.room - 1)) _ c.from_residual.ensures.1
    (file_halt d _ _ _ _ _ _ _ some c.in-Some.ensures.is c.in_err-declaration.ensures)

pub returns-clause-gives : goal.returns-clause-gives
returns-clause-gives c =
    let some : c.args.room ≡ suc (c.args.room - 1) = omega (arith, c.if-room-eq0.false) in
    file_read _ _ _ _ _ _ _ _ some c.in-Some.ensures.is c.in_ok-declaration.ensures
