use Rattle.std.proofs.Common.{◌≡◌, ◌+◌, ◌-◌, suc, refl, sym, ◌∙◌, arith, []}
use Rattle.htt_parser_trees.specs.ProofViews.{raw_arg_tree}
use Rattle.theory_grammar.specs.Readers.{too_long}
use Rattle.theory_grammar.specs.Beginnings.{begins_arg}
use Rattle.theory_grammar.specs.Reading.{args_on, deeper}
use Rattle.htt_parser_words.specs.declared.cursor.Reason.TheVariants.{TooLong}
use Rattle.htt_parser_words.proofs.Steps.{refuse_stops, stopped_more}
use Rattle.htt_parser_words.proofs.Monotypes.{err_along}
use Rattle.htt_parser_proofs.specs.Parts.{put_arg}
use Rattle.htt_parser_proofs.proofs.Chains.{args_none, args_full, args_read, args_halt}
use Rattle.htt_parser_proofs.proofs.proofs.Proofs.further_argument.Goals as goal

pub returns-then-not-is_sign-clause-gives : goal.returns-then-not-is_sign-clause-gives
returns-then-not-is_sign-clause-gives c = args_none _ _ _ (sym c.is_sign.ensures.is ∙ c.if-not-is_sign.true)

pub returns-then-room-eq0-clause-gives : goal.returns-then-room-eq0-clause-gives
returns-then-room-eq0-clause-gives c =
    let full =
    args_full (deeper 63 c.args.left) c.args.room c.args.self.now.phrases.cursor.tokens.now c.args.at c.if-room-eq0.true
    (sym c.is_sign.ensures.is ∙ c.if-not-is_sign.false) in
    err_along _ _ _ _ full (refuse_stops _ _ too_long begins_arg TooLong (c.args.at + 1) _ refl c.refuse.ensures)

pub returns-in_err-argument-clause-gives : goal.returns-in_err-argument-clause-gives
returns-in_err-argument-clause-gives c =
    let d = deeper 63 c.args.left in
    let some : c.args.room ≡ suc (c.args.room - 1) = omega (arith, c.if-room-eq0.false) in
    stopped_more _ put_arg _ _ _ (args_on d c.args.room) (args_on d (c.args.room - 1)) _ c.from_residual.ensures.1
    (args_halt d _ _ _ _ _ some (sym c.is_sign.ensures.is ∙ c.if-not-is_sign.false) c.in_err-argument.ensures)

pub returns-clause-gives : goal.returns-clause-gives
returns-clause-gives c =
    let some : c.args.room ≡ suc (c.args.room - 1) = omega (arith, c.if-room-eq0.false) in
    args_read _ _ _ c.args.self.now.phrases.cursor.tokens.now c.args.at _ _ some (sym c.is_sign.ensures.is ∙ c.if-not-is_sign.false) c.in_ok-argument.ensures
