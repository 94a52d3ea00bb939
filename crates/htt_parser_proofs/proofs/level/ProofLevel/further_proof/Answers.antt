use Rattle.std.proofs.Common.{◌≡◌, refl, ◌∙◌, sym, arith, ◌-◌, ◌+◌, suc}
use Rattle.theory_grammar.specs.Readers.{too_long}
use Rattle.theory_grammar.specs.Beginnings.{begins_proof}
use Rattle.theory_grammar.specs.Reading.{deeper, proofs_on}
use Rattle.htt_parser_words.specs.declared.cursor.Reason.TheVariants.{TooLong}
use Rattle.htt_parser_words.proofs.Steps.{stopped_more, refuse_stops}
use Rattle.htt_parser_words.proofs.Monotypes.{err_along}
use Rattle.htt_parser_proofs.specs.Parts.{put_proof}
use Rattle.htt_parser_proofs.proofs.Chains.{proofs_none, proofs_full, proofs_read, proofs_halt}
use Rattle.htt_parser_proofs.proofs.level.ProofLevel.further_proof.Goals as goal

pub returns-then-not-is_sign-clause-gives : goal.returns-then-not-is_sign-clause-gives
returns-then-not-is_sign-clause-gives g c = proofs_none _ _ _ (sym c.is_sign.ensures.is ∙ c.if-not-is_sign.true)

pub returns-then-room-eq0-clause-gives : goal.returns-then-room-eq0-clause-gives
returns-then-room-eq0-clause-gives g c =
    let full =
    proofs_full (deeper 63 c.args.self.now.left) c.args.room c.args.self.now.proofs.phrases.cursor.tokens.now c.args.at c.if-room-eq0.true
    (sym c.is_sign.ensures.is ∙ c.if-not-is_sign.false) in
    err_along _ _ _ _ full (refuse_stops _ _ too_long begins_proof TooLong (c.args.at + 1) _ refl c.refuse.ensures)

pub returns-in_err-proof-clause-gives : goal.returns-in_err-proof-clause-gives
returns-in_err-proof-clause-gives g c =
    let d = deeper 63 c.args.self.now.left in
    let some : c.args.room ≡ suc (c.args.room - 1) = omega (arith, c.if-room-eq0.false) in
    stopped_more _ put_proof _ _ _ (proofs_on d c.args.room) (proofs_on d (c.args.room - 1)) _ c.from_residual.ensures.1
    (proofs_halt d _ _ _ _ _ some (sym c.is_sign.ensures.is ∙ c.if-not-is_sign.false) c.in_err-proof.ensures)

pub returns-clause-gives : goal.returns-clause-gives
returns-clause-gives g c =
    let some : c.args.room ≡ suc (c.args.room - 1) = omega (arith, c.if-room-eq0.false) in
    proofs_read _ _ _ c.args.self.now.proofs.phrases.cursor.tokens.now c.args.at _ _ some
    (sym c.is_sign.ensures.is ∙ c.if-not-is_sign.false) c.in_ok-proof.ensures
