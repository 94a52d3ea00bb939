use Rattle.std.proofs.Common.{◌≡◌, ◌-◌, ◌∙◌, ap, refl, suc, arith, drop}
use Rattle.theory_grammar.specs.Readers.{too_nested}
use Rattle.theory_grammar.specs.Beginnings.{begins_proof}
use Rattle.theory_grammar.specs.Reading.{deeper}
use Rattle.htt_parser_words.specs.declared.cursor.Reason.TheVariants.{TooNested}
use Rattle.htt_parser_words.proofs.Steps.{refuse_stops}
use Rattle.htt_parser_words.proofs.Monotypes.{err_along, gives_along}
use Rattle.htt_parser_proofs.proofs.ProofSteps.{proof_none, proof_some}
use Rattle.htt_parser_proofs.proofs.proofs.+Proofs-deeper_proof+fn-Proofs-deeper_proof-closure.Goals as goal

pub returns-then-left-eq0 : goal.returns-then-left-eq0
returns-then-left-eq0 n c =
    let us = drop c.args.at c.args.self.now.phrases.cursor.tokens.now in
    err_along _ _ _ _ (ap (λ m. (deeper 63 m).proof us) c.if-left-eq0.true ∙ ap (λ r. r us) proof_none)
    (refuse_stops _ c.args.self.now.phrases.cursor.tokens.now too_nested begins_proof TooNested c.args.at _ refl c.refuse.ensures)

pub returns : goal.returns
returns n c =
    let us = drop c.args.at c.args.self.now.phrases.cursor.tokens.now in
    let some : c.args.left ≡ suc (c.args.left - 1) = omega (arith, c.if-left-eq0.false) in
    gives_along _ _ _ _ _ (ap (λ m. (deeper 63 m).proof us) some ∙ ap (λ r. r us) (proof_some (c.args.left - 1))) c.proof.ensures
