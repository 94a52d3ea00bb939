use Rattle.std.proofs.Common.{◌≡◌, refl, ◌∙◌, sym, rules, [], ◌∷◌, ◌++◌, ◌-◌, ◌+◌}
use Rattle.std.specs.Prelude.{Some}
use Rattle.htt_parser_trees.specs.Trees.{p_end, e_trivial}
use Rattle.theory_grammar.specs.Reading.{deeper, proof_on}
use Rattle.htt_parser_words.proofs.Steps.{stopped}
use Rattle.htt_parser_words.proofs.Loops.{loop_more, loop_stops}
use Rattle.htt_parser_words.proofs.Monotypes.{gives_along}
use Rattle.htt_parser_proofs.specs.Parts.{put_stmt}
use Rattle.htt_parser_proofs.proofs.ProofSteps.{proof_begin, step_read, step_halt, proof_ends, proof_over}
use Rattle.htt_parser_proofs.proofs.level.ProofLevel.proof.Goals as goal

pub loop-init : goal.loop-init
loop-init g c = proof_begin _ _ _ _ c.new-statements.ensures.items

pub returns-in_err-statement : goal.returns-in_err-statement
returns-in_err-statement g c =
    let d = deeper 63 c.args.self.now.left in
    stopped _ _ _ _ _ c.from_residual.ensures.1
    (loop_stops _ _ put_stmt c.loop.statements.items (proof_on d) c.loop.at _ _ _ c.loop-test.true c.loop.invariant
    (λ m. step_halt d m _ _ _ (sym c.begins.ensures ∙ c.if-not-begins.false) c.in_err-statement.ensures))

pub loop-preserved : goal.loop-preserved
loop-preserved g c =
    let d = deeper 63 c.args.self.now.left in
    let pushed : c.push.new.self.items ≡ c.loop.statements.items ++ c.in_ok-statement.statement ∷ [] = search rules in
    loop_more c.args.self.now.proofs.phrases.cursor.tokens.now put_stmt (p_end (e_trivial 0)) (proof_on d) _ c.loop.statements.items _
    (Some (c.in_ok-statement.statement, c.in_ok-statement.next)) c.in_ok-statement.statement _ _ c.loop.at c.in_ok-statement.next
    c.loop-test.true c.loop.invariant (λ m. step_read d m _ _ _ (sym c.begins.ensures ∙ c.if-not-begins.false) c.in_ok-statement.ensures)
    refl pushed

pub returns-then-not-begins : goal.returns-then-not-begins
returns-then-not-begins g c =
    gives_along _ _ _ _ _ (proof_ends (deeper 63 c.args.self.now.left) c.args.self.now.proofs.phrases.cursor.tokens.now c.loop.at _ _
    c.loop.statements.items _ c.loop-test.true c.loop.invariant (sym c.begins.ensures ∙ c.if-not-begins.true)) c.ended.ensures

pub returns : goal.returns
returns g c =
    proof_over (deeper 63 c.args.self.now.left) c.args.self.now.proofs.phrases.cursor.tokens.now c.loop.at _ _ c.loop.statements.items _
    c.loop-test.false c.loop.invariant
