use Rattle.std.proofs.Common.{refl, ◌-◌}
use Rattle.htt_parser_trees.specs.ProofLevels.{raw_proof_tree}
use Rattle.theory_grammar.specs.Readers.{give, ◌>>=◌}
use Rattle.theory_grammar.specs.Reading.{deeper}
use Rattle.htt_parser_words.proofs.Steps.{stopped, after_err}
use Rattle.htt_parser_proofs.specs.Parts.{ended_at}
use Rattle.htt_parser_proofs.proofs.level.ProofLevel.ended.Goals as goal

pub returns-in_err-end : goal.returns-in_err-end
unfolding ◌>>=◌
returns-in_err-end g c =
    stopped _ _ _ _ _ c.from_residual.ensures.1 (after_err _ _ (ended_at (deeper 63 c.args.self.now.left) _) _ (after_err _ _ _ _ c.in_err-end.ensures))

pub returns : goal.returns
unfolding ◌>>=◌ give raw_proof_tree
returns g c = rw (c.in_ok-end.ensures, c.of.ensures.same_items) refl
