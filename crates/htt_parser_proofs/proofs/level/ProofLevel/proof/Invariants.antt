use Rattle.std.proofs.Common.{◌≡◌, ◌-◌, drop}
use Rattle.htt_parser_trees.specs.Trees.{onto}
use Rattle.theory_grammar.specs.Reading.{deeper, proof_reader, proof_on}
use Rattle.htt_parser_words.specs.Results.{mapped}
use Rattle.htt_parser_proofs.specs.Parts.{put_stmt}
use Rattle.htt_parser_proofs.proofs.level.ProofLevel.proof.Given as goal

abbrev pub invariant-loop : goal.invariant-loop
invariant-loop g l =
    proof_reader (deeper 63 l.self.left) (drop l.fn.at l.self.proofs.phrases.cursor.tokens.now)
    ≡ mapped (onto put_stmt l.statements.items)
    (proof_on (deeper 63 l.self.left) (l.end - l.counter) (drop l.at l.self.proofs.phrases.cursor.tokens.now))
