use Rattle.std.proofs.Common.{◌≡◌, ◌-◌, drop}
use Rattle.htt_parser_trees.specs.Trees.{onto}
use Rattle.theory_grammar.specs.Reading.{deeper, proofs_on}
use Rattle.htt_parser_words.specs.Results.{mapped}
use Rattle.htt_parser_proofs.specs.Parts.{put_proof}
use Rattle.htt_parser_proofs.proofs.level.ProofLevel.further_proofs.Given as goal

abbrev pub invariant-loop-proofs : goal.invariant-loop-proofs
invariant-loop-proofs g l =
    proofs_on (deeper 63 l.self.left) 62 (drop l.fn.at l.self.proofs.phrases.cursor.tokens.now)
    ≡ mapped (onto put_proof l.proofs.items) (proofs_on (deeper 63 l.self.left) l.room (drop l.at l.self.proofs.phrases.cursor.tokens.now))

abbrev pub decreases-loop-proofs : goal.decreases-loop-proofs
decreases-loop-proofs g l = l.room
