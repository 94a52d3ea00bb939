-- What reads a proof one level deeper.
use Rattle.std.specs.Prelude.{ℕ, drop, Result}
use denote.Param.Members.{Shared}
use denote.Param.Always.{always_fn}
use Rattle.htt_parser_trees.specs.declared.proof.RawProof.{RawProof}
use Rattle.htt_parser_trees.specs.ProofLevels.{raw_proof_tree}
use Rattle.theory_grammar.specs.Reading.{deeper}
use Rattle.htt_parser_words.specs.declared.cursor.Halted.{Halted}
use Rattle.htt_parser_words.specs.Results.{Gives}
use Rattle.htt_parser_proofs.specs.declared.level.ProofLevel.{ProofLevel}

-- a level whose function reads a proof as the grammar does where so many levels are left
abbrev pub IsProofLevel : {F : Type 0} → Shared F (ℕ × Unit {0}) (Result (RawProof × ℕ) Halted) → ProofLevel F → Type 0
IsProofLevel calls level =
    always_fn calls level.deeper
    × ((at : ℕ) (r : Result (RawProof × ℕ) Halted) → calls.post level.deeper (at, tt) r →
    Gives level.proofs.phrases.cursor.tokens.now raw_proof_tree r
    ((deeper 63 level.left).proof (drop at level.proofs.phrases.cursor.tokens.now)))
