-- The tokens that are printed of a proof derive a tree of the grammar, which comes to what was printed.
use Rattle.std.specs.Prelude.{ℕ, List}
use Rattle.htt_syntax.specs.Trees.{ProofTree}
use Rattle.theory_grammar.specs.Grammar as grammar
use Rattle.theory_text_names.specs.Scopes.{Scope}
use Rattle.theory_text.specs.Proofs.{proof_comes}
use Rattle.theory_printing.specs.Pieces.{Printed}
use Rattle.theory_printing.specs.Names.{PrintScope}
use Rattle.theory_printing.specs.Proofs.{proof}
use Rattle.theory_printing_conditions.specs.Conditions.{HasTextProof}
use Rattle.theory_printing_tokens.specs.Spoken.{Spoken}
use Rattle.theory_printing_names.specs.Scopes.{HasPrintedNames}
use Rattle.theory_printing_forms.specs.Said.{said_proof}
use Rattle.theory_printing_forms.specs.Readings.{Reads}

abbrev pub ReadsProof : (r : Scope) (l : ℕ) (p : Printed) → Spoken r.text p → ProofTree → Type 0
ReadsProof r l p v told = Reads (grammar.proof l) (proof_comes r) said_proof r.text l p v told

pub record PrintedProofs : Type 0 where
  pub proofs : (counts : List ℕ) (s : PrintScope) (r : Scope) (p : ProofTree) (l : ℕ)
      → HasPrintedNames s counts r
      → HasTextProof counts s p
      → (v : Spoken r.text (proof s p))
      → ReadsProof r l (proof s p) v (said_proof p)
