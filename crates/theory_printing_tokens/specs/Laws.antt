-- What is printed of a tree that has a text is read as the tokens that were printed.
use Rattle.std.specs.Prelude.{ℕ, List}
use Rattle.htt_lexer.specs.Tokens.{AreTokens}
use Rattle.htt_syntax.specs.Trees.{TyTree, FormulaTree, ProofTree}
use Rattle.theory_printing.specs.Pieces.{Printed, bytes_of}
use Rattle.theory_printing.specs.Names.{PrintScope}
use Rattle.theory_printing.specs.Phrases.{ty, formula}
use Rattle.theory_printing.specs.Proofs.{proof}
use Rattle.theory_printing_conditions.specs.Conditions.{HasTextTy, HasTextFormula, HasTextProof}
use Rattle.theory_printing_tokens.specs.Spoken.{Spoken, tokens_of}

-- the text of what is printed has the printed tokens
pub record HasPrintedTokens (p : Printed) : Type 0 where
  pub spoken : Spoken (bytes_of p) p
  pub are_tokens : AreTokens (bytes_of p) (tokens_of (bytes_of p) p spoken)

pub record PrintedTokens : Type 0 where
  pub types : (counts : List ℕ) (s : PrintScope) (A : TyTree) → HasTextTy counts s A → HasPrintedTokens (ty s A)
  pub formulas : (counts : List ℕ) (s : PrintScope) (F : FormulaTree)
      → HasTextFormula counts s F
      → HasPrintedTokens (formula s F)
  pub proofs : (counts : List ℕ) (s : PrintScope) (p : ProofTree)
      → HasTextProof counts s p
      → HasPrintedTokens (proof s p)
