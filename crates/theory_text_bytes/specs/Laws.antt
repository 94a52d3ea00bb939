-- The laws of texts.
use Rattle.std.specs.Prelude.{◌≡◌, ℕ, List}
use Rattle.htt_syntax.specs.Trees.{TyTree, FormulaTree, ProofTree}
use Rattle.theory_text_names.specs.Stops.{Stop}
use Rattle.theory_text_names.specs.Scopes.{Scope}
use Rattle.theory_text_items.specs.Items.{Resolved}
use Rattle.theory_text_bytes.specs.Texts.{IsText, IsTypeText, IsFormulaText, IsProofText, IsStopped, IsWithin}

-- a text stands for one thing at most
pub record TextsAreOne : Type 0 where
  pub files : (text : List ℕ) (file other : Resolved) → IsText text file → IsText text other → file ≡ other
  pub types : (s : Scope) (A B : TyTree) → IsTypeText s A → IsTypeText s B → A ≡ B
  pub formulas : (s : Scope) (F G : FormulaTree) → IsFormulaText s F → IsFormulaText s G → F ≡ G
  pub proofs : (s : Scope) (p q : ProofTree) → IsProofText s p → IsProofText s q → p ≡ q

-- a text that is stopped is stopped by one event, and isn't within the limits; one within them is a text
pub record StopsAreOne : Type 0 where
  pub one : (text : List ℕ) (stop other : Stop) → IsStopped text stop → IsStopped text other → stop ≡ other
  pub no_items : (text : List ℕ) (stop : Stop) (file : Resolved) → IsStopped text stop → IsWithin text file → ⊥
  pub stands : (text : List ℕ) (file : Resolved) → IsWithin text file → IsText text file
