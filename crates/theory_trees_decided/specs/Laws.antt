-- Two trees are equal or they aren't.
use Rattle.std.specs.Prelude.{◌≡◌, ◌≢◌, ◌⊎◌}
use Rattle.htt_syntax.specs.Trees.{MonoTree, TyTree, TermTree, CompTree, FormulaTree}

pub record TreesAreDecided : Type 0 where
  pub monos : (a b : MonoTree) → (a ≡ b) ⊎ (a ≢ b)
  pub terms : (a b : TermTree) → (a ≡ b) ⊎ (a ≢ b)
  pub types : (a b : TyTree) → (a ≡ b) ⊎ (a ≢ b)
  pub computations : (a b : CompTree) → (a ≡ b) ⊎ (a ≢ b)
  pub formulas : (a b : FormulaTree) → (a ≡ b) ⊎ (a ≢ b)
