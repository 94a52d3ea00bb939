-- Renaming keeps counts, and a depth is within a count of nodes.
use Rattle.std.specs.Prelude.{◌≡◌, ◌≤◌}
use Rattle.htt_syntax.specs.Trees.{MonoTree, TyTree, TermTree, CompTree, FormulaTree, ProofTree}
use Rattle.theory_renaming.specs.Renaming.{Map, rename_mono, rename_ty, rename_term, rename_comp, rename_formula}
use Rattle.theory_renaming.specs.Renaming.{rename_proof}
use Rattle.theory_counts.specs.Nodes.{nodes_mono, nodes_ty, nodes_term, nodes_comp, nodes_formula, nodes_proof}
use Rattle.theory_counts.specs.Depth.{depth_mono, depth_ty, depth_term, depth_comp, depth_formula, depth_proof}

pub record RenamingKeepsNodes : Type 0 where
  pub monos : (m : Map) (mono : MonoTree) → nodes_mono (rename_mono m mono) ≡ nodes_mono mono
  pub types : (m : Map) (ty : TyTree) → nodes_ty (rename_ty m ty) ≡ nodes_ty ty
  pub terms : (m : Map) (term : TermTree) → nodes_term (rename_term m term) ≡ nodes_term term
  pub comps : (m : Map) (comp : CompTree) → nodes_comp (rename_comp m comp) ≡ nodes_comp comp
  pub formulas : (m : Map) (formula : FormulaTree) → nodes_formula (rename_formula m formula) ≡ nodes_formula formula
  pub proofs : (m : Map) (proof : ProofTree) → nodes_proof (rename_proof m proof) ≡ nodes_proof proof

pub record RenamingKeepsDepth : Type 0 where
  pub monos : (m : Map) (mono : MonoTree) → depth_mono (rename_mono m mono) ≡ depth_mono mono
  pub types : (m : Map) (ty : TyTree) → depth_ty (rename_ty m ty) ≡ depth_ty ty
  pub terms : (m : Map) (term : TermTree) → depth_term (rename_term m term) ≡ depth_term term
  pub comps : (m : Map) (comp : CompTree) → depth_comp (rename_comp m comp) ≡ depth_comp comp
  pub formulas : (m : Map) (formula : FormulaTree) → depth_formula (rename_formula m formula) ≡ depth_formula formula
  pub proofs : (m : Map) (proof : ProofTree) → depth_proof (rename_proof m proof) ≡ depth_proof proof

-- A tree is no deeper than it has nodes.
pub record DepthWithinNodes : Type 0 where
  pub monos : (mono : MonoTree) → depth_mono mono ≤ nodes_mono mono
  pub types : (ty : TyTree) → depth_ty ty ≤ nodes_ty ty
  pub terms : (term : TermTree) → depth_term term ≤ nodes_term term
  pub comps : (comp : CompTree) → depth_comp comp ≤ nodes_comp comp
  pub formulas : (formula : FormulaTree) → depth_formula formula ≤ nodes_formula formula
  pub proofs : (proof : ProofTree) → depth_proof proof ≤ nodes_proof proof
