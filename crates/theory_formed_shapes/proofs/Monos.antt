-- Types whose monotypes are formed. Formulas in a type aren't looked at.
use Rattle.std.proofs.Common.{◌∷◌}
use Rattle.htt_syntax.specs.Trees.{MonoTree, TyTree, FormulaTree, y_mono, y_fun, y_all, y_hoare, triple}
use Rattle.theory_formed_shapes.specs.Shapes.{shape_of, in_mono, in_term, Shapes}
use Rattle.theory_formed_shapes.specs.Formed.{FileShapes, IsFormedMono, IsFormedTy, z_mono, z_fun, z_all, z_hoare, z_triple}

pub data MonosFormed : Shapes → TyTree → Type 0 where
  mono_monos : {g : Shapes} {t : MonoTree} → IsFormedMono g t → MonosFormed g (y_mono t)
  fun_monos : {g : Shapes} {argument answer : TyTree}
      → MonosFormed g argument
      → MonosFormed (in_term (shape_of argument) ∷ g) answer
      → MonosFormed g (y_fun argument answer)
  all_monos : {g : Shapes} {body : TyTree} → MonosFormed (in_mono ∷ g) body → MonosFormed g (y_all body)
  spec_monos : {g : Shapes} {pre post : FormulaTree} {t : MonoTree} → IsFormedMono g t → MonosFormed g (y_hoare (triple pre t post))

pub answer_monos : {g : Shapes} {argument answer : TyTree} → MonosFormed g (y_fun argument answer) → MonosFormed (in_term (shape_of argument) ∷ g) answer
answer_monos (fun_monos d e) = e

pub formed_monos : {file : FileShapes} {g : Shapes} {A : TyTree} → IsFormedTy file g A → MonosFormed g A
formed_monos (z_mono m) = mono_monos m
formed_monos (z_fun d e) = fun_monos (formed_monos d) (formed_monos e)
formed_monos (z_all d) = all_monos (formed_monos d)
formed_monos (z_hoare (z_triple d m e)) = spec_monos m
