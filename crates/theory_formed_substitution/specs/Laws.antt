-- Substitution keeps trees formed.
use Rattle.std.specs.Prelude.{◌≢◌, ℕ, suc, ◌∷◌}
use Rattle.htt_syntax.specs.Trees.{MonoTree, TyTree, TermTree, CompTree, FormulaTree}
use Rattle.theory_renaming.specs.Renaming.{rename_mono}
use Rattle.theory_canonical.specs.Skeletons.{Skeleton}
use Rattle.theory_substitution.specs.Closing.{closing}
use Rattle.theory_substitution.specs.Substitution.{SubTerm, SubComp, SubTy, SubFormula, App, Bind}
use Rattle.theory_formed_shapes.specs.Shapes.{Shape, sh_mono, sh_fun, fill_shape, renaming_of, in_term, Shapes}
use Rattle.theory_formed_shapes.specs.Shapes.{IsMonoAt, IsHeapAt, HasShape}
use Rattle.theory_formed_shapes.specs.Formed.{FileShapes, IsFormedTerm, IsFormedComp, IsFormedTy, IsFormedFormula}
use Rattle.theory_formed_shapes.specs.Formed.{IsClosedFile}

-- The new term is of the shape of the variable x of the first context; the second has the first's other
-- variables.
pub record PutsFormed (file : FileShapes) (new : TermTree) (x : ℕ) (g h : Shapes) : Type 0 where
  pub here : (s : Shape) → HasShape g x s → IsFormedTerm file h new (fill_shape (renaming_of (closing x)) s)
  pub others : (n : ℕ) (s : Shape)
      → n ≢ x
      → HasShape g n s
      → HasShape h (closing x n) (fill_shape (renaming_of (closing x)) s)
  pub monos : (n : ℕ) → IsMonoAt g n → IsMonoAt h (closing x n)
  pub heaps : (n : ℕ) → IsHeapAt g n → IsHeapAt h (closing x n)

-- whatever the skeleton is: that a result is given is enough
pub record SubstitutionKeepsFormed : Type 0 where
  pub terms : (file : FileShapes)
      → IsClosedFile file
      → (new : TermTree) (x : ℕ) (g h : Shapes)
      → PutsFormed file new x g h
      → (s : Skeleton) (M R : TermTree)
      → SubTerm new s x M R
      → (a : Shape)
      → IsFormedTerm file g M a
      → IsFormedTerm file h R (fill_shape (renaming_of (closing x)) a)
  pub computations : (file : FileShapes)
      → IsClosedFile file
      → (new : TermTree) (x : ℕ) (g h : Shapes)
      → PutsFormed file new x g h
      → (s : Skeleton) (E R : CompTree)
      → SubComp new s x E R
      → (t : MonoTree)
      → IsFormedComp file g E t
      → IsFormedComp file h R (rename_mono (closing x) t)
  pub types : (file : FileShapes)
      → IsClosedFile file
      → (new : TermTree) (x : ℕ) (g h : Shapes)
      → PutsFormed file new x g h
      → (s : Skeleton) (A R : TyTree)
      → SubTy new s x A R
      → IsFormedTy file g A
      → IsFormedTy file h R
  pub formulas : (file : FileShapes)
      → IsClosedFile file
      → (new : TermTree) (x : ℕ) (g h : Shapes)
      → PutsFormed file new x g h
      → (s : Skeleton) (F R : FormulaTree)
      → SubFormula new s x F R
      → IsFormedFormula file g F
      → IsFormedFormula file h R
  pub applications : (file : FileShapes)
      → IsClosedFile file
      → (g : Shapes) (s : Skeleton) (function argument R : TermTree) (a b : Shape)
      → App function s argument R
      → IsFormedTerm file g function (sh_fun a b)
      → IsFormedTerm file g argument a
      → IsFormedTerm file g R b
  pub splicing : (file : FileShapes)
      → IsClosedFile file
      → (g : Shapes) (comp others R : CompTree) (t u : MonoTree)
      → Bind comp others R
      → IsFormedComp file g comp t
      → IsFormedComp file (in_term (sh_mono t) ∷ g) others (rename_mono suc u)
      → IsFormedComp file g R u
