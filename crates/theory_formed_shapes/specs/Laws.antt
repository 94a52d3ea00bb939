-- The laws of formed trees: renaming, monotypes put for variables, and substitution keep them formed.
use Rattle.std.specs.Prelude.{ℕ}
use Rattle.htt_syntax.specs.Trees.{TyTree, TermTree, FormulaTree}
use Rattle.theory_renaming.specs.Renaming.{Map, rename_ty, rename_term, rename_formula}
use Rattle.theory_substitution.specs.Monotypes.{Filling, fill_ty, fill_term, fill_formula}
use Rattle.theory_formed_shapes.specs.Shapes.{Shape, fill_shape, renaming_of, Shapes, IsMonoAt, IsHeapAt, HasShape}
use Rattle.theory_formed_shapes.specs.Formed.{FileShapes, IsFormedMono, IsFormedTerm, IsFormedTy, IsFormedFormula}
use Rattle.theory_formed_shapes.specs.Formed.{IsClosedFile}

-- What a filling and a map are to give for the variables of the one context in the other.
pub record FillsFormed (f : Filling) (m : Map) (g h : Shapes) : Type 0 where
  pub monos : (n : ℕ) → IsMonoAt g n → IsFormedMono h (f n)
  pub heaps : (n : ℕ) → IsHeapAt g n → IsHeapAt h (m n)
  pub terms : (n : ℕ) (s : Shape) → HasShape g n s → HasShape h (m n) (fill_shape f s)

pub record RenamingKeepsFormed : Type 0 where
  pub terms : (file : FileShapes)
      → IsClosedFile file
      → (m : Map) (g h : Shapes)
      → FillsFormed (renaming_of m) m g h
      → (M : TermTree) (s : Shape)
      → IsFormedTerm file g M s
      → IsFormedTerm file h (rename_term m M) (fill_shape (renaming_of m) s)
  pub types : (file : FileShapes)
      → IsClosedFile file
      → (m : Map) (g h : Shapes)
      → FillsFormed (renaming_of m) m g h
      → (A : TyTree)
      → IsFormedTy file g A
      → IsFormedTy file h (rename_ty m A)
  pub formulas : (file : FileShapes)
      → IsClosedFile file
      → (m : Map) (g h : Shapes)
      → FillsFormed (renaming_of m) m g h
      → (F : FormulaTree)
      → IsFormedFormula file g F
      → IsFormedFormula file h (rename_formula m F)

pub record FillingKeepsFormed : Type 0 where
  pub terms : (file : FileShapes)
      → IsClosedFile file
      → (f : Filling) (m : Map) (g h : Shapes)
      → FillsFormed f m g h
      → (M : TermTree) (s : Shape)
      → IsFormedTerm file g M s
      → IsFormedTerm file h (fill_term f m M) (fill_shape f s)
  pub types : (file : FileShapes)
      → IsClosedFile file
      → (f : Filling) (m : Map) (g h : Shapes)
      → FillsFormed f m g h
      → (A : TyTree)
      → IsFormedTy file g A
      → IsFormedTy file h (fill_ty f m A)
  pub formulas : (file : FileShapes)
      → IsClosedFile file
      → (f : Filling) (m : Map) (g h : Shapes)
      → FillsFormed f m g h
      → (F : FormulaTree)
      → IsFormedFormula file g F
      → IsFormedFormula file h (fill_formula f m F)
