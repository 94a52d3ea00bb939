-- Shapes: what is left of types when formulas are forgotten. An argument is no part of the answer's shape,
-- so that a shape stands in one context, and its variables are those of monotypes alone. Of a computation
-- the monotype of its result is left.
use Rattle.std.specs.Prelude.{ℕ, zero, suc, List, ◌∷◌, map}
use Rattle.htt_syntax.specs.Trees.{MonoTree, TyTree, m_unit, m_var, y_mono, y_fun, y_all, y_hoare, y_at, triple}
use Rattle.theory_renaming.specs.Renaming.{Map}
use Rattle.theory_typing.specs.Contexts.{EntryTree, en_mono, en_heap, en_term, Context}
use Rattle.theory_substitution.specs.Monotypes.{Filling, next_filling, fill_mono}

pub data Shape : Type 0 where
  sh_mono : MonoTree → Shape
  sh_fun : Shape → Shape → Shape
  -- under a monotype
  sh_all : Shape → Shape
  sh_comp : MonoTree → Shape

unfoldable pub fill_shape : Filling → Shape → Shape
fill_shape f (sh_mono mono) = sh_mono (fill_mono f mono)
fill_shape f (sh_fun argument answer) = sh_fun (fill_shape f argument) (fill_shape f answer)
fill_shape f (sh_all body) = sh_all (fill_shape (next_filling f) body)
fill_shape f (sh_comp mono) = sh_comp (fill_mono f mono)

-- Variables for variables.
abbrev pub renaming_of : Map → Filling
renaming_of m n = m_var (m n)

-- A shape under one more variable.
abbrev pub up_shape : Shape → Shape
up_shape shape = fill_shape (renaming_of suc) shape

-- The innermost variable is left out, which no monotype has.
unfoldable pub dropping : Filling
dropping zero = m_unit
dropping (suc n) = m_var n

-- A monotype for the innermost variable.
unfoldable pub first_filled : MonoTree → Filling
first_filled mono zero = mono
first_filled mono (suc n) = m_var n

unfoldable pub shape_of : TyTree → Shape
shape_of (y_mono mono) = sh_mono mono
shape_of (y_fun argument answer) = sh_fun (shape_of argument) (fill_shape dropping (shape_of answer))
shape_of (y_all body) = sh_all (shape_of body)
shape_of (y_hoare (triple pre mono post)) = sh_comp mono
shape_of (y_at at ty) = shape_of ty

-- An entry: a monotype variable, a heap variable, or a term variable with its shape.
pub data ShapeEntry : Type 0 where
  in_mono in_heap : ShapeEntry
  in_term : Shape → ShapeEntry

abbrev pub Shapes : Type 0
Shapes = List ShapeEntry

-- The variable n is a monotype, or a heap, or has this shape, seen from the whole context.
pub data IsMonoAt : Shapes → ℕ → Type 0 where
  mono_at_zero : {g : Shapes} → IsMonoAt (in_mono ∷ g) zero
  mono_further : {g : Shapes} {entry : ShapeEntry} {n : ℕ} → IsMonoAt g n → IsMonoAt (entry ∷ g) (suc n)

pub data IsHeapAt : Shapes → ℕ → Type 0 where
  heap_at_zero : {g : Shapes} → IsHeapAt (in_heap ∷ g) zero
  heap_further : {g : Shapes} {entry : ShapeEntry} {n : ℕ} → IsHeapAt g n → IsHeapAt (entry ∷ g) (suc n)

pub data HasShape : Shapes → ℕ → Shape → Type 0 where
  shape_here : {g : Shapes} {shape : Shape} → HasShape (in_term shape ∷ g) zero (up_shape shape)
  shape_there : {g : Shapes} {entry : ShapeEntry} {n : ℕ} {shape : Shape}
      → HasShape g n shape
      → HasShape (entry ∷ g) (suc n) (up_shape shape)

-- The shapes of a context's entries.
abbrev pub entry_shape : EntryTree → ShapeEntry
entry_shape en_mono = in_mono
entry_shape en_heap = in_heap
entry_shape (en_term ty) = in_term (shape_of ty)

abbrev pub shapes_of : Context → Shapes
shapes_of g = map entry_shape g
