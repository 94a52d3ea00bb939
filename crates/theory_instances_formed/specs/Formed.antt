-- Formed programs and keys. Where instances are, all variables have values, so that each entry of their contexts
-- is a term of a closed monotype.
use Rattle.std.specs.Prelude.{◌≡◌, ℕ, zero, List, [], ◌∷◌, map, reverse, All, Some, slice_get}
use Rattle.htt_syntax.specs.Trees.{MonoTree, TermTree, FixTree, m_unit, m_var, t_val, t_fix}
use Rattle.theory_values.specs.Values.{IsClosed}
use Rattle.theory_typing.specs.Contexts.{EndsInHoare}
use Rattle.theory_formed_shapes.specs.Shapes.{Shape, sh_mono, sh_fun, sh_all, sh_comp, shape_of, fill_shape}
use Rattle.theory_formed_shapes.specs.Shapes.{first_filled, in_term, Shapes}
use Rattle.theory_formed_shapes.specs.Formed.{MadeShape, FileShapes, IsFormedMono, IsFormedTerm, IsFormedFix, IsFormedTy}
use Rattle.theory_instances.specs.Calls.{ProgramVal, Program, Argument, of_term, of_mono, fix_ty}
use Rattle.theory_instances.specs.Keys.{Key}

-- Variables of these monotypes.
abbrev pub values_shapes : List MonoTree → Shapes
values_shapes [] = []
values_shapes (t ∷ ts) = in_term (sh_mono t) ∷ values_shapes ts

-- The made function of a recursive function's key: what it captures, the first met first, and its shape. The key
-- of a value becomes no made function: what stands in its place wants a value of each monotype, so that it can't be
-- called where all variables have values.
abbrev pub not_made : MadeShape
not_made = record { captured = []; whole = sh_fun (sh_all (sh_mono (m_var zero))) (sh_comp m_unit) }

abbrev pub made_of_head : List MonoTree → TermTree → MadeShape
made_of_head captured (t_fix at fix) = record { captured = reverse captured; whole = shape_of (fix_ty fix) }
made_of_head captured head = not_made

abbrev pub made_shape : Key → MadeShape
made_shape key = made_of_head key.captured key.head

-- The shapes of a program's values, of made functions for these keys, and of recursive predicates.
abbrev pub file_with : List (List MonoTree) → Program → List Key → FileShapes
file_with recs p keys =
    record { vals = map (λ (v : ProgramVal). shape_of v.ty) p.vals; made = map made_shape keys; recs = recs }

-- Each value is formed with all values as heads, and ends in a computation.
pub record IsFormedProgram (recs : List (List MonoTree)) (p : Program) : Type 0 where
  pub types : (n : ℕ) (v : ProgramVal) → slice_get p.vals n ≡ Some v → IsFormedTy (file_with recs p []) [] v.ty
  pub ends : (n : ℕ) (v : ProgramVal) → slice_get p.vals n ≡ Some v → EndsInHoare v.ty
  pub terms : (n : ℕ) (v : ProgramVal)
      → slice_get p.vals n ≡ Some v
      → IsFormedTerm (file_with recs p []) [] v.term (shape_of v.ty)
  pub params : (n : ℕ) (ts : List MonoTree) → slice_get recs n ≡ Some ts → All (IsFormedMono []) ts

-- Arguments of this shape are fixed.
abbrev pub IsFixedShape : Shape → Type 0
IsFixedShape (sh_mono t) = ⊥
IsFixedShape s = Unit {0}

-- Formed fixed arguments of a function of this shape, with the monotypes of what is passed and of the result.
pub data FormedFixed (file : FileShapes) (g : Shapes) : Shape → List Argument → List MonoTree → MonoTree → Type 0 where
  fixed_end : {t : MonoTree} → FormedFixed file g (sh_comp t) [] [] t
  fixed_value : {t r : MonoTree} {s : Shape} {fixed : List Argument} {ts : List MonoTree}
      → FormedFixed file g s fixed ts r
      → FormedFixed file g (sh_fun (sh_mono t) s) fixed (t ∷ ts) r
  fixed_term : {a s : Shape} {term : TermTree} {fixed : List Argument} {ts : List MonoTree} {r : MonoTree}
      → IsFixedShape a
      → IsFormedTerm file g term a
      → FormedFixed file g s fixed ts r
      → FormedFixed file g (sh_fun a s) (of_term term ∷ fixed) ts r
  fixed_mono : {t r : MonoTree} {s : Shape} {fixed : List Argument} {ts : List MonoTree}
      → IsFormedMono g t
      → FormedFixed file g (fill_shape (first_filled t) s) fixed ts r
      → FormedFixed file g (sh_all s) (of_mono t ∷ fixed) ts r

-- A key's head and fixed arguments are formed under the captured variables, whose monotypes are closed.
pub data IsFormedKey (file : FileShapes) (p : Program) (key : Key) : Type 0 where
  formed_val : {n : ℕ} {v : ProgramVal} {ts : List MonoTree} {r : MonoTree}
      → key.head ≡ t_val n
      → slice_get p.vals n ≡ Some v
      → All IsClosed key.captured
      → FormedFixed file (values_shapes key.captured) (shape_of v.ty) key.fixed ts r
      → IsFormedKey file p key
  formed_fix : {at : ℕ} {fix : FixTree} {s : Shape} {ts : List MonoTree} {r : MonoTree}
      → key.head ≡ t_fix at fix
      → IsFormedFix file (values_shapes key.captured) s fix s
      → All IsClosed key.captured
      → FormedFixed file (values_shapes key.captured) s key.fixed ts r
      → IsFormedKey file p key
