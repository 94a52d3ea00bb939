-- Shapes that end in a computation, and heads that have them.
use Rattle.std.proofs.Common.{◌≡◌, ℕ, suc, Some, None, subst}
use Rattle.std.specs.Prelude.{slice_get}
use Rattle.htt_syntax.specs.Trees.{TyTree, FixTree, triple, y_mono, y_fun, y_all, y_hoare, y_at}
use Rattle.theory_substitution.specs.Monotypes.{Filling, next_filling}
use Rattle.theory_typing.specs.Contexts.{Environment, EndsInHoare}
use Rattle.theory_formed_shapes.specs.Shapes.{Shape, sh_mono, sh_fun, sh_all, sh_comp, fill_shape, renaming_of, dropping, shape_of, Shapes}
use Rattle.theory_formed_shapes.specs.Formed.{MadeShape, FileShapes, file_shapes, IsFormedFix, z_param, z_body}
use Rattle.theory_formed_typing.proofs.Closed.{mapped}

-- It is a computation after its arguments and monotypes.
abbrev pub EndsInComp : Shape → Type 0
EndsInComp (sh_mono mono) = ⊥
EndsInComp (sh_fun argument answer) = EndsInComp answer
EndsInComp (sh_all body) = EndsInComp body
EndsInComp (sh_comp mono) = Unit {0}

pub ends_filled : (f : Filling) (A : Shape) → EndsInComp A → EndsInComp (fill_shape f A)
unfolding fill_shape
ends_filled f (sh_mono mono) e = e
ends_filled f (sh_fun argument answer) e = ends_filled f answer e
ends_filled f (sh_all body) e = ends_filled (next_filling f) body e
ends_filled f (sh_comp mono) e = e

ends_unfilled : (f : Filling) (A : Shape) → EndsInComp (fill_shape f A) → EndsInComp A
unfolding fill_shape
ends_unfilled f (sh_mono mono) e = e
ends_unfilled f (sh_fun argument answer) e = ends_unfilled f answer e
ends_unfilled f (sh_all body) e = ends_unfilled (next_filling f) body e
ends_unfilled f (sh_comp mono) e = e

ends_in_comp : (A : TyTree) → EndsInHoare A → EndsInComp (shape_of A)
unfolding shape_of
ends_in_comp (y_hoare (triple pre mono post)) e = tt
ends_in_comp (y_fun argument answer) e = ends_filled dropping (shape_of answer) (ends_in_comp answer e)
ends_in_comp (y_all body) e = ends_in_comp body e
ends_in_comp (y_mono mono) e = absurd e
ends_in_comp (y_at at ty) e = absurd e

-- a recursive function does
pub fix_ends : {file : FileShapes} {g : Shapes} {whole s : Shape} {fix : FixTree} → IsFormedFix file g whole fix s → EndsInComp s
fix_ends (z_param {t = t} d e) = ends_unfilled (renaming_of suc) t (fix_ends e)
fix_ends (z_body d e) = tt

-- The shapes of the file's values and made functions do.
pub record FileEnds (file : FileShapes) : Type 0 where
  pub vals : (number : ℕ) (s : Shape) → slice_get file.vals number ≡ Some s → EndsInComp s
  pub made : (number : ℕ) (m : MadeShape) → slice_get file.made number ≡ Some m → EndsInComp m.whole

no_element : {A : Type 0} {x : A} → None ≡ Some x → ⊥
no_element q = cc

pub environment_ends : (env : Environment)
    → ((number : ℕ) (ty : TyTree) → slice_get env.vals number ≡ Some ty → EndsInHoare ty)
    → FileEnds (file_shapes env)
environment_ends env ends = record {
  vals = λ n s q. let o = mapped shape_of env.vals n s q in subst EndsInComp o.is (ends_in_comp o.of (ends n o.of o.found));
  made = λ n m q. absurd (no_element q);
}
