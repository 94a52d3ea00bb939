-- Formed environments, and formed contexts in them.
use Rattle.std.specs.Prelude.{◌≡◌, ℕ, ◌≤◌, Some, All, length, slice_get, []}
use Rattle.htt_syntax.specs.Trees.{TyTree}
use Rattle.theory_truth.specs.Predicates.{RecTree}
use Rattle.theory_truth.specs.Atoms.{IsFoundedTable}
use Rattle.theory_typing.specs.Contexts.{Context, Environment, EndsInHoare}
use Rattle.theory_items.specs.Items.{zero_context, next_context}
use Rattle.theory_formed_shapes.specs.Shapes.{shapes_of}
use Rattle.theory_formed_shapes.specs.Formed.{FileShapes, file_shapes, IsFormedMono, IsFormedFormula}
use Rattle.theory_formed_shapes.specs.Environments.{IsFormedContext, FormsEnvironment}

-- the most entries of a context
abbrev pub entry_limit : ℕ
entry_limit = 4096

pub record IsFormedRec (file : FileShapes) (r : RecTree) : Type 0 where
  pub params : All (IsFormedMono []) r.params
  pub at_zero : IsFormedFormula file (shapes_of (zero_context r.params)) r.at_zero
  pub at_next : IsFormedFormula file (shapes_of (next_context r.params)) r.at_next

pub record IsFormedEnvironment (env : Environment) : Type 0 where
  -- the types of values, and the types and terms of definitions
  pub forms : FormsEnvironment env
  pub vals_end : (number : ℕ) (ty : TyTree) → slice_get env.vals number ≡ Some ty → EndsInHoare ty
  pub recs_formed : (number : ℕ) (r : RecTree) → slice_get env.recs number ≡ Some r → IsFormedRec (file_shapes env) r
  -- each recursive atom is one of an earlier predicate, or above 0 the predicate's own at the index
  -- less one
  pub recs_founded : IsFoundedTable env.recs

-- a formed environment with a formed context that isn't too long
pub record IsFormedIn (env : Environment) (g : Context) : Type 0 where
  pub environment : IsFormedEnvironment env
  pub entries : IsFormedContext (file_shapes env) g
  pub few : length g ≤ entry_limit
