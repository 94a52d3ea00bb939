-- What the soundness of typing and of proofs needs of an environment. It asks less than that the
-- environment is formed: of values and definitions their types' and terms' canonical forms and the
-- shapes of definitions, of recursive predicates canonical bodies and that they are well founded.
use Rattle.std.specs.Prelude.{◌≡◌, ℕ, Some, slice_get}
use Rattle.htt_syntax.specs.Trees.{TyTree}
use Rattle.theory_truth.specs.Predicates.{RecTree}
use Rattle.theory_truth.specs.Atoms.{IsFoundedTable}
use Rattle.theory_canonical.specs.Contexts.{Heads}
use Rattle.theory_canonical.specs.Canonical.{IsCanonicalFormula}
use Rattle.theory_typing.specs.Contexts.{Environment, EndsInHoare}
use Rattle.theory_typing_canonical.specs.Environments.{standings, heads_of, IsCanonicalEnvironment}
use Rattle.theory_formed_shapes.specs.Environments.{DefinitionsFormed}
use Rattle.theory_items.specs.Items.{zero_context, next_context}

-- The two bodies of a predicate are canonical under its parameters and the heap, and the second under
-- the index less one too.
pub record IsSoundRec (heads : Heads) (r : RecTree) : Type 0 where
  pub at_zero : IsCanonicalFormula heads (standings (zero_context r.params)) r.at_zero
  pub at_next : IsCanonicalFormula heads (standings (next_context r.params)) r.at_next

pub record SoundEnvironment (env : Environment) : Type 0 where
  pub canonical : IsCanonicalEnvironment env
  -- the type of a value ends in a computation
  pub vals_end : (number : ℕ) (ty : TyTree) → slice_get env.vals number ≡ Some ty → EndsInHoare ty
  -- a definition's term is formed and has the shape of its type
  pub defs_formed : DefinitionsFormed env
  pub recs_sound : (number : ℕ) (r : RecTree) → slice_get env.recs number ≡ Some r → IsSoundRec (heads_of env) r
  -- each recursive atom is one of an earlier predicate, or above 0 the predicate's own at the index
  -- less one
  pub recs_founded : IsFoundedTable env.recs
