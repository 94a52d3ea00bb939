-- Formed contexts, and what the typing rules need of an environment so that what they give is formed.
use Rattle.std.specs.Prelude.{◌≡◌, ℕ, [], ◌∷◌, Some, All, slice_get}
use Rattle.htt_syntax.specs.Trees.{TyTree, TermTree}
use Rattle.theory_truth.specs.Predicates.{RecTree}
use Rattle.theory_typing.specs.Contexts.{en_mono, en_heap, en_term, Context, Environment}
use Rattle.theory_formed_shapes.specs.Shapes.{shape_of, shapes_of}
use Rattle.theory_formed_shapes.specs.Formed.{FileShapes, file_shapes, IsFormedMono, IsFormedTerm, IsFormedTy}

-- the type of each term entry is formed under the entries further out
pub data IsFormedContext (file : FileShapes) : Context → Type 0 where
  formed_none : IsFormedContext file []
  formed_mono : {g : Context} → IsFormedContext file g → IsFormedContext file (en_mono ∷ g)
  formed_heap : {g : Context} → IsFormedContext file g → IsFormedContext file (en_heap ∷ g)
  formed_term : {g : Context} {ty : TyTree}
      → IsFormedContext file g
      → IsFormedTy file (shapes_of g) ty
      → IsFormedContext file (en_term ty ∷ g)

-- the terms of definitions have the shapes of their types
abbrev pub DefinitionsFormed : Environment → Type 0
DefinitionsFormed env =
    (number : ℕ) (definition : TyTree × TermTree)
    → slice_get env.defs number ≡ Some definition
    → IsFormedTerm (file_shapes env) [] (definition.1) (shape_of (definition.0))

-- The types of values and definitions are formed without entries, terms of definitions have the shapes of
-- their types, and the parameters of recursive predicates are closed.
pub record FormsEnvironment (env : Environment) : Type 0 where
  pub vals : (number : ℕ) (ty : TyTree) → slice_get env.vals number ≡ Some ty → IsFormedTy (file_shapes env) [] ty
  pub def_types : (number : ℕ) (definition : TyTree × TermTree)
      → slice_get env.defs number ≡ Some definition
      → IsFormedTy (file_shapes env) [] (definition.0)
  pub def_terms : DefinitionsFormed env
  pub rec_params : (number : ℕ) (r : RecTree) → slice_get env.recs number ≡ Some r → All (IsFormedMono []) r.params
