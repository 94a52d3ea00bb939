-- The typing rules give formed trees.
use Rattle.std.specs.Prelude.{List}
use Rattle.htt_syntax.specs.Trees.{MonoTree, TyTree, TermTree, CompTree, FormulaTree, triple}
use Rattle.theory_canonical.specs.Canonical.{IsCanonicalMono, IsCanonicalTy}
use Rattle.theory_typing.specs.Contexts.{Context, Environment, Obligation}
use Rattle.theory_typing.specs.Typing.{Mode, FormsTy, FormsFormula, Gives, Fits, FitsBody}
use Rattle.theory_typing_canonical.specs.Environments.{standings, heads_of, IsCanonicalEnvironment, IsCanonicalContext}
use Rattle.theory_formed_shapes.specs.Shapes.{shape_of, shapes_of}
use Rattle.theory_formed_shapes.specs.Formed.{file_shapes, IsFormedTerm, IsFormedComp, IsFormedTy, IsFormedFormula}
use Rattle.theory_formed_shapes.specs.Environments.{IsFormedContext, DefinitionsFormed, FormsEnvironment}

-- What the rules make of a text is formed where the environment and the context are canonical and the terms
-- of definitions have the shapes of their types. A type that is given is made of the context's types too, so
-- it is formed where these and the environment's are.
pub record TypingGivesFormed : Type 0 where
  pub types : (env : Environment) (g : Context)
      → IsCanonicalEnvironment env
      → DefinitionsFormed env
      → IsCanonicalContext (heads_of env) g
      → (A R : TyTree)
      → FormsTy env g A R
      → IsFormedTy (file_shapes env) (shapes_of g) R
  pub formulas : (env : Environment) (g : Context)
      → IsCanonicalEnvironment env
      → DefinitionsFormed env
      → IsCanonicalContext (heads_of env) g
      → (F R : FormulaTree)
      → FormsFormula env g F R
      → IsFormedFormula (file_shapes env) (shapes_of g) R
  pub given : (env : Environment) (g : Context)
      → IsCanonicalEnvironment env
      → DefinitionsFormed env
      → IsCanonicalContext (heads_of env) g
      → (m : Mode) (M N : TermTree) (A : TyTree) (o : List Obligation)
      → Gives env m g M A N o
      → IsFormedTerm (file_shapes env) (shapes_of g) N (shape_of A)
  pub given_types : (env : Environment) (g : Context)
      → FormsEnvironment env
      → IsFormedContext (file_shapes env) g
      → (m : Mode) (M N : TermTree) (A : TyTree) (o : List Obligation)
      → Gives env m g M A N o
      → IsFormedTy (file_shapes env) (shapes_of g) A
  pub fitting : (env : Environment) (g : Context)
      → IsCanonicalEnvironment env
      → DefinitionsFormed env
      → IsCanonicalContext (heads_of env) g
      → (m : Mode) (M N : TermTree) (A : TyTree) (o : List Obligation)
      → IsCanonicalTy (heads_of env) (standings g) A
      → Fits env m g M A N o
      → IsFormedTerm (file_shapes env) (shapes_of g) N (shape_of A)
  pub bodies : (env : Environment) (g : Context)
      → IsCanonicalEnvironment env
      → DefinitionsFormed env
      → IsCanonicalContext (heads_of env) g
      → (E R : CompTree) (pre post : FormulaTree) (t : MonoTree) (o : List Obligation)
      → IsCanonicalMono (standings g) t
      → FitsBody env g E (triple pre t post) R o
      → IsFormedComp (file_shapes env) (shapes_of g) R t
