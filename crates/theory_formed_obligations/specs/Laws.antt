-- What the typing rules owe is formed: the context of each obligation, and its goal there.
use Rattle.std.specs.Prelude.{List, [], ◌∷◌}
use Rattle.htt_syntax.specs.Trees.{TyTree, TermTree}
use Rattle.theory_typing.specs.Contexts.{Context, Environment, Obligation}
use Rattle.theory_typing.specs.Typing.{Mode, Gives, Fits}
use Rattle.theory_items.specs.Items.{ItemTree, Added, Derives}
use Rattle.theory_formed_shapes.specs.Shapes.{shapes_of}
use Rattle.theory_formed_shapes.specs.Formed.{FileShapes, file_shapes, IsFormedTy, IsFormedFormula}
use Rattle.theory_formed_shapes.specs.Environments.{IsFormedContext, FormsEnvironment}

abbrev pub AreFormed : FileShapes → List Obligation → Type 0
AreFormed file [] = Unit {0}
AreFormed file (o ∷ others) =
    (IsFormedContext file o.context × IsFormedFormula file (shapes_of o.context) o.goal) × AreFormed file others

pub record OwedStandsFormed : Type 0 where
  pub given : (env : Environment) (g : Context)
      → FormsEnvironment env
      → IsFormedContext (file_shapes env) g
      → (m : Mode) (M N : TermTree) (A : TyTree) (o : List Obligation)
      → Gives env m g M A N o
      → AreFormed (file_shapes env) o
  pub fitting : (env : Environment) (g : Context)
      → FormsEnvironment env
      → IsFormedContext (file_shapes env) g
      → (m : Mode) (M N : TermTree) (A : TyTree) (o : List Obligation)
      → IsFormedTy (file_shapes env) (shapes_of g) A
      → Fits env m g M A N o
      → AreFormed (file_shapes env) o
  pub items : (env : Environment) (g : Context)
      → FormsEnvironment env
      → IsFormedContext (file_shapes env) g
      → (item : ItemTree) (added : Added) (o : List Obligation)
      → Derives env g item added o
      → AreFormed (file_shapes env) o
