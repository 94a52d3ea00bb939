-- The laws of environments and items.
use Rattle.std.specs.Prelude.{◌≡◌, ℕ, List, [], Some, slice_get}
use Rattle.htt_syntax.specs.Trees.{TyTree, TermTree, FormulaTree}
use Rattle.theory_truth.specs.Predicates.{RecTree}
use Rattle.theory_canonical.specs.Skeletons.{skeleton}
use Rattle.theory_canonical.specs.Canonical.{IsCanonical, IsCanonicalTy}
use Rattle.theory_typing.specs.Contexts.{Context, Environment, Obligation}
use Rattle.theory_typing.specs.Typing.{Mode, FormsTy, FormsFormula, Gives, Fits}
use Rattle.theory_typing.specs.Laws.{none}
use Rattle.theory_typing_canonical.specs.Environments.{standings, heads_of, IsCanonicalEnvironment, IsCanonicalContext}
use Rattle.theory_typing_canonical.specs.Laws.{AreCanonical}
use Rattle.theory_items.specs.Items.{ItemTree, Added, adds_val, with_added, Derives}
use Rattle.theory_items.specs.Definitions.{AreDefined}

-- an item adds at most one thing, with at most one list of obligations
abbrev pub ItemsGiveOne : Type 0
ItemsGiveOne =
    (env : Environment) (g : Context) (item : ItemTree) (added other : Added) (o p : List Obligation)
    → Derives env g item added o
    → Derives env g item other p
    → (added ≡ other) × (o ≡ p)

-- an item without entries keeps the environment canonical; its goals are canonical, and so are the type
-- and the term of a value, of which the environment keeps the type alone
pub record ItemsKeepCanonical : Type 0 where
  pub environment : (env : Environment) (item : ItemTree) (added : Added) (o : List Obligation)
      → IsCanonicalEnvironment env
      → Derives env [] item added o
      → IsCanonicalEnvironment (with_added env added)
  pub owed : (env : Environment) (g : Context) (item : ItemTree) (added : Added) (o : List Obligation)
      → IsCanonicalEnvironment env
      → IsCanonicalContext (heads_of env) g
      → Derives env g item added o
      → AreCanonical (heads_of env) o
  pub value : (env : Environment) (g : Context) (item : ItemTree) (ty : TyTree) (term : TermTree) (o : List Obligation)
      → IsCanonicalEnvironment env
      → IsCanonicalContext (heads_of env) g
      → Derives env g item (adds_val ty term) o
      → IsCanonicalTy (heads_of env) (standings g) ty × IsCanonical (heads_of env) (standings g) term (skeleton ty)

-- The second environment has the declarations of the first by their numbers, and perhaps more.
pub record HasDeclarations (env more : Environment) : Type 0 where
  pub vals : (number : ℕ) (ty : TyTree) → slice_get env.vals number ≡ Some ty → slice_get more.vals number ≡ Some ty
  pub defs : (number : ℕ) (definition : TyTree × TermTree)
      → slice_get env.defs number ≡ Some definition
      → slice_get more.defs number ≡ Some definition
  pub recs : (number : ℕ) (r : RecTree) → slice_get env.recs number ≡ Some r → slice_get more.recs number ≡ Some r

-- what is formed or typed in the first is so in the second, and owes the same
pub record MoreKeepsTyping : Type 0 where
  pub types : (env more : Environment)
      → HasDeclarations env more
      → (g : Context) (A R : TyTree)
      → FormsTy env g A R
      → FormsTy more g A R
  pub formulas : (env more : Environment)
      → HasDeclarations env more
      → (g : Context) (F R : FormulaTree)
      → FormsFormula env g F R
      → FormsFormula more g F R
  pub given : (env more : Environment)
      → HasDeclarations env more
      → (m : Mode) (g : Context) (M N : TermTree) (A : TyTree) (o : List Obligation)
      → Gives env m g M A N o
      → Gives more m g M A N o
  pub fitting : (env more : Environment)
      → HasDeclarations env more
      → (m : Mode) (g : Context) (M N : TermTree) (A : TyTree) (o : List Obligation)
      → Fits env m g M A N o
      → Fits more m g M A N o

-- each definition's term is the form of a term that fits, with the definitions before it alone
pub record ItemsKeepDefined : Type 0 where
  pub empty : AreDefined none
  pub kept : (env : Environment) (item : ItemTree) (added : Added) (owed : List Obligation)
      → AreDefined env
      → Derives env [] item added owed
      → AreDefined (with_added env added)
