-- What is owed stands in canonical contexts, and is true where it is proved.
use Rattle.std.specs.Prelude.{◌≡◌, ℕ, List, [], ◌∷◌, Some, slice_get}
use Rattle.htt_syntax.specs.Trees.{TyTree, TermTree, ProofTree}
use Rattle.theory_canonical.specs.Contexts.{Heads}
use Rattle.theory_canonical.specs.Canonical.{IsCanonicalTy}
use Rattle.theory_typing.specs.Contexts.{Context, Environment, Obligation}
use Rattle.theory_typing.specs.Typing.{Mode, Gives, Fits}
use Rattle.theory_typing_canonical.specs.Environments.{standings, heads_of, IsCanonicalEnvironment, IsCanonicalContext}
use Rattle.theory_logic_rules.specs.Rules.{Proves}
use Rattle.theory_items.specs.Items.{ItemTree, Added, with_added, Derives}
use Rattle.theory_denotation.specs.Valuations.{HeadEntries}
use Rattle.theory_denotation.specs.Valued.{HeadsValued}
use Rattle.theory_typing_sound.specs.Environments.{IsTrueGoal}
use Rattle.theory_items_sound.specs.Environments.{SoundEnvironment}
use Rattle.theory_file_derived.specs.Derived.{DerivesAll}

-- each obligation's context is canonical
abbrev pub StandCanonical : Heads → List Obligation → Type 0
StandCanonical heads [] = Unit {0}
StandCanonical heads (o ∷ others) = IsCanonicalContext heads o.context × StandCanonical heads others

pub record OwedStandsCanonical : Type 0 where
  pub given : (env : Environment) (m : Mode) (g : Context) (M N : TermTree) (A : TyTree) (o : List Obligation)
      → IsCanonicalEnvironment env
      → IsCanonicalContext (heads_of env) g
      → Gives env m g M A N o
      → StandCanonical (heads_of env) o
  pub fitting : (env : Environment) (m : Mode) (g : Context) (M N : TermTree) (A : TyTree) (o : List Obligation)
      → IsCanonicalEnvironment env
      → IsCanonicalContext (heads_of env) g
      → IsCanonicalTy (heads_of env) (standings g) A
      → Fits env m g M A N o
      → StandCanonical (heads_of env) o
  pub items : (env : Environment) (g : Context) (item : ItemTree) (added : Added) (o : List Obligation)
      → IsCanonicalEnvironment env
      → IsCanonicalContext (heads_of env) g
      → Derives env g item added o
      → StandCanonical (heads_of env) o

-- An item derives in a sound environment and leaves one from which further items lead to the final
-- environment. What it owes and is proved there is true with the final environment's predicates.
abbrev pub ProvedIsTrueGoal : Type 0
ProvedIsTrueGoal =
    (env final : Environment) (item : ItemTree) (added : Added) (owed : List Obligation) (items : List ItemTree)
    (rows : List (List Obligation))
    → SoundEnvironment env
    → Derives env [] item added owed
    → DerivesAll (with_added env added) items final rows
    → (e : HeadEntries)
    → HeadsValued (heads_of final) e
    → (k : ℕ) (o : Obligation) (p : ProofTree)
    → slice_get owed k ≡ Some o
    → Proves final o.context [] p o.goal
    → IsTrueGoal final.recs e o
