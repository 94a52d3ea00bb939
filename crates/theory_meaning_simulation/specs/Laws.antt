-- What a text does, its canonical form denotes: the values and computations of the text and the
-- denotations of what typing gives for them come to the same, and the denotation needs no more fuel.
use Rattle.std.specs.Prelude.{◌<◌, ◌≤◌, ℕ, List}
use Rattle.htt_syntax.specs.Trees.{TyTree, TripleTree, TermTree, CompTree}
use Rattle.theory_values.specs.Heaps.{Heap}
use Rattle.theory_meaning.specs.Closures.{Env, Items}
use Rattle.theory_meaning.specs.Meaning.{pure, run}
use Rattle.theory_canonical.specs.Skeletons.{skeleton}
use Rattle.theory_canonical.specs.Canonical.{IsCanonicalTy, IsCanonicalTriple}
use Rattle.theory_typing.specs.Contexts.{Context, Environment, Obligation}
use Rattle.theory_typing.specs.Typing.{Mode, Gives, Fits, FitsBody}
use Rattle.theory_typing_canonical.specs.Environments.{standings, heads_of, IsCanonicalEnvironment, IsCanonicalContext}
use Rattle.theory_denotation.specs.Valuations.{Valuation, HeadEntries}
use Rattle.theory_denotation.specs.Denotation.{term_den, comp_den}
use Rattle.theory_denotation.specs.Satisfaction.{answer_mono}
use Rattle.theory_meaning_simulation.specs.Simulation.{GivesSo, AlikeOutcomes, Does, Matches, ItemsDo}

-- What stands around a phrase of the text.
pub record Within (items :
    Items) (env : Environment) (e : HeadEntries) (k : ℕ) (g : Context) (v : Env) (w : Valuation) : Type 0 where
  pub known : IsCanonicalEnvironment env
  pub canonical : IsCanonicalContext (heads_of env) g
  pub items_do : ItemsDo items env e
  pub matches : Matches items k g v w

pub record TextIsDenoted : Type 0 where
  pub given : (items : Items) (env : Environment) (e : HeadEntries) (k : ℕ) (g : Context) (v : Env) (w : Valuation)
      → Within items env e k g v w
      → (m : Mode) (M N : TermTree) (A : TyTree) (o : List Obligation)
      → Gives env m g M A N o
      → (i : ℕ)
      → GivesSo (pure items i v M) (λ u. Does items w A (skeleton A) k u (term_den e w N (skeleton A)))
  pub fitting : (items : Items) (env : Environment) (e : HeadEntries) (k : ℕ) (g : Context) (v : Env) (w : Valuation)
      → Within items env e k g v w
      → (m : Mode) (M N : TermTree) (A : TyTree) (o : List Obligation)
      → IsCanonicalTy (heads_of env) (standings g) A
      → Fits env m g M A N o
      → (i : ℕ)
      → GivesSo (pure items i v M) (λ u. Does items w A (skeleton A) k u (term_den e w N (skeleton A)))
  pub bodies : (items : Items) (env : Environment) (e : HeadEntries) (k : ℕ) (g : Context) (v : Env) (w : Valuation)
      → Within items env e k g v w
      → (E r : CompTree) (spec : TripleTree) (o : List Obligation)
      → IsCanonicalTriple (heads_of env) (standings g) spec
      → FitsBody env g E spec r o
      → (j n : ℕ)
      → j < k
      → j ≤ n
      → (h : Heap) (cs : List ℕ)
      → AlikeOutcomes (answer_mono w spec) (run items j v E h cs) (comp_den e w r n h cs)
