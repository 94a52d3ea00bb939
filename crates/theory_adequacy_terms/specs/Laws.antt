-- The denotation is adequate: what the canonical form of a text denotes, the text comes to. With what
-- holds the other way round, both come to the same.
use Rattle.std.specs.Prelude.{◌≡◌, ◌≢◌, ◌↔◌, ℕ, List, []}
use Rattle.htt_syntax.specs.Trees.{TyTree, TripleTree, TermTree, CompTree}
use Rattle.theory_values.specs.Heaps.{Heap}
use Rattle.theory_meaning.specs.Closures.{Env, nothing, Items}
use Rattle.theory_meaning.specs.Meaning.{pure, run}
use Rattle.theory_canonical.specs.Skeletons.{skeleton}
use Rattle.theory_canonical.specs.Canonical.{IsCanonicalTy, IsCanonicalTriple}
use Rattle.theory_typing.specs.Contexts.{Context, Environment, Obligation}
use Rattle.theory_typing.specs.Typing.{Mode, Gives, Fits, FitsBody}
use Rattle.theory_typing_canonical.specs.Environments.{standings, heads_of, IsCanonicalEnvironment, IsCanonicalContext}
use Rattle.theory_denotation.specs.Outcomes.{Outcome, out_of_fuel}
use Rattle.theory_denotation.specs.Valuations.{Valuation, HeadEntries}
use Rattle.theory_denotation.specs.Denotation.{term_den, comp_den}
use Rattle.theory_denotation.specs.Satisfaction.{answer_mono}
use Rattle.theory_denotation.specs.Laws.{run_result}
use Rattle.theory_meaning_simulation.specs.Simulation.{ItemsDo}
use Rattle.theory_adequacy.specs.Adequacy.{EventuallyGives, Reaches, Realises, Realised, ItemsRealise}

-- What stands around a phrase of the text.
pub record Around (items : Items) (env : Environment) (e : HeadEntries) (g : Context) (v : Env) (w : Valuation) :
    Type 0 where
  pub known : IsCanonicalEnvironment env
  pub canonical : IsCanonicalContext (heads_of env) g
  pub items_realise : ItemsRealise items env e
  pub realised : Realised items g v w

pub record DenotationIsAdequate : Type 0 where
  pub given : (items : Items) (env : Environment) (e : HeadEntries) (g : Context) (v : Env) (w : Valuation)
      → Around items env e g v w
      → (m : Mode) (M N : TermTree) (A : TyTree) (o : List Obligation)
      → Gives env m g M A N o
      → EventuallyGives (λ i. pure items i v M) (λ u. Realises items w A (skeleton A) u (term_den e w N (skeleton A)))
  pub fitting : (items : Items) (env : Environment) (e : HeadEntries) (g : Context) (v : Env) (w : Valuation)
      → Around items env e g v w
      → (m : Mode) (M N : TermTree) (A : TyTree) (o : List Obligation)
      → IsCanonicalTy (heads_of env) (standings g) A
      → Fits env m g M A N o
      → EventuallyGives (λ i. pure items i v M) (λ u. Realises items w A (skeleton A) u (term_den e w N (skeleton A)))
  pub bodies : (items : Items) (env : Environment) (e : HeadEntries) (g : Context) (v : Env) (w : Valuation)
      → Around items env e g v w
      → (E r : CompTree) (spec : TripleTree) (o : List Obligation)
      → IsCanonicalTriple (heads_of env) (standings g) spec
      → FitsBody env g E spec r o
      → (n : ℕ) (h : Heap) (cs : List ℕ)
      → Reaches (answer_mono w spec) (λ j. run items j v E h cs) (comp_den e w r n h cs)

-- A computation without variables and its denotation have the same outcomes, each for some fuel.
abbrev pub OutcomesAreSame : Type 0
OutcomesAreSame =
    (items : Items) (env : Environment) (e : HeadEntries)
    → IsCanonicalEnvironment env
    → ItemsDo items env e
    → ItemsRealise items env e
    → (E r : CompTree) (spec : TripleTree) (o : List Obligation)
    → IsCanonicalTriple (heads_of env) [] spec
    → FitsBody env [] E spec r o
    → (h : Heap) (cs : List ℕ) (end : Outcome)
    → end ≢ out_of_fuel
    → ((j : ℕ) × (run items j nothing E h cs ≡ run_result end)) ↔ ((n : ℕ) × (comp_den e [] r n h cs ≡ end))
