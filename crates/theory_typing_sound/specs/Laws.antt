-- Typing is sound: where what a phrase owes is true, its canonical form denotes what its type means. So
-- a computation that is checked against a triple meets it, beside every frame and for all fuel.
use Rattle.std.specs.Prelude.{List}
use Rattle.htt_syntax.specs.Trees.{TyTree, TripleTree, TermTree, CompTree}
use Rattle.theory_truth.specs.Predicates.{RecTree, recs_of}
use Rattle.theory_canonical.specs.Skeletons.{skeleton}
use Rattle.theory_canonical.specs.Canonical.{IsCanonicalTy, IsCanonicalTriple}
use Rattle.theory_typing.specs.Contexts.{Context, Environment, Obligation}
use Rattle.theory_typing.specs.Typing.{Mode, Gives, Fits, FitsBody}
use Rattle.theory_typing_canonical.specs.Environments.{standings, heads_of, IsCanonicalContext}
use Rattle.theory_items_sound.specs.Environments.{SoundEnvironment}
use Rattle.theory_denotation.specs.Valuations.{Valuation, HeadEntries}
use Rattle.theory_denotation.specs.Denotation.{term_den, comp_den}
use Rattle.theory_denotation.specs.Satisfaction.{PreAt, PostAt, answer_mono}
use Rattle.theory_denotation_types.specs.Meeting.{Meets}
use Rattle.theory_denotation_types.specs.Types.{Means, ContextMeans}
use Rattle.theory_typing_sound.specs.Environments.{EnvironmentMeans, AllTrue}

-- What stands around a phrase: a sound environment and a canonical context, valued.
pub record Around (table : List RecTree) (env : Environment) (e : HeadEntries) (g : Context) (w : Valuation) :
    Type 0 where
  pub sound : SoundEnvironment env
  pub canonical : IsCanonicalContext (heads_of env) g
  pub environment : EnvironmentMeans table env e
  pub context : ContextMeans (recs_of table) e g w

pub record TypingIsSound : Type 0 where
  pub given : (table : List RecTree) (env : Environment) (e : HeadEntries) (g : Context) (w : Valuation)
      → Around table env e g w
      → (m : Mode) (M N : TermTree) (A : TyTree) (o : List Obligation)
      → Gives env m g M A N o
      → AllTrue table e o
      → Means (recs_of table) e w A (skeleton A) (term_den e w N (skeleton A))
  pub fitting : (table : List RecTree) (env : Environment) (e : HeadEntries) (g : Context) (w : Valuation)
      → Around table env e g w
      → (m : Mode) (M N : TermTree) (A : TyTree) (o : List Obligation)
      → IsCanonicalTy (heads_of env) (standings g) A
      → Fits env m g M A N o
      → AllTrue table e o
      → Means (recs_of table) e w A (skeleton A) (term_den e w N (skeleton A))
  pub bodies : (table : List RecTree) (env : Environment) (e : HeadEntries) (g : Context) (w : Valuation)
      → Around table env e g w
      → (E r : CompTree) (spec : TripleTree) (o : List Obligation)
      → IsCanonicalTriple (heads_of env) (standings g) spec
      → FitsBody env g E spec r o
      → AllTrue table e o
      → Meets (PreAt (recs_of table) e w spec) (answer_mono w spec) (PostAt (recs_of table) e w spec) (comp_den e w r)
