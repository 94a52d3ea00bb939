-- What the typing rules give denotes in the shape of its type.
use Rattle.std.specs.Prelude.{List}
use Rattle.htt_syntax.specs.Trees.{MonoTree, TyTree, TermTree, y_mono}
use Rattle.theory_values.specs.Values.{HasType}
use Rattle.theory_canonical.specs.Skeletons.{sk_o, skeleton}
use Rattle.theory_canonical.specs.Canonical.{IsCanonicalTy}
use Rattle.theory_typing.specs.Contexts.{Context, Environment, Obligation}
use Rattle.theory_typing.specs.Typing.{Mode, Gives, Fits}
use Rattle.theory_typing_canonical.specs.Environments.{standings, heads_of, IsCanonicalContext}
use Rattle.theory_items_sound.specs.Environments.{SoundEnvironment}
use Rattle.theory_denotation.specs.Valuations.{Valuation, mono_in, HeadEntries}
use Rattle.theory_denotation.specs.Denotation.{term_den}
use Rattle.theory_denotation_shapes.specs.Shapes.{InShape, ContextShaped}

-- whatever the heads denote, wherever the term is written, and whatever it owes
pub record TypingGivesShape : Type 0 where
  pub given : (env : Environment) (e : HeadEntries) (g : Context) (w : Valuation)
      → SoundEnvironment env
      → IsCanonicalContext (heads_of env) g
      → ContextShaped g w
      → (m : Mode) (M N : TermTree) (A : TyTree) (o : List Obligation)
      → Gives env m g M A N o
      → InShape w A (skeleton A) (term_den e w N (skeleton A))
  pub fitting : (env : Environment) (e : HeadEntries) (g : Context) (w : Valuation)
      → SoundEnvironment env
      → IsCanonicalContext (heads_of env) g
      → ContextShaped g w
      → (m : Mode) (M N : TermTree) (A : TyTree) (o : List Obligation)
      → IsCanonicalTy (heads_of env) (standings g) A
      → Fits env m g M A N o
      → InShape w A (skeleton A) (term_den e w N (skeleton A))
  -- a term of a monotype has a value of it
  pub values : (env : Environment) (e : HeadEntries) (g : Context) (w : Valuation)
      → SoundEnvironment env
      → IsCanonicalContext (heads_of env) g
      → ContextShaped g w
      → (m : Mode) (M N : TermTree) (t : MonoTree) (o : List Obligation)
      → Fits env m g M (y_mono t) N o
      → HasType (term_den e w N sk_o) (mono_in w t)
