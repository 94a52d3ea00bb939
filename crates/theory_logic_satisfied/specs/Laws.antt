-- What is proved is true in every context.
use Rattle.std.specs.Prelude.{List, []}
use Rattle.htt_syntax.specs.Trees.{FormulaTree, ProofTree}
use Rattle.theory_truth.specs.Predicates.{recs_of}
use Rattle.theory_canonical.specs.Canonical.{IsCanonicalFormula}
use Rattle.theory_typing.specs.Contexts.{Context, Environment}
use Rattle.theory_typing_canonical.specs.Environments.{standings, heads_of, IsCanonicalContext}
use Rattle.theory_logic_rules.specs.Rules.{Infers, Proves}
use Rattle.theory_logic_true.specs.Sequents.{Each}
use Rattle.theory_denotation.specs.Valuations.{Valuation, HeadEntries}
use Rattle.theory_denotation.specs.Satisfaction.{Satisfies}
use Rattle.theory_items_sound.specs.Environments.{SoundEnvironment}
use Rattle.theory_logic_unfoldings_satisfied.specs.Entries.{Setting}

abbrev pub AreCanonical : Environment → Context → List FormulaTree → Type 0
AreCanonical env g hypotheses = Each (IsCanonicalFormula (heads_of env) (standings g)) hypotheses

-- The valuation satisfies each of them, with what the environment's predicates say.
abbrev pub AreSatisfied : Environment → HeadEntries → Valuation → List FormulaTree → Type 0
AreSatisfied env e w hypotheses = Each (Satisfies (recs_of env.recs) e w) hypotheses

abbrev pub InferredIsCanonical : Type 0
InferredIsCanonical =
    (env : Environment) (g : Context)
    → SoundEnvironment env
    → IsCanonicalContext (heads_of env) g
    → (hypotheses : List FormulaTree)
    → AreCanonical env g hypotheses
    → (p : ProofTree) (F : FormulaTree)
    → Infers env g hypotheses p F
    → IsCanonicalFormula (heads_of env) (standings g) F

abbrev pub InferredIsSatisfied : Type 0
InferredIsSatisfied =
    (env : Environment) (e : HeadEntries) (g : Context) (w : Valuation)
    → Setting env e g w
    → (hypotheses : List FormulaTree)
    → AreCanonical env g hypotheses
    → AreSatisfied env e w hypotheses
    → (p : ProofTree) (F : FormulaTree)
    → Infers env g hypotheses p F
    → Satisfies (recs_of env.recs) e w F

pub record ProvedIsSatisfied : Type 0 where
  pub from_hypotheses : (env : Environment) (e : HeadEntries) (g : Context) (w : Valuation)
      → Setting env e g w
      → (hypotheses : List FormulaTree) (goal : FormulaTree)
      → AreCanonical env g hypotheses
      → IsCanonicalFormula (heads_of env) (standings g) goal
      → (p : ProofTree)
      → Proves env g hypotheses p goal
      → AreSatisfied env e w hypotheses
      → Satisfies (recs_of env.recs) e w goal
  pub alone : (env : Environment) (e : HeadEntries) (g : Context) (w : Valuation)
      → Setting env e g w
      → (goal : FormulaTree)
      → IsCanonicalFormula (heads_of env) (standings g) goal
      → (p : ProofTree)
      → Proves env g [] p goal
      → Satisfies (recs_of env.recs) e w goal
