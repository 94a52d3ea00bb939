-- When the entries of heads are of the types of an environment, and when obligations are true.
use Rattle.std.specs.Prelude.{◌≡◌, ℕ, List, [], ◌∷◌, Some, slice_get}
use Rattle.htt_syntax.specs.Trees.{TyTree, TermTree}
use Rattle.theory_truth.specs.Predicates.{RecTree, recs_of}
use Rattle.theory_canonical.specs.Skeletons.{skeleton}
use Rattle.theory_typing.specs.Contexts.{Environment, Obligation}
use Rattle.theory_denotation.specs.Valuations.{Domain, den_term, Valuation, HeadEntries}
use Rattle.theory_denotation.specs.Denotation.{term_den}
use Rattle.theory_denotation.specs.Satisfaction.{Satisfies}
use Rattle.theory_denotation_types.specs.Types.{Means, ContextMeans}

-- The entry of a value is a denotation of its type.
pub record ValMeans (table : List RecTree) (e : HeadEntries) (n : ℕ) (ty : TyTree) : Type 0 where
  pub of : Domain (skeleton ty)
  pub is : e.vals n ≡ den_term (skeleton ty) of
  pub means : Means (recs_of table) e [] ty (skeleton ty) of

pub record EnvironmentMeans (table : List RecTree) (env : Environment) (e : HeadEntries) : Type 0 where
  pub vals : (n : ℕ) (ty : TyTree) → slice_get env.vals n ≡ Some ty → ValMeans table e n ty
  pub defs : (n : ℕ) (definition : TyTree × TermTree)
      → slice_get env.defs n ≡ Some definition
      → Means (recs_of table) e [] (definition.0) (skeleton (definition.0))
      (term_den e [] (definition.1) (skeleton (definition.0)))

-- An obligation is true where every valuation of its context satisfies its goal.
abbrev pub IsTrueGoal : List RecTree → HeadEntries → Obligation → Type 0
IsTrueGoal table e o =
    (w : Valuation) → ContextMeans (recs_of table) e o.context w → Satisfies (recs_of table) e w o.goal

abbrev pub AllTrue : List RecTree → HeadEntries → List Obligation → Type 0
AllTrue table e [] = Unit {0}
AllTrue table e (o ∷ others) = IsTrueGoal table e o × AllTrue table e others
