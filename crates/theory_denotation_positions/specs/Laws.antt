-- Positions say nothing: without them a tree denotes, says and means what it did.
use Rattle.std.specs.Prelude.{◌≡◌, ◌↔◌, List}
use Rattle.htt_syntax.specs.Trees.{TyTree, TermTree, CompTree, FormulaTree}
use Rattle.theory_truth.specs.Predicates.{RecTree, recs_of}
use Rattle.theory_canonical.specs.Skeletons.{Skeleton}
use Rattle.theory_typing.specs.Positions.{plain_ty, plain_term, plain_comp, plain_formula}
use Rattle.theory_denotation.specs.Valuations.{Domain, Valuation, HeadEntries}
use Rattle.theory_denotation.specs.Denotation.{term_den, comp_den}
use Rattle.theory_denotation.specs.Satisfaction.{Satisfies}
use Rattle.theory_denotation_types.specs.Types.{Means}

pub record PositionsSayNothing : Type 0 where
  pub terms : (e : HeadEntries) (w : Valuation) (term : TermTree) (s : Skeleton)
      → term_den e w (plain_term term) s ≡ term_den e w term s
  pub computations : (e : HeadEntries) (w : Valuation) (comp : CompTree)
      → comp_den e w (plain_comp comp) ≡ comp_den e w comp
  pub formulas : (table : List RecTree) (e : HeadEntries) (w : Valuation) (formula : FormulaTree)
      → Satisfies (recs_of table) e w (plain_formula formula) ↔ Satisfies (recs_of table) e w formula
  pub types : (table : List RecTree) (e : HeadEntries) (w : Valuation) (ty : TyTree) (s : Skeleton) (d : Domain s)
      → Means (recs_of table) e w (plain_ty ty) s d ↔ Means (recs_of table) e w ty s d
