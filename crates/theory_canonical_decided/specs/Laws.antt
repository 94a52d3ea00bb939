-- The cases decide what is canonical.
use Rattle.std.specs.Prelude.{◌≡◌, ◌↔◌, List, true, Some}
use Rattle.htt_syntax.specs.Trees.{TyTree, TermTree, CompTree, FormulaTree}
use Rattle.theory_canonical.specs.Skeletons.{Skeleton}
use Rattle.theory_canonical.specs.Contexts.{Standing, Heads}
use Rattle.theory_canonical.specs.Canonical.{IsCanonical, IsNeutral, IsCanonicalComp, IsCanonicalTy, IsCanonicalFormula}
use Rattle.theory_canonical_decided.specs.Decision.{term_is_canonical, neutral_skeleton, comp_is_canonical}
use Rattle.theory_canonical_decided.specs.Decision.{ty_is_canonical, formula_is_canonical}

-- A skeleton is told of exactly what is neutral at it.
abbrev pub NeutralsAreTold : Type 0
NeutralsAreTold =
    (h : Heads) (g : List Standing) (term : TermTree) (s : Skeleton)
    → (neutral_skeleton h g term ≡ Some s) ↔ IsNeutral h g term s

abbrev pub TermsAreDecided : Type 0
TermsAreDecided =
    (h : Heads) (g : List Standing) (term : TermTree) (s : Skeleton)
    → (term_is_canonical h g term s ≡ true) ↔ IsCanonical h g term s

abbrev pub ComputationsAreDecided : Type 0
ComputationsAreDecided =
    (h : Heads) (g : List Standing) (comp : CompTree) → (comp_is_canonical h g comp ≡ true) ↔ IsCanonicalComp h g comp

abbrev pub TypesAreDecided : Type 0
TypesAreDecided =
    (h : Heads) (g : List Standing) (ty : TyTree) → (ty_is_canonical h g ty ≡ true) ↔ IsCanonicalTy h g ty

abbrev pub FormulasAreDecided : Type 0
FormulasAreDecided =
    (h : Heads) (g : List Standing) (formula : FormulaTree)
    → (formula_is_canonical h g formula ≡ true) ↔ IsCanonicalFormula h g formula
