-- The laws of canonical trees.
use Rattle.std.specs.Prelude.{◌≡◌, List}
use Rattle.htt_syntax.specs.Trees.{TyTree, TermTree, CompTree, FormulaTree}
use Rattle.theory_renaming.specs.Renaming.{Map, rename_ty, rename_term, rename_comp, rename_formula}
use Rattle.theory_canonical.specs.Skeletons.{Skeleton, skeleton}
use Rattle.theory_canonical.specs.Contexts.{Standing, Heads, KeepsStandings}
use Rattle.theory_canonical.specs.Canonical.{IsCanonical, IsNeutral, IsCanonicalComp, IsCanonicalTy, IsCanonicalFormula}
use Rattle.theory_canonical.specs.Eta.{eta}

-- The eta-expansion of a neutral term at a canonical type is canonical.
abbrev pub EtaIsCanonical : Type 0
EtaIsCanonical =
    (heads : Heads) (g : List Standing) (ty : TyTree) (term : TermTree)
    → IsCanonicalTy heads g ty
    → IsNeutral heads g term (skeleton ty)
    → IsCanonical heads g (eta term ty) (skeleton ty)

-- A neutral term has one skeleton at most.
abbrev pub NeutralHasOneSkeleton : Type 0
NeutralHasOneSkeleton =
    (heads : Heads) (g : List Standing) (term : TermTree) (s t : Skeleton)
    → IsNeutral heads g term s
    → IsNeutral heads g term t
    → s ≡ t

-- Renaming keeps skeletons, and it keeps trees canonical where each variable is given one that may be
-- used alike.
abbrev pub RenamedSkeleton : Type 0
RenamedSkeleton = (m : Map) (ty : TyTree) → skeleton (rename_ty m ty) ≡ skeleton ty

abbrev pub RenamedTerm : Type 0
RenamedTerm =
    (heads : Heads) (m : Map) (g h : List Standing)
    → KeepsStandings m g h
    → (term : TermTree) (s : Skeleton)
    → IsCanonical heads g term s
    → IsCanonical heads h (rename_term m term) s

abbrev pub RenamedComputation : Type 0
RenamedComputation =
    (heads : Heads) (m : Map) (g h : List Standing)
    → KeepsStandings m g h
    → (comp : CompTree)
    → IsCanonicalComp heads g comp
    → IsCanonicalComp heads h (rename_comp m comp)

abbrev pub RenamedType : Type 0
RenamedType =
    (heads : Heads) (m : Map) (g h : List Standing)
    → KeepsStandings m g h
    → (ty : TyTree)
    → IsCanonicalTy heads g ty
    → IsCanonicalTy heads h (rename_ty m ty)

abbrev pub RenamedFormula : Type 0
RenamedFormula =
    (heads : Heads) (m : Map) (g h : List Standing)
    → KeepsStandings m g h
    → (formula : FormulaTree)
    → IsCanonicalFormula heads g formula
    → IsCanonicalFormula heads h (rename_formula m formula)
