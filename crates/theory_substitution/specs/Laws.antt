-- The laws of substitution: each relation has at most one result, and skeletons are kept.
use Rattle.std.specs.Prelude.{◌≡◌, ℕ}
use Rattle.htt_syntax.specs.Trees.{MonoTree, TyTree, TermTree, CompTree, FormulaTree}
use Rattle.theory_canonical.specs.Skeletons.{Skeleton, skeleton}
use Rattle.theory_substitution.specs.Monotypes.{put_mono_ty}
use Rattle.theory_substitution.specs.Substitution.{SubTerm, SubComp, SubTy, SubFormula, App, Bind}

abbrev pub OneTermResult : Type 0
OneTermResult =
    (new : TermTree) (s : Skeleton) (x : ℕ) (term r q : TermTree)
    → SubTerm new s x term r
    → SubTerm new s x term q
    → r ≡ q

abbrev pub OneComputation : Type 0
OneComputation =
    (new : TermTree) (s : Skeleton) (x : ℕ) (comp r q : CompTree)
    → SubComp new s x comp r
    → SubComp new s x comp q
    → r ≡ q

abbrev pub OneTypeResult : Type 0
OneTypeResult =
    (new : TermTree) (s : Skeleton) (x : ℕ) (ty r q : TyTree) → SubTy new s x ty r → SubTy new s x ty q → r ≡ q

abbrev pub OneFormulaResult : Type 0
OneFormulaResult =
    (new : TermTree) (s : Skeleton) (x : ℕ) (formula r q : FormulaTree)
    → SubFormula new s x formula r
    → SubFormula new s x formula q
    → r ≡ q

abbrev pub OneApplication : Type 0
OneApplication =
    (function argument r q : TermTree) (s : Skeleton) → App function s argument r → App function s argument q → r ≡ q

abbrev pub OneBinding : Type 0
OneBinding = (comp others r q : CompTree) → Bind comp others r → Bind comp others q → r ≡ q

abbrev pub SubstitutedSkeleton : Type 0
SubstitutedSkeleton =
    (new : TermTree) (s : Skeleton) (x : ℕ) (ty r : TyTree) → SubTy new s x ty r → skeleton r ≡ skeleton ty

abbrev pub FilledSkeleton : Type 0
FilledSkeleton = (mono : MonoTree) (x : ℕ) (ty : TyTree) → skeleton (put_mono_ty mono x ty) ≡ skeleton ty
