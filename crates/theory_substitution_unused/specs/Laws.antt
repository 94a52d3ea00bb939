-- What is put for a variable that a canonical tree doesn't hold leaves the tree as it was.
use Rattle.std.specs.Prelude.{◌≡◌, ℕ, List}
use Rattle.htt_syntax.specs.Trees.{MonoTree, TyTree, TermTree, CompTree, FormulaTree}
use Rattle.theory_renaming.specs.Renaming.{rename_ty, rename_term, rename_comp, rename_formula}
use Rattle.theory_canonical.specs.Skeletons.{Skeleton}
use Rattle.theory_canonical.specs.Contexts.{Standing, Heads}
use Rattle.theory_canonical.specs.Canonical.{IsCanonical, IsCanonicalComp, IsCanonicalTy, IsCanonicalFormula}
use Rattle.theory_substitution.specs.Monotypes.{put_mono_term, put_mono_comp, put_mono_ty, put_mono_formula}
use Rattle.theory_substitution.specs.Substitution.{SubTerm, SubComp, SubTy, SubFormula}
use Rattle.theory_substitution_unused.specs.Opening.{opening}

abbrev pub UnusedInTerm : Type 0
UnusedInTerm =
    (heads : Heads) (g : List Standing) (new : TermTree) (s : Skeleton) (x : ℕ) (term : TermTree) (t : Skeleton)
    → IsCanonical heads g term t
    → SubTerm new s x (rename_term (opening x) term) term

abbrev pub UnusedInComputation : Type 0
UnusedInComputation =
    (heads : Heads) (g : List Standing) (new : TermTree) (s : Skeleton) (x : ℕ) (comp : CompTree)
    → IsCanonicalComp heads g comp
    → SubComp new s x (rename_comp (opening x) comp) comp

abbrev pub UnusedInType : Type 0
UnusedInType =
    (heads : Heads) (g : List Standing) (new : TermTree) (s : Skeleton) (x : ℕ) (ty : TyTree)
    → IsCanonicalTy heads g ty
    → SubTy new s x (rename_ty (opening x) ty) ty

abbrev pub UnusedInFormula : Type 0
UnusedInFormula =
    (heads : Heads) (g : List Standing) (new : TermTree) (s : Skeleton) (x : ℕ) (formula : FormulaTree)
    → IsCanonicalFormula heads g formula
    → SubFormula new s x (rename_formula (opening x) formula) formula

abbrev pub UnusedMonotypeInTerm : Type 0
UnusedMonotypeInTerm =
    (heads : Heads) (g : List Standing) (mono : MonoTree) (x : ℕ) (term : TermTree) (t : Skeleton)
    → IsCanonical heads g term t
    → put_mono_term mono x (rename_term (opening x) term) ≡ term

abbrev pub UnusedMonotypeInComputation : Type 0
UnusedMonotypeInComputation =
    (heads : Heads) (g : List Standing) (mono : MonoTree) (x : ℕ) (comp : CompTree)
    → IsCanonicalComp heads g comp
    → put_mono_comp mono x (rename_comp (opening x) comp) ≡ comp

abbrev pub UnusedMonotypeInType : Type 0
UnusedMonotypeInType =
    (heads : Heads) (g : List Standing) (mono : MonoTree) (x : ℕ) (ty : TyTree)
    → IsCanonicalTy heads g ty
    → put_mono_ty mono x (rename_ty (opening x) ty) ≡ ty

abbrev pub UnusedMonotypeInFormula : Type 0
UnusedMonotypeInFormula =
    (heads : Heads) (g : List Standing) (mono : MonoTree) (x : ℕ) (formula : FormulaTree)
    → IsCanonicalFormula heads g formula
    → put_mono_formula mono x (rename_formula (opening x) formula) ≡ formula
