-- For canonical trees of the skeletons in question substitution gives a tree, and it is canonical.
use Rattle.std.specs.Prelude.{ℕ, List, ◌∷◌}
use Rattle.htt_syntax.specs.Trees.{MonoTree, TyTree, TermTree, CompTree, FormulaTree}
use Rattle.theory_canonical.specs.Skeletons.{Skeleton, sk_o, sk_arrow}
use Rattle.theory_canonical.specs.Contexts.{Standing, as_mono, as_term, Heads}
use Rattle.theory_canonical.specs.Canonical.{IsCanonical, IsCanonicalComp, IsCanonicalTy, IsCanonicalFormula}
use Rattle.theory_canonical.specs.Canonical.{IsCanonicalMono}
use Rattle.theory_substitution.specs.Monotypes.{put_mono_term, put_mono_comp, put_mono_ty, put_mono_formula}
use Rattle.theory_substitution.specs.Substitution.{SubTerm, SubComp, SubTy, SubFormula, App, Bind}
use Rattle.theory_substitution_total.specs.Insertion.{Inserted}

-- The whole context is g with the variable x of a skeleton, and the new term is canonical in g.
pub record MayBePut (heads : Heads) (new : TermTree) (s : Skeleton) (x : ℕ) (g whole : List Standing) : Type 0 where
  pub inserted : Inserted x (as_term s) g whole
  pub canonical : IsCanonical heads g new s

abbrev pub TermInTerm : Type 0
TermInTerm =
    (heads : Heads) (new : TermTree) (s : Skeleton) (x : ℕ) (g whole : List Standing)
    → MayBePut heads new s x g whole
    → (term : TermTree) (t : Skeleton)
    → IsCanonical heads whole term t
    → (r : TermTree) × SubTerm new s x term r × IsCanonical heads g r t

abbrev pub TermInComputation : Type 0
TermInComputation =
    (heads : Heads) (new : TermTree) (s : Skeleton) (x : ℕ) (g whole : List Standing)
    → MayBePut heads new s x g whole
    → (comp : CompTree)
    → IsCanonicalComp heads whole comp
    → (r : CompTree) × SubComp new s x comp r × IsCanonicalComp heads g r

abbrev pub TermInType : Type 0
TermInType =
    (heads : Heads) (new : TermTree) (s : Skeleton) (x : ℕ) (g whole : List Standing)
    → MayBePut heads new s x g whole
    → (ty : TyTree)
    → IsCanonicalTy heads whole ty
    → (r : TyTree) × SubTy new s x ty r × IsCanonicalTy heads g r

abbrev pub TermInFormula : Type 0
TermInFormula =
    (heads : Heads) (new : TermTree) (s : Skeleton) (x : ℕ) (g whole : List Standing)
    → MayBePut heads new s x g whole
    → (formula : FormulaTree)
    → IsCanonicalFormula heads whole formula
    → (r : FormulaTree) × SubFormula new s x formula r × IsCanonicalFormula heads g r

abbrev pub ApplicationGivesCanonical : Type 0
ApplicationGivesCanonical =
    (heads : Heads) (g : List Standing) (function argument : TermTree) (s t : Skeleton)
    → IsCanonical heads g function (sk_arrow s t)
    → IsCanonical heads g argument s
    → (r : TermTree) × App function s argument r × IsCanonical heads g r t

abbrev pub BindingGivesCanonical : Type 0
BindingGivesCanonical =
    (heads : Heads) (g : List Standing) (comp others : CompTree)
    → IsCanonicalComp heads g comp
    → IsCanonicalComp heads (as_term sk_o ∷ g) others
    → (r : CompTree) × Bind comp others r × IsCanonicalComp heads g r

-- The whole context is g with the monotype variable x, and the monotype is one of g.
pub record MayFill (mono : MonoTree) (x : ℕ) (g whole : List Standing) : Type 0 where
  pub inserted : Inserted x as_mono g whole
  pub canonical : IsCanonicalMono g mono

abbrev pub MonotypeInTerm : Type 0
MonotypeInTerm =
    (heads : Heads) (mono : MonoTree) (x : ℕ) (g whole : List Standing)
    → MayFill mono x g whole
    → (term : TermTree) (t : Skeleton)
    → IsCanonical heads whole term t
    → IsCanonical heads g (put_mono_term mono x term) t

abbrev pub MonotypeInComputation : Type 0
MonotypeInComputation =
    (heads : Heads) (mono : MonoTree) (x : ℕ) (g whole : List Standing)
    → MayFill mono x g whole
    → (comp : CompTree)
    → IsCanonicalComp heads whole comp
    → IsCanonicalComp heads g (put_mono_comp mono x comp)

abbrev pub MonotypeInType : Type 0
MonotypeInType =
    (heads : Heads) (mono : MonoTree) (x : ℕ) (g whole : List Standing)
    → MayFill mono x g whole
    → (ty : TyTree)
    → IsCanonicalTy heads whole ty
    → IsCanonicalTy heads g (put_mono_ty mono x ty)

abbrev pub MonotypeInFormula : Type 0
MonotypeInFormula =
    (heads : Heads) (mono : MonoTree) (x : ℕ) (g whole : List Standing)
    → MayFill mono x g whole
    → (formula : FormulaTree)
    → IsCanonicalFormula heads whole formula
    → IsCanonicalFormula heads g (put_mono_formula mono x formula)

-- Each result is canonical, since there is one at most.
abbrev pub TermResult : Type 0
TermResult =
    (heads : Heads) (new : TermTree) (s : Skeleton) (x : ℕ) (g whole : List Standing)
    → MayBePut heads new s x g whole
    → (term r : TermTree) (t : Skeleton)
    → IsCanonical heads whole term t
    → SubTerm new s x term r
    → IsCanonical heads g r t

abbrev pub ComputationResult : Type 0
ComputationResult =
    (heads : Heads) (new : TermTree) (s : Skeleton) (x : ℕ) (g whole : List Standing)
    → MayBePut heads new s x g whole
    → (comp r : CompTree)
    → IsCanonicalComp heads whole comp
    → SubComp new s x comp r
    → IsCanonicalComp heads g r

abbrev pub TypeResult : Type 0
TypeResult =
    (heads : Heads) (new : TermTree) (s : Skeleton) (x : ℕ) (g whole : List Standing)
    → MayBePut heads new s x g whole
    → (ty r : TyTree)
    → IsCanonicalTy heads whole ty
    → SubTy new s x ty r
    → IsCanonicalTy heads g r

abbrev pub FormulaResult : Type 0
FormulaResult =
    (heads : Heads) (new : TermTree) (s : Skeleton) (x : ℕ) (g whole : List Standing)
    → MayBePut heads new s x g whole
    → (formula r : FormulaTree)
    → IsCanonicalFormula heads whole formula
    → SubFormula new s x formula r
    → IsCanonicalFormula heads g r

abbrev pub ApplicationResult : Type 0
ApplicationResult =
    (heads : Heads) (g : List Standing) (function argument r : TermTree) (s t : Skeleton)
    → IsCanonical heads g function (sk_arrow s t)
    → IsCanonical heads g argument s
    → App function s argument r
    → IsCanonical heads g r t

abbrev pub BindingResult : Type 0
BindingResult =
    (heads : Heads) (g : List Standing) (comp others r : CompTree)
    → IsCanonicalComp heads g comp
    → IsCanonicalComp heads (as_term sk_o ∷ g) others
    → Bind comp others r
    → IsCanonicalComp heads g r
