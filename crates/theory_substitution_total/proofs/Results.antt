-- Whatever a substitution in canonical trees gives is canonical.
use Rattle.std.proofs.Common.{ℕ, List, ◌∷◌, arith, subst}
use Rattle.htt_syntax.specs.Trees.{TyTree, TermTree, CompTree, FormulaTree}
use Rattle.theory_canonical.specs.Skeletons.{Skeleton, sk_o, sk_arrow}
use Rattle.theory_canonical.specs.Contexts.{Standing, as_term, Heads}
use Rattle.theory_canonical.specs.Canonical.{IsCanonical, IsCanonicalComp, IsCanonicalTy, IsCanonicalFormula}
use Rattle.theory_substitution.specs.Substitution.{SubTerm, SubComp, SubTy, SubFormula, App, Bind}
use Rattle.theory_substitution.proofs.Once.{term_once, comp_once, ty_once, formula_once, app_once, bind_once}
use Rattle.theory_substitution_total.specs.Laws.{MayBePut}
use Rattle.theory_substitution_total.proofs.Total.{size, smaller, term_put, comp_put, ty_put, formula_put, applied_canonical, spliced}

pub term_result : {heads : Heads} {new : TermTree} {s : Skeleton} {x : ℕ} {g whole : List Standing} {term r : TermTree} {t : Skeleton}
    → MayBePut heads new s x g whole
    → IsCanonical heads whole term t
    → SubTerm new s x term r
    → IsCanonical heads g r t
term_result {heads = heads} {s = s} {g = g} {t = t} p d e =
    let q = term_put heads (size s) (smaller heads (size s)) (omega arith) p.inserted p.canonical d in
    subst (λ u. IsCanonical heads g u t) (term_once (q.1) e) (q.2)

pub comp_result : {heads : Heads} {new : TermTree} {s : Skeleton} {x : ℕ} {g whole : List Standing} {comp r : CompTree}
    → MayBePut heads new s x g whole
    → IsCanonicalComp heads whole comp
    → SubComp new s x comp r
    → IsCanonicalComp heads g r
comp_result {heads = heads} {s = s} {g = g} p d e =
    let q = comp_put heads (size s) (smaller heads (size s)) (omega arith) p.inserted p.canonical d in
    subst (λ u. IsCanonicalComp heads g u) (comp_once (q.1) e) (q.2)

pub ty_result : {heads : Heads} {new : TermTree} {s : Skeleton} {x : ℕ} {g whole : List Standing} {ty r : TyTree}
    → MayBePut heads new s x g whole
    → IsCanonicalTy heads whole ty
    → SubTy new s x ty r
    → IsCanonicalTy heads g r
ty_result {heads = heads} {s = s} {g = g} p d e =
    let q = ty_put heads (size s) (smaller heads (size s)) (omega arith) p.inserted p.canonical d in
    subst (λ u. IsCanonicalTy heads g u) (ty_once (q.1) e) (q.2)

pub formula_result : {heads : Heads} {new : TermTree} {s : Skeleton} {x : ℕ} {g whole : List Standing} {formula r : FormulaTree}
    → MayBePut heads new s x g whole
    → IsCanonicalFormula heads whole formula
    → SubFormula new s x formula r
    → IsCanonicalFormula heads g r
formula_result {heads = heads} {s = s} {g = g} p d e =
    let q = formula_put heads (size s) (smaller heads (size s)) (omega arith) p.inserted p.canonical d in
    subst (λ u. IsCanonicalFormula heads g u) (formula_once (q.1) e) (q.2)

pub app_result : {heads : Heads} {g : List Standing} {function argument r : TermTree} {s t : Skeleton}
    → IsCanonical heads g function (sk_arrow s t)
    → IsCanonical heads g argument s
    → App function s argument r
    → IsCanonical heads g r t
app_result {heads = heads} {g = g} {t = t} d a e = let q = applied_canonical d a in subst (λ u. IsCanonical heads g u t) (app_once (q.1) e) (q.2)

pub bind_result : {heads : Heads} {g : List Standing} {comp others r : CompTree}
    → IsCanonicalComp heads g comp
    → IsCanonicalComp heads (as_term sk_o ∷ g) others
    → Bind comp others r
    → IsCanonicalComp heads g r
bind_result {heads = heads} {g = g} d a e =
    let q = spliced heads 1 (smaller heads 1) (omega arith) d a in subst (λ u. IsCanonicalComp heads g u) (bind_once (q.1) e) (q.2)
