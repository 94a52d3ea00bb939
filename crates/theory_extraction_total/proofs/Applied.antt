-- In a canonical computation each occurrence of a variable has all arguments that its skeleton asks for.
use Rattle.std.proofs.Common.{◌≡◌, ℕ, zero, suc, List, [], ◌∷◌, ◌++◌, Bool, true, false, nat_eq, refl, ap, subst, arith}
use Rattle.std.proofs.lemmas.Bool.{eqb-true}
use Rattle.htt_syntax.specs.Trees.{MonoTree, TyTree, TripleTree, TermTree, TermTrees, FixTree, CompTree, StepTree, FormulaTree}
use Rattle.theory_canonical.specs.Skeletons.{Skeleton, sk_o, sk_c, sk_arrow, sk_all}
use Rattle.theory_canonical.specs.Contexts.{Standing, as_mono, as_heap, as_term, Stands, here, there, Heads}
use Rattle.theory_canonical.specs.Canonical.{IsCanonical, IsNeutral, IsCanonicalTerms, IsCanonicalFix, IsCanonicalComp, IsCanonicalStep, IsCanonicalTy}
use Rattle.theory_canonical.specs.Canonical.{IsCanonicalTriple, IsCanonicalFormula, n_word, n_bool, n_loc, n_unit, n_pair, n_fst, n_snd, n_not, n_bin, n_eq}
use Rattle.theory_canonical.specs.Canonical.{n_sel, n_lam, n_lam_t, n_do, n_neutral, e_var, e_val, e_made, e_fix, e_app, e_inst, n_no_terms, n_more_terms}
use Rattle.theory_canonical.specs.Canonical.{n_param, n_body, n_ret, n_step, n_run, n_alloc, n_get, n_set, n_free, n_if, n_mono, n_fun, n_all, n_hoare}
use Rattle.theory_canonical.specs.Canonical.{n_triple, n_tt, n_ff, n_and, n_or, n_imp, n_all_t, n_ex_t, n_all_h, n_ex_h, n_emp, n_cell, n_block, n_join}
use Rattle.theory_canonical.specs.Canonical.{n_same, n_equal, n_rec}
use Rattle.theory_instances.specs.Calls.{Argument, of_term, of_mono, fix_comp}
use Rattle.theory_instances.specs.Occurrences.{Occurrence, outside, met, met_in_term, met_in_terms, met_in_fix, met_in_comp, met_in_step, met_in_ty}
use Rattle.theory_instances.specs.Occurrences.{met_in_triple, met_in_formula}

-- All arguments of a function of this skeleton.
pub data Applied : Skeleton → List Argument → Type 0 where
  applied_o : Applied sk_o []
  applied_c : Applied sk_c []
  applied_term : {s t : Skeleton} {term : TermTree} {others : List Argument}
      → Applied t others
      → Applied (sk_arrow s t) (of_term term ∷ others)
  applied_mono : {s : Skeleton} {mono : MonoTree} {others : List Argument}
      → Applied s others
      → Applied (sk_all s) (of_mono mono ∷ others)

-- an occurrence of the variable that is 0 outside has all arguments
abbrev pub OwnApplied : Skeleton → Bool → Occurrence → Type 0
OwnApplied s true o = Applied s o.arguments
OwnApplied s false o = Unit {0}

pub data EachApplied (s : Skeleton) : List Occurrence → Type 0 where
  none_applied : EachApplied s []
  more_applied : {o : Occurrence} {others : List Occurrence}
      → OwnApplied s (nat_eq o.variable zero) o
      → EachApplied s others
      → EachApplied s (o ∷ others)

both : {s : Skeleton} {xs ys : List Occurrence} → EachApplied s xs → EachApplied s ys → EachApplied s (xs ++ ys)
both none_applied b = b
both (more_applied p a) b = more_applied p (both a b)

another_applied : (s : Skeleton) (n : ℕ) (o : Occurrence) → OwnApplied s (nat_eq (suc n) zero) o
another_applied s n o = by (nat_eq (suc n) zero) refl
  where
    by : (b : Bool) → nat_eq (suc n) zero ≡ b → OwnApplied s b o
    by true q = let r = eqb-true (suc n) zero q in absurd (omega (arith, r))
    by false q = tt

met_applied : (s : Skeleton) (inside d index : ℕ) (arguments : List Argument)
    → (index ≡ d → Applied s arguments)
    → EachApplied s (met inside arguments (outside d index))
met_applied s inside zero zero arguments f = more_applied (f refl) none_applied
met_applied s inside zero (suc n) arguments f = more_applied (another_applied s n (record { variable = suc n; inside = inside; arguments = arguments })) none_applied
met_applied s inside (suc d) zero arguments f = none_applied
met_applied s inside (suc d) (suc n) arguments f = met_applied s inside d n arguments (λ q. f (ap suc q))

-- the variable d may be used as a term of this skeleton alone
abbrev Only : Skeleton → ℕ → List Standing → Type 0
Only s d g = (t : Skeleton) → Stands g d (as_term t) → t ≡ s

only_here : (s : Skeleton) (g : List Standing) → Only s zero (as_term s ∷ g)
only_here s g t here = refl

only_next : {s : Skeleton} {d : ℕ} {g : List Standing} (entry : Standing) → Only s d g → Only s (suc d) (entry ∷ g)
only_next entry f t (there q) = f t q

module _ {heads : Heads} {s : Skeleton} where
  mutual
    unfolding met_in_term

    term_applied : {g : List Standing} {term : TermTree} {t : Skeleton} (d : ℕ)
        → IsCanonical heads g term t
        → Only s d g
        → EachApplied s (met_in_term d [] term)
    term_applied d n_word f = none_applied
    term_applied d n_bool f = none_applied
    term_applied d n_loc f = none_applied
    term_applied d n_unit f = none_applied
    term_applied d (n_pair a b) f = both (term_applied d a f) (term_applied d b f)
    term_applied d (n_fst a q) f = term_applied d a f
    term_applied d (n_snd a q) f = term_applied d a f
    term_applied d (n_not a q) f = term_applied d a f
    term_applied d (n_bin a b q) f = both (term_applied d a f) (term_applied d b f)
    term_applied d (n_eq m a b q) f = both (term_applied d a f) (term_applied d b f)
    term_applied d (n_sel m a b c q) f = both (term_applied d a f) (both (term_applied d b f) (term_applied d c f))
    term_applied d (n_lam {s = r} a) f = term_applied (suc d) a (only_next (as_term r) f)
    term_applied d (n_lam_t a) f = term_applied (suc d) a (only_next as_mono f)
    term_applied d (n_do a) f = comp_applied d a f
    term_applied d (n_neutral a) f = neutral_applied d [] a f applied_o

    neutral_applied : {g : List Standing} {term : TermTree} {t : Skeleton} (d : ℕ) (arguments : List Argument)
        → IsNeutral heads g term t
        → Only s d g
        → Applied t arguments
        → EachApplied s (met_in_term d arguments term)
    neutral_applied {g = g} {t = t} d arguments (e_var {index = index} q) f p =
        met_applied s d d index arguments
        (λ r. subst (λ (u : Skeleton). Applied u arguments) (f t (subst (λ n. Stands g n (as_term t)) r q)) p)
    neutral_applied d arguments (e_val q) f p = none_applied
    neutral_applied d arguments (e_made q a) f p = terms_applied d a f
    neutral_applied d arguments (e_fix a) f p = fix_applied d a f
    neutral_applied d arguments (e_app {argument = argument} a b) f p =
        both (neutral_applied d (of_term argument ∷ arguments) a f (applied_term p)) (term_applied d b f)
    neutral_applied d arguments (e_inst {mono = mono} a m) f p = neutral_applied d (of_mono mono ∷ arguments) a f (applied_mono p)

    terms_applied : {g : List Standing} {terms : TermTrees} (d : ℕ)
        → IsCanonicalTerms heads g terms
        → Only s d g
        → EachApplied s (met_in_terms d terms)
    terms_applied d n_no_terms f = none_applied
    terms_applied d (n_more_terms a b) f = both (term_applied d a f) (terms_applied d b f)

    fix_applied : {g : List Standing} {whole t : Skeleton} {fix : FixTree} (d : ℕ)
        → IsCanonicalFix heads g whole fix t
        → Only s d g
        → EachApplied s (met_in_fix d fix)
    fix_applied d (n_param {s = r} a q b) f = both (ty_applied d a f) (fix_applied (suc d) b (only_next (as_term r) f))
    fix_applied d (n_body {whole = whole} a b) f = both (triple_applied d a f) (comp_applied (suc d) b (only_next (as_term whole) f))

    pub comp_applied : {g : List Standing} {comp : CompTree} (d : ℕ)
        → IsCanonicalComp heads g comp
        → Only s d g
        → EachApplied s (met_in_comp d comp)
    comp_applied d (n_ret a) f = term_applied d a f
    comp_applied d (n_step a b) f = both (step_applied d a f) (comp_applied (suc d) b (only_next (as_term sk_o) f))

    step_applied : {g : List Standing} {step : StepTree} (d : ℕ)
        → IsCanonicalStep heads g step
        → Only s d g
        → EachApplied s (met_in_step d step)
    step_applied d (n_run a m) f = neutral_applied d [] a f applied_c
    step_applied d (n_alloc m a) f = term_applied d a f
    step_applied d (n_get m a) f = term_applied d a f
    step_applied d (n_set m a b) f = both (term_applied d a f) (term_applied d b f)
    step_applied d (n_free m a) f = term_applied d a f
    step_applied d (n_if m a b c) f = both (term_applied d a f) (both (comp_applied d b f) (comp_applied d c f))

    ty_applied : {g : List Standing} {ty : TyTree} (d : ℕ) → IsCanonicalTy heads g ty → Only s d g → EachApplied s (met_in_ty d ty)
    ty_applied d (n_mono m) f = none_applied
    ty_applied d (n_fun {s = r} a q b) f = both (ty_applied d a f) (ty_applied (suc d) b (only_next (as_term r) f))
    ty_applied d (n_all a) f = ty_applied (suc d) a (only_next as_mono f)
    ty_applied d (n_hoare a) f = triple_applied d a f

    triple_applied : {g : List Standing} {spec : TripleTree} (d : ℕ)
        → IsCanonicalTriple heads g spec
        → Only s d g
        → EachApplied s (met_in_triple d spec)
    triple_applied d (n_triple a m b) f =
        both (formula_applied (suc d) a (only_next as_heap f))
        (formula_applied (suc (suc (suc d))) b (only_next as_heap (only_next as_heap (only_next (as_term sk_o) f))))

    formula_applied : {g : List Standing} {formula : FormulaTree} (d : ℕ)
        → IsCanonicalFormula heads g formula
        → Only s d g
        → EachApplied s (met_in_formula d formula)
    formula_applied d n_tt f = none_applied
    formula_applied d n_ff f = none_applied
    formula_applied d (n_and a b) f = both (formula_applied d a f) (formula_applied d b f)
    formula_applied d (n_or a b) f = both (formula_applied d a f) (formula_applied d b f)
    formula_applied d (n_imp a b) f = both (formula_applied d a f) (formula_applied d b f)
    formula_applied d (n_all_t m a) f = formula_applied (suc d) a (only_next (as_term sk_o) f)
    formula_applied d (n_ex_t m a) f = formula_applied (suc d) a (only_next (as_term sk_o) f)
    formula_applied d (n_all_h a) f = formula_applied (suc d) a (only_next as_heap f)
    formula_applied d (n_ex_h a) f = formula_applied (suc d) a (only_next as_heap f)
    formula_applied d (n_emp q) f = none_applied
    formula_applied d (n_cell m q a b) f = both (term_applied d a f) (term_applied d b f)
    formula_applied d (n_block m q a) f = term_applied d a f
    formula_applied d (n_join q r o) f = none_applied
    formula_applied d (n_same q r) f = none_applied
    formula_applied d (n_equal m a b) f = both (term_applied d a f) (term_applied d b f)
    formula_applied d (n_rec q a b) f = both (term_applied d a f) (terms_applied d b f)

-- the recursion variable in the body of a recursive function
pub own_applied : {heads : Heads} {g : List Standing} {whole t : Skeleton} {fix : FixTree}
    → IsCanonicalFix heads g whole fix t
    → EachApplied whole (met_in_comp zero (fix_comp fix))
unfolding fix_comp
own_applied (n_param a q b) = own_applied b
own_applied {g = g} {whole = whole} (n_body a b) = comp_applied zero b (only_here whole g)
