-- A tree that is canonical is so with more values in the file.
use Rattle.std.proofs.Common.{ℕ, List, ◌++◌}
use Rattle.htt_syntax.specs.Trees.{TyTree, TripleTree, TermTree, FixTree, CompTree, StepTree, FormulaTree, TermTrees}
use Rattle.theory_canonical.specs.Skeletons.{Skeleton}
use Rattle.theory_canonical.specs.Contexts.{Standing, Heads, HasSkeleton, first_head, later_head}
use Rattle.theory_canonical.specs.Canonical.{IsCanonical, IsNeutral, IsCanonicalTerms, IsCanonicalFix, IsCanonicalComp, IsCanonicalStep, IsCanonicalTy}
use Rattle.theory_canonical.specs.Canonical.{IsCanonicalTriple, IsCanonicalFormula, n_word, n_bool, n_loc, n_unit, n_pair, n_fst, n_snd, n_not, n_bin, n_eq}
use Rattle.theory_canonical.specs.Canonical.{n_sel, n_lam, n_lam_t, n_do, n_neutral, e_var, e_val, e_made, e_fix, e_app, e_inst, n_no_terms, n_more_terms}
use Rattle.theory_canonical.specs.Canonical.{n_param, n_body, n_ret, n_step, n_run, n_alloc, n_get, n_set, n_free, n_if, n_mono, n_fun, n_all, n_hoare}
use Rattle.theory_canonical.specs.Canonical.{n_triple, n_tt, n_ff, n_and, n_or, n_imp, n_all_t, n_ex_t, n_all_h, n_ex_h, n_emp, n_cell, n_block, n_join, n_same}
use Rattle.theory_canonical.specs.Canonical.{n_equal, n_rec}

pub record HasHeads (heads more : Heads) : Type 0 where
  pub vals : {n : ℕ} {s : Skeleton} → HasSkeleton heads.vals n s → HasSkeleton more.vals n s
  pub made : {n : ℕ} {s : Skeleton} → HasSkeleton heads.made n s → HasSkeleton more.made n s

head_stays : {xs : List Skeleton} (ys : List Skeleton) {n : ℕ} {s : Skeleton} → HasSkeleton xs n s → HasSkeleton (xs ++ ys) n s
head_stays ys first_head = first_head
head_stays ys (later_head d) = later_head (head_stays ys d)

pub has_more : (vals more made : List Skeleton) → HasHeads (record { vals = vals; made = made }) (record { vals = vals ++ more; made = made })
has_more vals more made = record { vals = λ d. head_stays more d; made = λ d. d }

module _ {heads more : Heads} (m : HasHeads heads more) where
  mutual
    pub term_more : {g : List Standing} {term : TermTree} {s : Skeleton} → IsCanonical heads g term s → IsCanonical more g term s
    term_more n_word = n_word
    term_more n_bool = n_bool
    term_more n_loc = n_loc
    term_more n_unit = n_unit
    term_more (n_pair d0 d1) = n_pair (term_more d0) (term_more d1)
    term_more (n_fst d0 d1) = n_fst (term_more d0) d1
    term_more (n_snd d0 d1) = n_snd (term_more d0) d1
    term_more (n_not d0 d1) = n_not (term_more d0) d1
    term_more (n_bin d0 d1 d2) = n_bin (term_more d0) (term_more d1) d2
    term_more (n_eq d0 d1 d2 d3) = n_eq d0 (term_more d1) (term_more d2) d3
    term_more (n_sel d0 d1 d2 d3 d4) = n_sel d0 (term_more d1) (term_more d2) (term_more d3) d4
    term_more (n_lam d0) = n_lam (term_more d0)
    term_more (n_lam_t d0) = n_lam_t (term_more d0)
    term_more (n_do d0) = n_do (comp_more d0)
    term_more (n_neutral d0) = n_neutral (neutral_more d0)

    neutral_more : {g : List Standing} {term : TermTree} {s : Skeleton} → IsNeutral heads g term s → IsNeutral more g term s
    neutral_more (e_var d0) = e_var d0
    neutral_more (e_val d0) = e_val (m.vals d0)
    neutral_more (e_made d0 d1) = e_made (m.made d0) (terms_more d1)
    neutral_more (e_fix d0) = e_fix (fix_more d0)
    neutral_more (e_app d0 d1) = e_app (neutral_more d0) (term_more d1)
    neutral_more (e_inst d0 d1) = e_inst (neutral_more d0) d1

    terms_more : {g : List Standing} {terms : TermTrees} → IsCanonicalTerms heads g terms → IsCanonicalTerms more g terms
    terms_more n_no_terms = n_no_terms
    terms_more (n_more_terms d0 d1) = n_more_terms (term_more d0) (terms_more d1)

    fix_more : {g : List Standing} {whole s : Skeleton} {fix : FixTree} → IsCanonicalFix heads g whole fix s → IsCanonicalFix more g whole fix s
    fix_more (n_param d0 d1 d2) = n_param (ty_more d0) d1 (fix_more d2)
    fix_more (n_body d0 d1) = n_body (triple_more d0) (comp_more d1)

    comp_more : {g : List Standing} {comp : CompTree} → IsCanonicalComp heads g comp → IsCanonicalComp more g comp
    comp_more (n_ret d0) = n_ret (term_more d0)
    comp_more (n_step d0 d1) = n_step (step_more d0) (comp_more d1)

    step_more : {g : List Standing} {step : StepTree} → IsCanonicalStep heads g step → IsCanonicalStep more g step
    step_more (n_run d0 d1) = n_run (neutral_more d0) d1
    step_more (n_alloc d0 d1) = n_alloc d0 (term_more d1)
    step_more (n_get d0 d1) = n_get d0 (term_more d1)
    step_more (n_set d0 d1 d2) = n_set d0 (term_more d1) (term_more d2)
    step_more (n_free d0 d1) = n_free d0 (term_more d1)
    step_more (n_if d0 d1 d2 d3) = n_if d0 (term_more d1) (comp_more d2) (comp_more d3)

    pub ty_more : {g : List Standing} {ty : TyTree} → IsCanonicalTy heads g ty → IsCanonicalTy more g ty
    ty_more (n_mono d0) = n_mono d0
    ty_more (n_fun d0 d1 d2) = n_fun (ty_more d0) d1 (ty_more d2)
    ty_more (n_all d0) = n_all (ty_more d0)
    ty_more (n_hoare d0) = n_hoare (triple_more d0)

    triple_more : {g : List Standing} {spec : TripleTree} → IsCanonicalTriple heads g spec → IsCanonicalTriple more g spec
    triple_more (n_triple d0 d1 d2) = n_triple (formula_more d0) d1 (formula_more d2)

    pub formula_more : {g : List Standing} {formula : FormulaTree} → IsCanonicalFormula heads g formula → IsCanonicalFormula more g formula
    formula_more n_tt = n_tt
    formula_more n_ff = n_ff
    formula_more (n_and d0 d1) = n_and (formula_more d0) (formula_more d1)
    formula_more (n_or d0 d1) = n_or (formula_more d0) (formula_more d1)
    formula_more (n_imp d0 d1) = n_imp (formula_more d0) (formula_more d1)
    formula_more (n_all_t d0 d1) = n_all_t d0 (formula_more d1)
    formula_more (n_ex_t d0 d1) = n_ex_t d0 (formula_more d1)
    formula_more (n_all_h d0) = n_all_h (formula_more d0)
    formula_more (n_ex_h d0) = n_ex_h (formula_more d0)
    formula_more (n_emp d0) = n_emp d0
    formula_more (n_cell d0 d1 d2 d3) = n_cell d0 d1 (term_more d2) (term_more d3)
    formula_more (n_block d0 d1 d2) = n_block d0 d1 (term_more d2)
    formula_more (n_join d0 d1 d2) = n_join d0 d1 d2
    formula_more (n_same d0 d1) = n_same d0 d1
    formula_more (n_equal d0 d1 d2) = n_equal d0 (term_more d1) (term_more d2)
    formula_more (n_rec d0 d1 d2) = n_rec d0 (term_more d1) (terms_more d2)
