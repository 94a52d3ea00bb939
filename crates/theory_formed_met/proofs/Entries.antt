-- Each variable that occurs in a formed tree is a term of its context.
use Rattle.std.proofs.Common.{ℕ, zero, suc, List, [], ◌∷◌, ◌++◌, All, Option, Some, None}
use Rattle.std.proofs.lemmas.List.Elements.{All-nil, All-cons}
use Rattle.htt_syntax.specs.Trees.{MonoTree, TyTree, TripleTree, TermTree, FixTree, CompTree, StepTree, FormulaTree, TermTrees}
use Rattle.theory_formed_shapes.specs.Shapes.{Shape, ShapeEntry, Shapes, HasShape, shape_there}
use Rattle.theory_formed_shapes.specs.Formed.{FileShapes, IsFormedTerm, z_word, z_bool}
use Rattle.theory_formed_shapes.specs.Formed.{z_loc, z_unit, z_pair, z_fst, z_snd, z_not, z_bin, z_eq, z_sel, z_lam, z_lam_t, z_do, z_neutral, IsFormedNeutral}
use Rattle.theory_formed_shapes.specs.Formed.{w_var, w_val, w_made, w_fix, w_app, w_inst, IsFormedTerms, z_no_terms, z_more_terms, IsFormedFix, z_param, z_body}
use Rattle.theory_formed_shapes.specs.Formed.{IsFormedComp, z_ret, z_step, IsFormedStep, z_run, z_alloc, z_get, z_set, z_free, z_if, IsFormedTy, z_mono, z_fun}
use Rattle.theory_formed_shapes.specs.Formed.{z_all, z_hoare, IsFormedTriple, z_triple, IsFormedFormula, z_tt, z_ff, z_and, z_or, z_imp, z_all_t, z_ex_t}
use Rattle.theory_formed_shapes.specs.Formed.{z_all_h, z_ex_h, z_emp, z_cell, z_block, z_join, z_same, z_equal, z_rec}
use Rattle.theory_instances.specs.Calls.{Argument, of_term, of_mono}
use Rattle.theory_instances.specs.Occurrences.{Occurrence, outside, met, met_in_term, met_in_terms, met_in_fix, met_in_comp, met_in_step, met_in_ty}
use Rattle.theory_instances.specs.Occurrences.{met_in_triple, met_in_formula}
use Rattle.theory_formed_met.specs.Laws.{HasEntry, WhatOccursHasAnEntry}
use Rattle.theory_formed_met.proofs.Occurring.{EachMet, Known}

pub joined : (P : ℕ → Type 0) (xs ys : List Occurrence) → EachMet P xs → EachMet P ys → EachMet P (xs ++ ys)
joined P [] ys a b = b
joined P (x ∷ xs) ys a b = (a.0, joined P xs ys (a.1) b)

met_known : (P : ℕ → Type 0) (d : ℕ) (pending : List Argument) (o : Option ℕ) → Known P o → EachMet P (met d pending o)
met_known P d pending None a = tt
met_known P d pending (Some n) a = (a, tt)

-- what holds of each term of the context that isn't bound by the d binders inside
record Entered (P : ℕ → Type 0) (d : ℕ) (g : Shapes) : Type 0 where
  at : (n : ℕ) (s : Shape) → HasShape g n s → Known P (outside d n)

under : {P : ℕ → Type 0} {d : ℕ} {g : Shapes} {entry : ShapeEntry} → Entered P d g → Entered P (suc d) (entry ∷ g)
under {P = P} {d = depth} {g = g} {entry = entry} k = record { at = λ n s d. go n entry s d }
  where
    go : (n : ℕ) (e : ShapeEntry) (s : Shape) → HasShape (e ∷ g) n s → Known P (outside (suc depth) n)
    go zero e s d = tt
    go (suc n) e _ (shape_there {shape = s} d) = k.at n s d

module _ {P : ℕ → Type 0} {file : FileShapes} where
  mutual
    unfolding met_in_term

    term_entries : {d : ℕ} {g : Shapes} {M : TermTree} {s : Shape} (pending : List Argument)
        → IsFormedTerm file g M s
        → Entered P d g
        → EachMet P (met_in_term d pending M)
    term_entries pending (z_word l) k = tt
    term_entries pending z_bool k = tt
    term_entries pending (z_loc l) k = tt
    term_entries pending z_unit k = tt
    term_entries pending (z_pair d0 d1) k = joined P _ _ (term_entries [] d0 k) (term_entries [] d1 k)
    term_entries pending (z_fst d0 q) k = term_entries [] d0 k
    term_entries pending (z_snd d0 q) k = term_entries [] d0 k
    term_entries pending (z_not d0 q) k = term_entries [] d0 k
    term_entries pending (z_bin d0 d1 q) k = joined P _ _ (term_entries [] d0 k) (term_entries [] d1 k)
    term_entries pending (z_eq p d0 d1 q) k = joined P _ _ (term_entries [] d0 k) (term_entries [] d1 k)
    term_entries pending (z_sel d0 d1 d2 d3 q) k =
        joined P _ _ (term_entries [] d1 k) (joined P _ _ (term_entries [] d2 k) (term_entries [] d3 k))
    term_entries pending (z_lam d0) k = term_entries [] d0 (under k)
    term_entries pending (z_lam_t d0) k = term_entries [] d0 (under k)
    term_entries pending (z_do d0) k = comp_entries d0 k
    term_entries pending (z_neutral d0) k = head_entries pending d0 k

    head_entries : {d : ℕ} {g : Shapes} {M : TermTree} {s : Shape} (pending : List Argument)
        → IsFormedNeutral file g M s
        → Entered P d g
        → EachMet P (met_in_term d pending M)
    head_entries {d = d} pending (w_var {index = index} {s = s} d0) k = met_known P d pending (outside d index) (k.at index s d0)
    head_entries pending (w_val d0) k = tt
    head_entries pending (w_made d0 d1) k = terms_entries d1 k
    head_entries pending (w_fix d0) k = fix_entries d0 k
    head_entries pending (w_app {argument = argument} d0 d1) k =
        joined P _ _ (head_entries (of_term argument ∷ pending) d0 k) (term_entries [] d1 k)
    head_entries pending (w_inst {t = t} d0 d1) k = head_entries (of_mono t ∷ pending) d0 k

    terms_entries : {d : ℕ} {g : Shapes} {Ms : TermTrees} {ts : List MonoTree}
        → IsFormedTerms file g Ms ts
        → Entered P d g
        → EachMet P (met_in_terms d Ms)
    terms_entries z_no_terms k = tt
    terms_entries (z_more_terms d0 d1) k = joined P _ _ (term_entries [] d0 k) (terms_entries d1 k)

    fix_entries : {d : ℕ} {g : Shapes} {fix : FixTree} {whole s : Shape}
        → IsFormedFix file g whole fix s
        → Entered P d g
        → EachMet P (met_in_fix d fix)
    fix_entries (z_param d0 d1) k = joined P _ _ (ty_entries d0 k) (fix_entries d1 (under k))
    fix_entries (z_body d0 d1) k = joined P _ _ (triple_entries d0 k) (comp_entries d1 (under k))

    comp_entries : {d : ℕ} {g : Shapes} {E : CompTree} {t : MonoTree}
        → IsFormedComp file g E t
        → Entered P d g
        → EachMet P (met_in_comp d E)
    comp_entries (z_ret d0) k = term_entries [] d0 k
    comp_entries (z_step d0 d1) k = joined P _ _ (step_entries d0 k) (comp_entries d1 (under k))

    step_entries : {d : ℕ} {g : Shapes} {step : StepTree} {t : MonoTree}
        → IsFormedStep file g step t
        → Entered P d g
        → EachMet P (met_in_step d step)
    step_entries (z_run d0 d1) k = head_entries [] d0 k
    step_entries (z_alloc d0 d1) k = term_entries [] d1 k
    step_entries (z_get d0 d1) k = term_entries [] d1 k
    step_entries (z_set d0 d1 d2) k = joined P _ _ (term_entries [] d1 k) (term_entries [] d2 k)
    step_entries (z_free d0 d1) k = term_entries [] d1 k
    step_entries (z_if d0 d1 d2 d3) k = joined P _ _ (term_entries [] d1 k) (joined P _ _ (comp_entries d2 k) (comp_entries d3 k))

    ty_entries : {d : ℕ} {g : Shapes} {A : TyTree} → IsFormedTy file g A → Entered P d g → EachMet P (met_in_ty d A)
    ty_entries (z_mono d0) k = tt
    ty_entries (z_fun d0 d1) k = joined P _ _ (ty_entries d0 k) (ty_entries d1 (under k))
    ty_entries (z_all d0) k = ty_entries d0 (under k)
    ty_entries (z_hoare d0) k = triple_entries d0 k

    triple_entries : {d : ℕ} {g : Shapes} {spec : TripleTree}
        → IsFormedTriple file g spec
        → Entered P d g
        → EachMet P (met_in_triple d spec)
    triple_entries (z_triple d0 d1 d2) k =
        joined P _ _ (formula_entries d0 (under k)) (formula_entries d2 (under (under (under k))))

    formula_entries : {d : ℕ} {g : Shapes} {F : FormulaTree}
        → IsFormedFormula file g F
        → Entered P d g
        → EachMet P (met_in_formula d F)
    formula_entries z_tt k = tt
    formula_entries z_ff k = tt
    formula_entries (z_and d0 d1) k = joined P _ _ (formula_entries d0 k) (formula_entries d1 k)
    formula_entries (z_or d0 d1) k = joined P _ _ (formula_entries d0 k) (formula_entries d1 k)
    formula_entries (z_imp d0 d1) k = joined P _ _ (formula_entries d0 k) (formula_entries d1 k)
    formula_entries (z_all_t d0 d1) k = formula_entries d1 (under k)
    formula_entries (z_ex_t d0 d1) k = formula_entries d1 (under k)
    formula_entries (z_all_h d0) k = formula_entries d0 (under k)
    formula_entries (z_ex_h d0) k = formula_entries d0 (under k)
    formula_entries (z_emp d0) k = tt
    formula_entries (z_cell d0 d1 d2 d3) k = joined P _ _ (term_entries [] d2 k) (term_entries [] d3 k)
    formula_entries (z_block d0 d1 d2) k = term_entries [] d2 k
    formula_entries (z_join d0 d1 d2) k = tt
    formula_entries (z_same d0 d1) k = tt
    formula_entries (z_equal d0 d1 d2) k = joined P _ _ (term_entries [] d1 k) (term_entries [] d2 k)
    formula_entries (z_rec q d0 d1 d2) k = joined P _ _ (term_entries [] d1 k) (terms_entries d2 k)

outermost : {g : Shapes} → Entered (HasEntry g) zero g
outermost = record { at = λ n s d. (s, d) }

pub term_has_entries : {file : FileShapes} {g : Shapes} {M : TermTree} {s : Shape}
    → IsFormedTerm file g M s
    → EachMet (HasEntry g) (met_in_term zero [] M)
term_has_entries d = term_entries [] d outermost

pub head_has_entries : {file : FileShapes} {g : Shapes} {M : TermTree} {s : Shape}
    → IsFormedNeutral file g M s
    → EachMet (HasEntry g) (met_in_term zero [] M)
head_has_entries d = head_entries [] d outermost

all_of_each : (P : ℕ → Type 0) (xs : List Occurrence) → EachMet P xs → All (λ (o : Occurrence). P o.variable) xs
all_of_each P [] e = All-nil (λ (o : Occurrence). P o.variable)
all_of_each P (o ∷ xs) e = All-cons (λ (o : Occurrence). P o.variable) o xs (e.0) (all_of_each P xs (e.1))

pub entries : WhatOccursHasAnEntry
entries = record {
  terms = λ file g M s d. all_of_each (HasEntry g) (met_in_term zero [] M) (term_has_entries d);
  heads = λ file g M s d. all_of_each (HasEntry g) (met_in_term zero [] M) (head_has_entries d);
}
