-- A tree that is formed is so with more values and predicates in the file.
use Rattle.std.proofs.Common.{◌≡◌, ℕ, List, Some}
use Rattle.std.specs.Prelude.{slice_get}
use Rattle.htt_syntax.specs.Trees.{MonoTree, TyTree, TripleTree, TermTree, FixTree, CompTree, StepTree, FormulaTree, TermTrees}
use Rattle.theory_formed_shapes.specs.Shapes.{Shape, Shapes}
use Rattle.theory_formed_shapes.specs.Formed.{MadeShape, FileShapes, IsFormedTerm, IsFormedNeutral, IsFormedTerms, IsFormedFix, IsFormedComp, IsFormedStep}
use Rattle.theory_formed_shapes.specs.Formed.{IsFormedTy, IsFormedTriple, IsFormedFormula, w_app, w_fix, w_inst, w_made, w_val, w_var, z_all, z_all_h, z_all_t}
use Rattle.theory_formed_shapes.specs.Formed.{z_alloc, z_and, z_bin, z_block, z_body, z_bool, z_cell, z_do, z_emp, z_eq, z_equal, z_ex_h, z_ex_t, z_ff, z_free}
use Rattle.theory_formed_shapes.specs.Formed.{z_fst, z_fun, z_get, z_hoare, z_if, z_imp, z_join, z_lam, z_lam_t, z_loc, z_mono, z_more_terms, z_neutral}
use Rattle.theory_formed_shapes.specs.Formed.{z_no_terms, z_not, z_or, z_pair, z_param, z_rec, z_ret, z_run, z_same, z_sel, z_set, z_snd, z_step, z_triple}
use Rattle.theory_formed_shapes.specs.Formed.{z_tt, z_unit, z_word}

-- The second file says what the first one does, and perhaps more.
pub record HasFile (file more : FileShapes) : Type 0 where
  pub vals : (number : ℕ) (s : Shape) → slice_get file.vals number ≡ Some s → slice_get more.vals number ≡ Some s
  pub made : (number : ℕ) (m : MadeShape) → slice_get file.made number ≡ Some m → slice_get more.made number ≡ Some m
  pub recs : (number : ℕ) (ts : List MonoTree) → slice_get file.recs number ≡ Some ts → slice_get more.recs number ≡ Some ts

module _ {file more : FileShapes} (k : HasFile file more) where
  mutual
    pub term_more : {g : Shapes} {M : TermTree} {s : Shape} → IsFormedTerm file g M s → IsFormedTerm more g M s
    term_more (z_word d0) = z_word d0
    term_more z_bool = z_bool
    term_more (z_loc d0) = z_loc d0
    term_more z_unit = z_unit
    term_more (z_pair d0 d1) = z_pair (term_more d0) (term_more d1)
    term_more (z_fst d0 d1) = z_fst (term_more d0) d1
    term_more (z_snd d0 d1) = z_snd (term_more d0) d1
    term_more (z_not d0 d1) = z_not (term_more d0) d1
    term_more (z_bin d0 d1 d2) = z_bin (term_more d0) (term_more d1) d2
    term_more (z_eq d0 d1 d2 d3) = z_eq d0 (term_more d1) (term_more d2) d3
    term_more (z_sel d0 d1 d2 d3 d4) = z_sel d0 (term_more d1) (term_more d2) (term_more d3) d4
    term_more (z_lam d0) = z_lam (term_more d0)
    term_more (z_lam_t d0) = z_lam_t (term_more d0)
    term_more (z_do d0) = z_do (comp_more d0)
    term_more (z_neutral d0) = z_neutral (neutral_more d0)

    pub neutral_more : {g : Shapes} {M : TermTree} {s : Shape} → IsFormedNeutral file g M s → IsFormedNeutral more g M s
    neutral_more (w_var d0) = w_var d0
    neutral_more (w_val {number = number} {s = s} d0) = w_val (k.vals number s d0)
    neutral_more (w_made {number = number} {m = m} d0 d1) = w_made (k.made number m d0) (terms_more d1)
    neutral_more (w_fix d0) = w_fix (fix_more d0)
    neutral_more (w_app d0 d1) = w_app (neutral_more d0) (term_more d1)
    neutral_more (w_inst d0 d1) = w_inst (neutral_more d0) d1

    pub terms_more : {g : Shapes} {Ms : TermTrees} {ts : List MonoTree} → IsFormedTerms file g Ms ts → IsFormedTerms more g Ms ts
    terms_more z_no_terms = z_no_terms
    terms_more (z_more_terms d0 d1) = z_more_terms (term_more d0) (terms_more d1)

    pub fix_more : {g : Shapes} {whole s : Shape} {fix : FixTree} → IsFormedFix file g whole fix s → IsFormedFix more g whole fix s
    fix_more (z_param d0 d1) = z_param (ty_more d0) (fix_more d1)
    fix_more (z_body d0 d1) = z_body (triple_more d0) (comp_more d1)

    pub comp_more : {g : Shapes} {E : CompTree} {t : MonoTree} → IsFormedComp file g E t → IsFormedComp more g E t
    comp_more (z_ret d0) = z_ret (term_more d0)
    comp_more (z_step d0 d1) = z_step (step_more d0) (comp_more d1)

    pub step_more : {g : Shapes} {step : StepTree} {t : MonoTree} → IsFormedStep file g step t → IsFormedStep more g step t
    step_more (z_run d0 d1) = z_run (neutral_more d0) d1
    step_more (z_alloc d0 d1) = z_alloc d0 (term_more d1)
    step_more (z_get d0 d1) = z_get d0 (term_more d1)
    step_more (z_set d0 d1 d2) = z_set d0 (term_more d1) (term_more d2)
    step_more (z_free d0 d1) = z_free d0 (term_more d1)
    step_more (z_if d0 d1 d2 d3) = z_if d0 (term_more d1) (comp_more d2) (comp_more d3)

    pub ty_more : {g : Shapes} {A : TyTree} → IsFormedTy file g A → IsFormedTy more g A
    ty_more (z_mono d0) = z_mono d0
    ty_more (z_fun d0 d1) = z_fun (ty_more d0) (ty_more d1)
    ty_more (z_all d0) = z_all (ty_more d0)
    ty_more (z_hoare d0) = z_hoare (triple_more d0)

    pub triple_more : {g : Shapes} {spec : TripleTree} → IsFormedTriple file g spec → IsFormedTriple more g spec
    triple_more (z_triple d0 d1 d2) = z_triple (formula_more d0) d1 (formula_more d2)

    pub formula_more : {g : Shapes} {F : FormulaTree} → IsFormedFormula file g F → IsFormedFormula more g F
    formula_more z_tt = z_tt
    formula_more z_ff = z_ff
    formula_more (z_and d0 d1) = z_and (formula_more d0) (formula_more d1)
    formula_more (z_or d0 d1) = z_or (formula_more d0) (formula_more d1)
    formula_more (z_imp d0 d1) = z_imp (formula_more d0) (formula_more d1)
    formula_more (z_all_t d0 d1) = z_all_t d0 (formula_more d1)
    formula_more (z_ex_t d0 d1) = z_ex_t d0 (formula_more d1)
    formula_more (z_all_h d0) = z_all_h (formula_more d0)
    formula_more (z_ex_h d0) = z_ex_h (formula_more d0)
    formula_more (z_emp d0) = z_emp d0
    formula_more (z_cell d0 d1 d2 d3) = z_cell d0 d1 (term_more d2) (term_more d3)
    formula_more (z_block d0 d1 d2) = z_block d0 d1 (term_more d2)
    formula_more (z_join d0 d1 d2) = z_join d0 d1 d2
    formula_more (z_same d0 d1) = z_same d0 d1
    formula_more (z_equal d0 d1 d2) = z_equal d0 (term_more d1) (term_more d2)
    formula_more (z_rec {number = number} {ts = ts} d0 d1 d2 d3) = z_rec (k.recs number ts d0) d1 (term_more d2) (terms_more d3)
