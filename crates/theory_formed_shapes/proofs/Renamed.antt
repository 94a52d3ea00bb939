-- Renaming keeps trees formed: on formed trees it is the filling by variables.
use Rattle.std.proofs.Common.{◌≡◌, suc, List, ◌∷◌, Some, None, refl, ap, ◌∙◌, subst}
use Rattle.std.specs.Prelude.{option_map}
use Rattle.htt_syntax.specs.Trees.{MonoTree, TyTree, TripleTree, TermTree, FixTree, CompTree, StepTree, FormulaTree, TermTrees, y_mono, y_fun, y_all, y_hoare}
use Rattle.htt_syntax.specs.Trees.{triple, t_app, t_inst, t_lam, t_lam_t, t_do, t_fix, t_pair, t_fst, t_snd, t_not, t_bin, t_eq, t_sel, t_made, x_param, x_body}
use Rattle.htt_syntax.specs.Trees.{c_ret, c_step, s_run, s_alloc, s_get, s_set, s_free, s_if, f_and, f_or, f_imp, f_all_t, f_ex_t, f_all_h, f_ex_h, f_cell}
use Rattle.htt_syntax.specs.Trees.{f_block, f_eq, f_rec, more_terms}
use Rattle.theory_renaming.specs.Renaming.{Map, lift, rename_mono, rename_ty, rename_triple, rename_term, rename_fix, rename_comp, rename_step, rename_formula}
use Rattle.theory_renaming.specs.Renaming.{rename_terms}
use Rattle.theory_canonical.specs.Folding.{contractum, folding, or_itself}
use Rattle.theory_canonical.proofs.Renamed.{folded_renamed}
use Rattle.theory_substitution.specs.Monotypes.{Filling, next_filling, fill_mono, fill_ty, fill_triple, fill_term, fill_fix, fill_comp, fill_step, fill_formula}
use Rattle.theory_substitution.specs.Monotypes.{fill_terms}
use Rattle.theory_formed_shapes.specs.Shapes.{Shape, fill_shape, renaming_of, ShapeEntry, in_mono, in_term, Shapes, mono_further, heap_further, shape_there}
use Rattle.theory_formed_shapes.specs.Formed.{FileShapes, IsFormedTerm, z_word, z_bool, z_loc, z_unit, z_pair, z_fst, z_snd, z_not, z_bin, z_eq, z_sel, z_lam}
use Rattle.theory_formed_shapes.specs.Formed.{z_lam_t, z_do, z_neutral, IsFormedNeutral, w_var, w_val, w_made, w_fix, w_app, w_inst, IsFormedTerms, z_no_terms}
use Rattle.theory_formed_shapes.specs.Formed.{z_more_terms, IsFormedFix, z_param, z_body, IsFormedComp, z_ret, z_step, IsFormedStep, z_run, z_alloc, z_get}
use Rattle.theory_formed_shapes.specs.Formed.{z_set, z_free, z_if, IsFormedTy, z_mono, z_fun, z_all, z_hoare, IsFormedTriple, z_triple, IsFormedFormula, z_tt}
use Rattle.theory_formed_shapes.specs.Formed.{z_ff, z_and, z_or, z_imp, z_all_t, z_ex_t, z_all_h, z_ex_h, z_emp, z_cell, z_block, z_join, z_same, z_equal}
use Rattle.theory_formed_shapes.specs.Formed.{z_rec, IsClosedFile, z_m_var}
use Rattle.theory_formed_shapes.specs.Laws.{FillsFormed, RenamingKeepsFormed}
use Rattle.theory_formed_shapes.proofs.Fillings.{mono_renamed, next_renaming}
use Rattle.theory_formed_shapes.proofs.Filled as filling

-- what isn't folded stays so
stays : (m : Map) (M : TermTree) → contractum M ≡ None → folding (rename_term m M) ≡ rename_term m M
stays m M q = ap (λ o. or_itself o (rename_term m M)) (folded_renamed m M ∙ ap (option_map (rename_term m)) q)

next_three : (m : Map) → next_filling (next_filling (next_filling (renaming_of m))) ≡ renaming_of (lift (lift (lift m)))
next_three m = ap (λ (f : Filling). next_filling (next_filling f)) (next_renaming m) ∙ ap next_filling (next_renaming (lift m)) ∙ next_renaming (lift (lift m))

mutual
  unfolding fill_term rename_term

  pub term_same : {file : FileShapes} {g : Shapes} {M : TermTree} {s : Shape} (m : Map)
      → IsFormedTerm file g M s
      → fill_term (renaming_of m) m M ≡ rename_term m M
  term_same m (z_word l) = refl
  term_same m z_bool = refl
  term_same m (z_loc l) = refl
  term_same m z_unit = refl
  term_same m (z_pair d0 d1) = λ j. t_pair (term_same m d0 j) (term_same m d1 j)
  term_same m (z_fst {pair = pair} d0 q) = ap (λ (p : TermTree). folding (t_fst p)) (term_same m d0) ∙ stays m (t_fst pair) q
  term_same m (z_snd {pair = pair} d0 q) = ap (λ (p : TermTree). folding (t_snd p)) (term_same m d0) ∙ stays m (t_snd pair) q
  term_same m (z_not {term = term} d0 q) = ap (λ (p : TermTree). folding (t_not p)) (term_same m d0) ∙ stays m (t_not term) q
  term_same m (z_bin {op = op} {left = left} {right = right} d0 d1 q) =
      (λ j. folding (t_bin op (term_same m d0 j) (term_same m d1 j))) ∙ stays m (t_bin op left right) q
  term_same m (z_eq {t = t} {left = left} {right = right} p d0 d1 q) =
      (λ j. folding (t_eq (mono_renamed m t j) (term_same m d0 j) (term_same m d1 j))) ∙ stays m (t_eq t left right) q
  term_same m (z_sel {t = t} {test = test} {on_true = on_true} {on_false = on_false} d0 d1 d2 d3 q) =
      (λ j. folding (t_sel (mono_renamed m t j) (term_same m d1 j) (term_same m d2 j) (term_same m d3 j)))
      ∙ stays m (t_sel t test on_true on_false) q
  term_same m (z_lam {body = body} d0) = ap t_lam (ap (λ (f : Filling). fill_term f (lift m) body) (next_renaming m) ∙ term_same (lift m) d0)
  term_same m (z_lam_t {body = body} d0) = ap t_lam_t (ap (λ (f : Filling). fill_term f (lift m) body) (next_renaming m) ∙ term_same (lift m) d0)
  term_same m (z_do d0) = ap t_do (comp_same m d0)
  term_same m (z_neutral d0) = neutral_same m d0

  neutral_same : {file : FileShapes} {g : Shapes} {M : TermTree} {s : Shape} (m : Map)
      → IsFormedNeutral file g M s
      → fill_term (renaming_of m) m M ≡ rename_term m M
  neutral_same m (w_var d0) = refl
  neutral_same m (w_val d0) = refl
  neutral_same m (w_made {number = number} d0 d1) = ap (t_made number) (terms_same m d1)
  neutral_same m (w_fix {at = at} d0) = ap (t_fix at) (fix_same m d0)
  neutral_same m (w_app d0 d1) = λ j. t_app (neutral_same m d0 j) (term_same m d1 j)
  neutral_same m (w_inst {t = t} d0 d1) = λ j. t_inst (neutral_same m d0 j) (mono_renamed m t j)

  terms_same : {file : FileShapes} {g : Shapes} {Ms : TermTrees} {ts : List MonoTree} (m : Map)
      → IsFormedTerms file g Ms ts
      → fill_terms (renaming_of m) m Ms ≡ rename_terms m Ms
  terms_same m z_no_terms = refl
  terms_same m (z_more_terms d0 d1) = λ j. more_terms (term_same m d0 j) (terms_same m d1 j)

  fix_same : {file : FileShapes} {g : Shapes} {fix : FixTree} {whole s : Shape} (m : Map)
      → IsFormedFix file g whole fix s
      → fill_fix (renaming_of m) m fix ≡ rename_fix m fix
  fix_same m (z_param {others = others} d0 d1) =
      λ j. x_param (ty_same m d0 j) ((ap (λ (f : Filling). fill_fix f (lift m) others) (next_renaming m) ∙ fix_same (lift m) d1) j)
  fix_same m (z_body {comp = comp} d0 d1) =
      λ j. x_body (triple_same m d0 j) ((ap (λ (f : Filling). fill_comp f (lift m) comp) (next_renaming m) ∙ comp_same (lift m) d1) j)

  comp_same : {file : FileShapes} {g : Shapes} {E : CompTree} {t : MonoTree} (m : Map)
      → IsFormedComp file g E t
      → fill_comp (renaming_of m) m E ≡ rename_comp m E
  comp_same m (z_ret d0) = ap c_ret (term_same m d0)
  comp_same m (z_step {others = others} d0 d1) =
      λ j. c_step (step_same m d0 j) ((ap (λ (f : Filling). fill_comp f (lift m) others) (next_renaming m) ∙ comp_same (lift m) d1) j)

  step_same : {file : FileShapes} {g : Shapes} {step : StepTree} {t : MonoTree} (m : Map)
      → IsFormedStep file g step t
      → fill_step (renaming_of m) m step ≡ rename_step m step
  step_same m (z_run {t = t} d0 d1) = λ j. s_run (neutral_same m d0 j) (Some (mono_renamed m t j))
  step_same m (z_alloc {t = t} d0 d1) = λ j. s_alloc (mono_renamed m t j) (term_same m d1 j)
  step_same m (z_get {t = t} d0 d1) = λ j. s_get (mono_renamed m t j) (term_same m d1 j)
  step_same m (z_set {t = t} d0 d1 d2) = λ j. s_set (mono_renamed m t j) (term_same m d1 j) (term_same m d2 j)
  step_same m (z_free {t = t} d0 d1) = λ j. s_free (mono_renamed m t j) (term_same m d1 j)
  step_same m (z_if {t = t} d0 d1 d2 d3) = λ j. s_if (mono_renamed m t j) (term_same m d1 j) (comp_same m d2 j) (comp_same m d3 j)

  pub ty_same : {file : FileShapes} {g : Shapes} {A : TyTree} (m : Map) → IsFormedTy file g A → fill_ty (renaming_of m) m A ≡ rename_ty m A
  ty_same m (z_mono {t = t} d0) = ap y_mono (mono_renamed m t)
  ty_same m (z_fun {answer = answer} d0 d1) =
      λ j. y_fun (ty_same m d0 j) ((ap (λ (f : Filling). fill_ty f (lift m) answer) (next_renaming m) ∙ ty_same (lift m) d1) j)
  ty_same m (z_all {body = body} d0) = ap y_all (ap (λ (f : Filling). fill_ty f (lift m) body) (next_renaming m) ∙ ty_same (lift m) d0)
  ty_same m (z_hoare d0) = ap y_hoare (triple_same m d0)

  pub triple_same : {file : FileShapes} {g : Shapes} {spec : TripleTree} (m : Map)
      → IsFormedTriple file g spec
      → fill_triple (renaming_of m) m spec ≡ rename_triple m spec
  triple_same m (z_triple {pre = pre} {post = post} {t = t} d0 d1 d2) =
      λ j.
      triple ((ap (λ (f : Filling). fill_formula f (lift m) pre) (next_renaming m) ∙ formula_same (lift m) d0) j) (mono_renamed m t j)
      ((ap (λ (f : Filling). fill_formula f (lift (lift (lift m))) post) (next_three m) ∙ formula_same (lift (lift (lift m))) d2) j)

  pub formula_same : {file : FileShapes} {g : Shapes} {F : FormulaTree} (m : Map)
      → IsFormedFormula file g F
      → fill_formula (renaming_of m) m F ≡ rename_formula m F
  formula_same m z_tt = refl
  formula_same m z_ff = refl
  formula_same m (z_and d0 d1) = λ j. f_and (formula_same m d0 j) (formula_same m d1 j)
  formula_same m (z_or d0 d1) = λ j. f_or (formula_same m d0 j) (formula_same m d1 j)
  formula_same m (z_imp d0 d1) = λ j. f_imp (formula_same m d0 j) (formula_same m d1 j)
  formula_same m (z_all_t {t = t} {body = body} d0 d1) = λ j.
      f_all_t (mono_renamed m t j) ((ap (λ (f : Filling). fill_formula f (lift m) body) (next_renaming m) ∙ formula_same (lift m) d1) j)
  formula_same m (z_ex_t {t = t} {body = body} d0 d1) =
      λ j. f_ex_t (mono_renamed m t j) ((ap (λ (f : Filling). fill_formula f (lift m) body) (next_renaming m) ∙ formula_same (lift m) d1) j)
  formula_same m (z_all_h {body = body} d0) = ap f_all_h (ap (λ (f : Filling). fill_formula f (lift m) body) (next_renaming m) ∙ formula_same (lift m) d0)
  formula_same m (z_ex_h {body = body} d0) = ap f_ex_h (ap (λ (f : Filling). fill_formula f (lift m) body) (next_renaming m) ∙ formula_same (lift m) d0)
  formula_same m (z_emp d0) = refl
  formula_same m (z_cell {t = t} {heap = heap} d0 d1 d2 d3) = λ j. f_cell (mono_renamed m t j) (m heap) (term_same m d2 j) (term_same m d3 j)
  formula_same m (z_block {t = t} {heap = heap} d0 d1 d2) = λ j. f_block (mono_renamed m t j) (m heap) (term_same m d2 j)
  formula_same m (z_join d0 d1 d2) = refl
  formula_same m (z_same d0 d1) = refl
  formula_same m (z_equal {t = t} d0 d1 d2) = λ j. f_eq (mono_renamed m t j) (term_same m d1 j) (term_same m d2 j)
  formula_same m (z_rec {number = number} {heap = heap} q d0 d1 d2) = λ j. f_rec number (m heap) (term_same m d1 j) (terms_same m d2 j)

-- a map that gives for each variable one of its sort and shape
pub term_renamed : {file : FileShapes} {m : Map} {g h : Shapes} {M : TermTree} {s : Shape}
    → IsFormedTerm file g M s
    → IsClosedFile file
    → FillsFormed (renaming_of m) m g h
    → IsFormedTerm file h (rename_term m M) (fill_shape (renaming_of m) s)
term_renamed {file = file} {m = m} {h = h} {s = s} d c k =
    subst (λ (N : TermTree). IsFormedTerm file h N (fill_shape (renaming_of m) s)) (term_same m d) (filling.term_filled d c k)

pub neutral_renamed : {file : FileShapes} {m : Map} {g h : Shapes} {M : TermTree} {s : Shape}
    → IsFormedNeutral file g M s
    → IsClosedFile file
    → FillsFormed (renaming_of m) m g h
    → IsFormedNeutral file h (rename_term m M) (fill_shape (renaming_of m) s)
neutral_renamed {file = file} {m = m} {h = h} {s = s} d c k =
    subst (λ (N : TermTree). IsFormedNeutral file h N (fill_shape (renaming_of m) s)) (neutral_same m d) (filling.neutral_filled d c k)

pub comp_renamed : {file : FileShapes} {m : Map} {g h : Shapes} {E : CompTree} {t : MonoTree}
    → IsFormedComp file g E t
    → IsClosedFile file
    → FillsFormed (renaming_of m) m g h
    → IsFormedComp file h (rename_comp m E) (rename_mono m t)
comp_renamed {file = file} {m = m} {h = h} {E = E} {t = t} d c k =
    subst (λ (a : MonoTree). IsFormedComp file h (rename_comp m E) a) (mono_renamed m t)
    (subst (λ (N : CompTree). IsFormedComp file h N (fill_mono (renaming_of m) t)) (comp_same m d) (filling.comp_filled d c k))

pub ty_renamed : {file : FileShapes} {m : Map} {g h : Shapes} {A : TyTree}
    → IsFormedTy file g A
    → IsClosedFile file
    → FillsFormed (renaming_of m) m g h
    → IsFormedTy file h (rename_ty m A)
ty_renamed {file = file} {m = m} {h = h} d c k = subst (IsFormedTy file h) (ty_same m d) (filling.ty_filled d c k)

pub triple_renamed : {file : FileShapes} {m : Map} {g h : Shapes} {spec : TripleTree}
    → IsFormedTriple file g spec
    → IsClosedFile file
    → FillsFormed (renaming_of m) m g h
    → IsFormedTriple file h (rename_triple m spec)
triple_renamed {file = file} {m = m} {h = h} d c k = subst (IsFormedTriple file h) (triple_same m d) (filling.triple_filled d c k)

pub formula_renamed : {file : FileShapes} {m : Map} {g h : Shapes} {F : FormulaTree}
    → IsFormedFormula file g F
    → IsClosedFile file
    → FillsFormed (renaming_of m) m g h
    → IsFormedFormula file h (rename_formula m F)
formula_renamed {file = file} {m = m} {h = h} d c k = subst (IsFormedFormula file h) (formula_same m d) (filling.formula_filled d c k)

-- past one more entry, and under one
pub fills_suc : (entry : ShapeEntry) (g : Shapes) → FillsFormed (renaming_of suc) suc g (entry ∷ g)
fills_suc entry g = record { monos = λ n d. z_m_var (mono_further d); heaps = λ n d. heap_further d; terms = λ n s d. shape_there d }

pub fills_lift : {m : Map} {g h : Shapes} (a : Shape)
    → FillsFormed (renaming_of m) m g h
    → FillsFormed (renaming_of (lift m)) (lift m) (in_term a ∷ g) (in_term (fill_shape (renaming_of m) a) ∷ h)
fills_lift {m = m} {g = g} {h = h} a k =
    subst (λ (f : Filling). FillsFormed f (lift m) (in_term a ∷ g) (in_term (fill_shape (renaming_of m) a) ∷ h)) (next_renaming m)
    (filling.next_term a k)

pub fills_lift_mono : {m : Map} {g h : Shapes} → FillsFormed (renaming_of m) m g h → FillsFormed (renaming_of (lift m)) (lift m) (in_mono ∷ g) (in_mono ∷ h)
fills_lift_mono {m = m} {g = g} {h = h} k = subst (λ (f : Filling). FillsFormed f (lift m) (in_mono ∷ g) (in_mono ∷ h)) (next_renaming m) (filling.next_mono k)

pub renaming_formed : RenamingKeepsFormed
renaming_formed = record {
  terms = λ file c m g h k M s d. term_renamed d c k;
  types = λ file c m g h k A d. ty_renamed d c k;
  formulas = λ file c m g h k F d. formula_renamed d c k;
}
