-- Leaving positions out, and renaming, in either order.
use Rattle.std.specs.Prelude.{◌≡◌, option_map}
use Rattle.std.proofs.Common.{refl}
use Rattle.htt_syntax.specs.Trees.{TyTree, TripleTree, TermTree, FixTree, CompTree, StepTree, FormulaTree, TermTrees, y_mono, y_fun, y_all, y_hoare, y_at}
use Rattle.htt_syntax.specs.Trees.{triple, t_var, t_val, t_def, t_app, t_inst, t_lam, t_lam_t, t_do, t_fix, t_word, t_bool, t_loc, t_unit, t_pair, t_fst, t_snd}
use Rattle.htt_syntax.specs.Trees.{t_not, t_bin, t_eq, t_sel, t_ann, t_made, t_at, x_param, x_body, c_ret, c_step, s_run, s_alloc, s_get, s_set, s_free, s_if}
use Rattle.htt_syntax.specs.Trees.{s_claim, f_tt, f_ff, f_and, f_or, f_imp, f_all_t, f_ex_t, f_all_h, f_ex_h, f_emp, f_cell, f_block, f_join, f_same, f_eq}
use Rattle.htt_syntax.specs.Trees.{f_at, f_rec, no_terms, more_terms}
use Rattle.theory_renaming.specs.Renaming.{Map, lift, rename_mono, rename_ty, rename_triple, rename_term, rename_fix, rename_comp, rename_step, rename_formula}
use Rattle.theory_renaming.specs.Renaming.{rename_terms}
use Rattle.theory_typing.specs.Positions.{plain_ty, plain_triple, plain_term, plain_fix, plain_comp, plain_step, plain_formula, plain_terms}

mutual
  unfolding rename_term plain_term

  pub ty_renamed : (m : Map) (t : TyTree) → plain_ty (rename_ty m t) ≡ rename_ty m (plain_ty t)
  ty_renamed m (y_mono mono) = refl
  ty_renamed m (y_fun argument answer) = λ j. y_fun (ty_renamed m argument j) (ty_renamed (lift m) answer j)
  ty_renamed m (y_all body) = λ j. y_all (ty_renamed (lift m) body j)
  ty_renamed m (y_hoare spec) = λ j. y_hoare (triple_renamed m spec j)
  ty_renamed m (y_at at ty) = ty_renamed m ty

  pub triple_renamed : (m : Map) (t : TripleTree) → plain_triple (rename_triple m t) ≡ rename_triple m (plain_triple t)
  triple_renamed m (triple pre mono post) = λ j. triple (formula_renamed (lift m) pre j) (rename_mono m mono) (formula_renamed (lift (lift (lift m))) post j)

  pub term_renamed : (m : Map) (t : TermTree) → plain_term (rename_term m t) ≡ rename_term m (plain_term t)
  term_renamed m (t_var index) = refl
  term_renamed m (t_val number) = refl
  term_renamed m (t_def number) = refl
  term_renamed m (t_app function argument) = λ j. t_app (term_renamed m function j) (term_renamed m argument j)
  term_renamed m (t_inst function mono) = λ j. t_inst (term_renamed m function j) (rename_mono m mono)
  term_renamed m (t_lam body) = λ j. t_lam (term_renamed (lift m) body j)
  term_renamed m (t_lam_t body) = λ j. t_lam_t (term_renamed (lift m) body j)
  term_renamed m (t_do comp) = λ j. t_do (comp_renamed m comp j)
  term_renamed m (t_fix at fix) = λ j. t_fix 0 (fix_renamed m fix j)
  term_renamed m (t_word word) = refl
  term_renamed m (t_bool truth) = refl
  term_renamed m (t_loc place) = refl
  term_renamed m t_unit = refl
  term_renamed m (t_pair left right) = λ j. t_pair (term_renamed m left j) (term_renamed m right j)
  term_renamed m (t_fst pair) = λ j. t_fst (term_renamed m pair j)
  term_renamed m (t_snd pair) = λ j. t_snd (term_renamed m pair j)
  term_renamed m (t_not term) = λ j. t_not (term_renamed m term j)
  term_renamed m (t_bin op left right) = λ j. t_bin op (term_renamed m left j) (term_renamed m right j)
  term_renamed m (t_eq mono left right) = λ j. t_eq (rename_mono m mono) (term_renamed m left j) (term_renamed m right j)
  term_renamed m (t_sel mono test on_true on_false) =
      λ j. t_sel (rename_mono m mono) (term_renamed m test j) (term_renamed m on_true j) (term_renamed m on_false j)
  term_renamed m (t_ann term ty) = λ j. t_ann (term_renamed m term j) (ty_renamed m ty j)
  term_renamed m (t_made number values) = λ j. t_made number (terms_renamed m values j)
  term_renamed m (t_at at term) = term_renamed m term

  pub fix_renamed : (m : Map) (t : FixTree) → plain_fix (rename_fix m t) ≡ rename_fix m (plain_fix t)
  fix_renamed m (x_param ty others) = λ j. x_param (ty_renamed m ty j) (fix_renamed (lift m) others j)
  fix_renamed m (x_body spec comp) = λ j. x_body (triple_renamed m spec j) (comp_renamed (lift m) comp j)

  pub comp_renamed : (m : Map) (t : CompTree) → plain_comp (rename_comp m t) ≡ rename_comp m (plain_comp t)
  comp_renamed m (c_ret term) = λ j. c_ret (term_renamed m term j)
  comp_renamed m (c_step step others) = λ j. c_step (step_renamed m step j) (comp_renamed (lift m) others j)

  pub step_renamed : (m : Map) (t : StepTree) → plain_step (rename_step m t) ≡ rename_step m (plain_step t)
  step_renamed m (s_run term mono) = λ j. s_run (term_renamed m term j) (option_map (rename_mono m) mono)
  step_renamed m (s_alloc mono value) = λ j. s_alloc (rename_mono m mono) (term_renamed m value j)
  step_renamed m (s_get mono place) = λ j. s_get (rename_mono m mono) (term_renamed m place j)
  step_renamed m (s_set mono place value) = λ j. s_set (rename_mono m mono) (term_renamed m place j) (term_renamed m value j)
  step_renamed m (s_free mono place) = λ j. s_free (rename_mono m mono) (term_renamed m place j)
  step_renamed m (s_if mono test on_true on_false) =
      λ j. s_if (rename_mono m mono) (term_renamed m test j) (comp_renamed m on_true j) (comp_renamed m on_false j)
  step_renamed m (s_claim formula) = λ j. s_claim (formula_renamed (lift (lift m)) formula j)

  pub formula_renamed : (m : Map) (t : FormulaTree) → plain_formula (rename_formula m t) ≡ rename_formula m (plain_formula t)
  formula_renamed m f_tt = refl
  formula_renamed m f_ff = refl
  formula_renamed m (f_and left right) = λ j. f_and (formula_renamed m left j) (formula_renamed m right j)
  formula_renamed m (f_or left right) = λ j. f_or (formula_renamed m left j) (formula_renamed m right j)
  formula_renamed m (f_imp left right) = λ j. f_imp (formula_renamed m left j) (formula_renamed m right j)
  formula_renamed m (f_all_t mono body) = λ j. f_all_t (rename_mono m mono) (formula_renamed (lift m) body j)
  formula_renamed m (f_ex_t mono body) = λ j. f_ex_t (rename_mono m mono) (formula_renamed (lift m) body j)
  formula_renamed m (f_all_h body) = λ j. f_all_h (formula_renamed (lift m) body j)
  formula_renamed m (f_ex_h body) = λ j. f_ex_h (formula_renamed (lift m) body j)
  formula_renamed m (f_emp heap) = refl
  formula_renamed m (f_cell mono heap place value) = λ j. f_cell (rename_mono m mono) (m heap) (term_renamed m place j) (term_renamed m value j)
  formula_renamed m (f_block mono heap place) = λ j. f_block (rename_mono m mono) (m heap) (term_renamed m place j)
  formula_renamed m (f_join whole left right) = refl
  formula_renamed m (f_same left right) = refl
  formula_renamed m (f_eq mono left right) = λ j. f_eq (rename_mono m mono) (term_renamed m left j) (term_renamed m right j)
  formula_renamed m (f_at at formula) = formula_renamed m formula
  formula_renamed m (f_rec number heap place arguments) = λ j. f_rec number (m heap) (term_renamed m place j) (terms_renamed m arguments j)

  pub terms_renamed : (m : Map) (t : TermTrees) → plain_terms (rename_terms m t) ≡ rename_terms m (plain_terms t)
  terms_renamed m no_terms = refl
  terms_renamed m (more_terms first others) = λ j. more_terms (term_renamed m first j) (terms_renamed m others j)
