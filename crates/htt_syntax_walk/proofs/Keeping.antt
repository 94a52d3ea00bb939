-- A walk that puts each variable for itself gives the tree itself.
use Rattle.std.proofs.Common.{ℕ, ◌+◌, ◌≡◌, refl, Option, Some, None, option_map}
use Rattle.htt_syntax.specs.Trees.{MonoTree, TyTree, TripleTree, TermTree, FixTree, CompTree, StepTree, FormulaTree, TermTrees, m_word, m_bool, m_loc, m_unit}
use Rattle.htt_syntax.specs.Trees.{m_pair, m_var, y_mono, y_fun, y_all, y_hoare, y_at, t_var, t_val, t_def, t_app, t_inst, t_lam, t_lam_t, t_do, t_fix, t_word}
use Rattle.htt_syntax.specs.Trees.{t_bool, t_loc, t_unit, t_pair, t_fst, t_snd, t_not, t_bin, t_eq, t_sel, t_ann, t_made, t_at, s_run, s_alloc, s_get, s_set}
use Rattle.htt_syntax.specs.Trees.{s_free, s_if, s_claim, f_tt, f_ff, f_and, f_or, f_imp, f_all_t, f_ex_t, f_all_h, f_ex_h, f_emp, f_cell, f_block, f_join}
use Rattle.htt_syntax.specs.Trees.{f_same, f_eq, f_at, f_rec, triple, x_param, x_body, c_ret, c_step, no_terms, more_terms}
use Rattle.htt_syntax_walk.specs.Walk.{walk_mono, walk_ty, walk_triple, walk_term, walk_fix, walk_comp, walk_step, walk_formula, walk_terms}
use Rattle.htt_syntax_walk.specs.Kept.{kept}

pub mono_kept : (m : MonoTree) (d : ℕ) → walk_mono kept d m ≡ m
unfolding walk_mono
mono_kept m_word d = refl
mono_kept m_bool d = refl
mono_kept m_loc d = refl
mono_kept m_unit d = refl
mono_kept (m_pair left right) d = λ j. m_pair (mono_kept left d j) (mono_kept right d j)
mono_kept (m_var index) d = refl

pub option_kept : (m : Option MonoTree) (d : ℕ) → option_map (walk_mono kept d) m ≡ m
option_kept None d = refl
option_kept (Some m) d = λ j. Some (mono_kept m d j)

mutual
  unfolding walk_term

  pub ty_kept : (t : TyTree) (d : ℕ) → walk_ty kept d t ≡ t
  ty_kept (y_mono mono) d = λ j. y_mono (mono_kept mono d j)
  ty_kept (y_fun argument answer) d = λ j. y_fun (ty_kept argument d j) (ty_kept answer (d + 1) j)
  ty_kept (y_all body) d = λ j. y_all (ty_kept body (d + 1) j)
  ty_kept (y_hoare spec) d = λ j. y_hoare (triple_kept spec d j)
  ty_kept (y_at at ty) d = λ j. y_at at (ty_kept ty d j)

  pub triple_kept : (t : TripleTree) (d : ℕ) → walk_triple kept d t ≡ t
  triple_kept (triple pre mono post) d = λ j. triple (formula_kept pre (d + 1) j) (mono_kept mono d j) (formula_kept post (d + 3) j)

  pub term_kept : (t : TermTree) (d : ℕ) → walk_term kept d t ≡ t
  term_kept (t_var index) d = refl
  term_kept (t_val number) d = refl
  term_kept (t_def number) d = refl
  term_kept (t_app function argument) d = λ j. t_app (term_kept function d j) (term_kept argument d j)
  term_kept (t_inst function mono) d = λ j. t_inst (term_kept function d j) (mono_kept mono d j)
  term_kept (t_lam body) d = λ j. t_lam (term_kept body (d + 1) j)
  term_kept (t_lam_t body) d = λ j. t_lam_t (term_kept body (d + 1) j)
  term_kept (t_do comp) d = λ j. t_do (comp_kept comp d j)
  term_kept (t_fix at fix) d = λ j. t_fix at (fix_kept fix d j)
  term_kept (t_word word) d = refl
  term_kept (t_bool truth) d = refl
  term_kept (t_loc place) d = refl
  term_kept t_unit d = refl
  term_kept (t_pair left right) d = λ j. t_pair (term_kept left d j) (term_kept right d j)
  term_kept (t_fst pair) d = λ j. t_fst (term_kept pair d j)
  term_kept (t_snd pair) d = λ j. t_snd (term_kept pair d j)
  term_kept (t_not term) d = λ j. t_not (term_kept term d j)
  term_kept (t_bin op left right) d = λ j. t_bin op (term_kept left d j) (term_kept right d j)
  term_kept (t_eq mono left right) d = λ j. t_eq (mono_kept mono d j) (term_kept left d j) (term_kept right d j)
  term_kept (t_sel mono test on_true on_false) d = λ j. t_sel (mono_kept mono d j) (term_kept test d j) (term_kept on_true d j) (term_kept on_false d j)
  term_kept (t_ann term ty) d = λ j. t_ann (term_kept term d j) (ty_kept ty d j)
  term_kept (t_made number values) d = λ j. t_made number (terms_kept values d j)
  term_kept (t_at at term) d = λ j. t_at at (term_kept term d j)

  pub fix_kept : (t : FixTree) (d : ℕ) → walk_fix kept d t ≡ t
  fix_kept (x_param ty rest) d = λ j. x_param (ty_kept ty d j) (fix_kept rest (d + 1) j)
  fix_kept (x_body spec comp) d = λ j. x_body (triple_kept spec d j) (comp_kept comp (d + 1) j)

  pub comp_kept : (t : CompTree) (d : ℕ) → walk_comp kept d t ≡ t
  comp_kept (c_ret term) d = λ j. c_ret (term_kept term d j)
  comp_kept (c_step step rest) d = λ j. c_step (step_kept step d j) (comp_kept rest (d + 1) j)

  pub step_kept : (t : StepTree) (d : ℕ) → walk_step kept d t ≡ t
  step_kept (s_run term mono) d = λ j. s_run (term_kept term d j) (option_kept mono d j)
  step_kept (s_alloc mono value) d = λ j. s_alloc (mono_kept mono d j) (term_kept value d j)
  step_kept (s_get mono place) d = λ j. s_get (mono_kept mono d j) (term_kept place d j)
  step_kept (s_set mono place value) d = λ j. s_set (mono_kept mono d j) (term_kept place d j) (term_kept value d j)
  step_kept (s_free mono place) d = λ j. s_free (mono_kept mono d j) (term_kept place d j)
  step_kept (s_if mono test on_true on_false) d = λ j. s_if (mono_kept mono d j) (term_kept test d j) (comp_kept on_true d j) (comp_kept on_false d j)
  step_kept (s_claim formula) d = λ j. s_claim (formula_kept formula (d + 2) j)

  pub formula_kept : (t : FormulaTree) (d : ℕ) → walk_formula kept d t ≡ t
  formula_kept f_tt d = refl
  formula_kept f_ff d = refl
  formula_kept (f_and left right) d = λ j. f_and (formula_kept left d j) (formula_kept right d j)
  formula_kept (f_or left right) d = λ j. f_or (formula_kept left d j) (formula_kept right d j)
  formula_kept (f_imp left right) d = λ j. f_imp (formula_kept left d j) (formula_kept right d j)
  formula_kept (f_all_t mono body) d = λ j. f_all_t (mono_kept mono d j) (formula_kept body (d + 1) j)
  formula_kept (f_ex_t mono body) d = λ j. f_ex_t (mono_kept mono d j) (formula_kept body (d + 1) j)
  formula_kept (f_all_h body) d = λ j. f_all_h (formula_kept body (d + 1) j)
  formula_kept (f_ex_h body) d = λ j. f_ex_h (formula_kept body (d + 1) j)
  formula_kept (f_emp heap) d = refl
  formula_kept (f_cell mono heap place value) d = λ j. f_cell (mono_kept mono d j) heap (term_kept place d j) (term_kept value d j)
  formula_kept (f_block mono heap place) d = λ j. f_block (mono_kept mono d j) heap (term_kept place d j)
  formula_kept (f_join whole left right) d = refl
  formula_kept (f_same left right) d = refl
  formula_kept (f_eq mono left right) d = λ j. f_eq (mono_kept mono d j) (term_kept left d j) (term_kept right d j)
  formula_kept (f_at at formula) d = λ j. f_at at (formula_kept formula d j)
  formula_kept (f_rec number heap place arguments) d = λ j. f_rec number heap (term_kept place d j) (terms_kept arguments d j)

  pub terms_kept : (t : TermTrees) (d : ℕ) → walk_terms kept d t ≡ t
  terms_kept no_terms d = refl
  terms_kept (more_terms first others) d = λ j. more_terms (term_kept first d j) (terms_kept others d j)
