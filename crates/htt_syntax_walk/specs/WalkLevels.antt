-- The walk over a tree, one level at a time: an equation for each form of node.
use Rattle.std.specs.Prelude.{ℕ, ◌+◌, Bool, ◌≡◌, refl, Option, option_map}
use Rattle.htt_syntax.specs.declared.mono.Op.{Op}
use Rattle.htt_syntax.specs.Trees.{MonoTree, TyTree, TripleTree, TermTree, FixTree, CompTree, StepTree, FormulaTree}
use Rattle.htt_syntax.specs.Trees.{TermTrees, m_word, m_bool, m_loc, m_unit, m_pair, m_var, y_mono, y_fun, y_all}
use Rattle.htt_syntax.specs.Trees.{y_hoare, y_at, t_var, t_val, t_def, t_app, t_inst, t_lam, t_lam_t, t_do, t_fix}
use Rattle.htt_syntax.specs.Trees.{t_word, t_bool, t_loc, t_unit, t_pair, t_fst, t_snd, t_not, t_bin, t_eq, t_sel}
use Rattle.htt_syntax.specs.Trees.{t_ann, t_made, t_at, s_run, s_alloc, s_get, s_set, s_free, s_if, s_claim, f_tt, f_ff}
use Rattle.htt_syntax.specs.Trees.{f_and, f_or, f_imp, f_all_t, f_ex_t, f_all_h, f_ex_h, f_emp, f_cell, f_block, f_join}
use Rattle.htt_syntax.specs.Trees.{f_same, f_eq, f_at, f_rec, triple, x_param, x_body, c_ret, c_step, no_terms}
use Rattle.htt_syntax.specs.Trees.{more_terms}
use Rattle.htt_syntax_walk.specs.Walk.{Puts, walk_mono, walk_ty, walk_triple, walk_term, walk_fix, walk_comp, walk_step}
use Rattle.htt_syntax_walk.specs.Walk.{walk_formula, walk_terms}

module _ (p : Puts) (d : ℕ) where
  pub word_walk : walk_mono p d m_word ≡ m_word
  unfolding walk_mono
  word_walk = refl

  pub bool_walk : walk_mono p d m_bool ≡ m_bool
  unfolding walk_mono
  bool_walk = refl

  pub loc_walk : walk_mono p d m_loc ≡ m_loc
  unfolding walk_mono
  loc_walk = refl

  pub unit_walk : walk_mono p d m_unit ≡ m_unit
  unfolding walk_mono
  unit_walk = refl

  pub mono_pair_walk : (left : MonoTree) (right : MonoTree)
      → walk_mono p d (m_pair left right) ≡ m_pair (walk_mono p d left) (walk_mono p d right)
  unfolding walk_mono
  mono_pair_walk left right = refl

  pub mono_var_walk : (index : ℕ) → walk_mono p d (m_var index) ≡ p.on_mono d index
  unfolding walk_mono
  mono_var_walk index = refl

  pub ty_mono_walk : (mono : MonoTree) → walk_ty p d (y_mono mono) ≡ y_mono (walk_mono p d mono)
  unfolding walk_term
  ty_mono_walk mono = refl

  pub ty_fun_walk : (argument : TyTree) (answer : TyTree)
      → walk_ty p d (y_fun argument answer) ≡ y_fun (walk_ty p d argument) (walk_ty p (d + 1) answer)
  unfolding walk_term
  ty_fun_walk argument answer = refl

  pub ty_all_walk : (body : TyTree) → walk_ty p d (y_all body) ≡ y_all (walk_ty p (d + 1) body)
  unfolding walk_term
  ty_all_walk body = refl

  pub ty_hoare_walk : (spec : TripleTree) → walk_ty p d (y_hoare spec) ≡ y_hoare (walk_triple p d spec)
  unfolding walk_term
  ty_hoare_walk spec = refl

  pub ty_at_walk : (at : ℕ) (ty : TyTree) → walk_ty p d (y_at at ty) ≡ y_at at (walk_ty p d ty)
  unfolding walk_term
  ty_at_walk at ty = refl

  pub triple_walk : (pre : FormulaTree) (mono : MonoTree) (post : FormulaTree)
      → walk_triple p d (triple pre mono post)
      ≡ triple (walk_formula p (d + 1) pre) (walk_mono p d mono) (walk_formula p (d + 3) post)
  unfolding walk_term
  triple_walk pre mono post = refl

  pub term_var_walk : (index : ℕ) → walk_term p d (t_var index) ≡ p.on_term d index
  unfolding walk_term
  term_var_walk index = refl

  pub term_val_walk : (number : ℕ) → walk_term p d (t_val number) ≡ t_val number
  unfolding walk_term
  term_val_walk number = refl

  pub term_def_walk : (number : ℕ) → walk_term p d (t_def number) ≡ t_def number
  unfolding walk_term
  term_def_walk number = refl

  pub term_app_walk : (function : TermTree) (argument : TermTree)
      → walk_term p d (t_app function argument) ≡ t_app (walk_term p d function) (walk_term p d argument)
  unfolding walk_term
  term_app_walk function argument = refl

  pub term_inst_walk : (function : TermTree) (mono : MonoTree)
      → walk_term p d (t_inst function mono) ≡ t_inst (walk_term p d function) (walk_mono p d mono)
  unfolding walk_term
  term_inst_walk function mono = refl

  pub term_lam_walk : (body : TermTree) → walk_term p d (t_lam body) ≡ t_lam (walk_term p (d + 1) body)
  unfolding walk_term
  term_lam_walk body = refl

  pub term_lam_t_walk : (body : TermTree) → walk_term p d (t_lam_t body) ≡ t_lam_t (walk_term p (d + 1) body)
  unfolding walk_term
  term_lam_t_walk body = refl

  pub term_do_walk : (comp : CompTree) → walk_term p d (t_do comp) ≡ t_do (walk_comp p d comp)
  unfolding walk_term
  term_do_walk comp = refl

  pub term_fix_walk : (at : ℕ) (fix : FixTree) → walk_term p d (t_fix at fix) ≡ t_fix at (walk_fix p d fix)
  unfolding walk_term
  term_fix_walk at fix = refl

  pub term_word_walk : (word : ℕ) → walk_term p d (t_word word) ≡ t_word word
  unfolding walk_term
  term_word_walk word = refl

  pub term_bool_walk : (truth : Bool) → walk_term p d (t_bool truth) ≡ t_bool truth
  unfolding walk_term
  term_bool_walk truth = refl

  pub term_loc_walk : (place : ℕ) → walk_term p d (t_loc place) ≡ t_loc place
  unfolding walk_term
  term_loc_walk place = refl

  pub term_unit_walk : walk_term p d t_unit ≡ t_unit
  unfolding walk_term
  term_unit_walk = refl

  pub term_pair_walk : (left : TermTree) (right : TermTree)
      → walk_term p d (t_pair left right) ≡ t_pair (walk_term p d left) (walk_term p d right)
  unfolding walk_term
  term_pair_walk left right = refl

  pub term_fst_walk : (pair : TermTree) → walk_term p d (t_fst pair) ≡ t_fst (walk_term p d pair)
  unfolding walk_term
  term_fst_walk pair = refl

  pub term_snd_walk : (pair : TermTree) → walk_term p d (t_snd pair) ≡ t_snd (walk_term p d pair)
  unfolding walk_term
  term_snd_walk pair = refl

  pub term_un_walk : (term : TermTree) → walk_term p d (t_not term) ≡ t_not (walk_term p d term)
  unfolding walk_term
  term_un_walk term = refl

  pub term_bin_walk : (op : Op) (left : TermTree) (right : TermTree)
      → walk_term p d (t_bin op left right) ≡ t_bin op (walk_term p d left) (walk_term p d right)
  unfolding walk_term
  term_bin_walk op left right = refl

  pub term_eq_walk : (mono : MonoTree) (left : TermTree) (right : TermTree)
      → walk_term p d (t_eq mono left right) ≡ t_eq (walk_mono p d mono) (walk_term p d left) (walk_term p d right)
  unfolding walk_term
  term_eq_walk mono left right = refl

  pub term_sel_walk : (mono : MonoTree) (test : TermTree) (on_true : TermTree) (on_false : TermTree)
      → walk_term p d (t_sel mono test on_true on_false)
      ≡ t_sel (walk_mono p d mono) (walk_term p d test) (walk_term p d on_true) (walk_term p d on_false)
  unfolding walk_term
  term_sel_walk mono test on_true on_false = refl

  pub term_ann_walk : (term : TermTree) (ty : TyTree)
      → walk_term p d (t_ann term ty) ≡ t_ann (walk_term p d term) (walk_ty p d ty)
  unfolding walk_term
  term_ann_walk term ty = refl

  pub term_made_walk : (number : ℕ) (values : TermTrees)
      → walk_term p d (t_made number values) ≡ t_made number (walk_terms p d values)
  unfolding walk_term
  term_made_walk number values = refl

  pub term_at_walk : (at : ℕ) (term : TermTree) → walk_term p d (t_at at term) ≡ t_at at (walk_term p d term)
  unfolding walk_term
  term_at_walk at term = refl

  pub param_walk : (ty : TyTree) (rest : FixTree)
      → walk_fix p d (x_param ty rest) ≡ x_param (walk_ty p d ty) (walk_fix p (d + 1) rest)
  unfolding walk_term
  param_walk ty rest = refl

  pub body_walk : (spec : TripleTree) (comp : CompTree)
      → walk_fix p d (x_body spec comp) ≡ x_body (walk_triple p d spec) (walk_comp p (d + 1) comp)
  unfolding walk_term
  body_walk spec comp = refl

  pub ret_walk : (term : TermTree) → walk_comp p d (c_ret term) ≡ c_ret (walk_term p d term)
  unfolding walk_term
  ret_walk term = refl

  pub step_walk : (step : StepTree) (rest : CompTree)
      → walk_comp p d (c_step step rest) ≡ c_step (walk_step p d step) (walk_comp p (d + 1) rest)
  unfolding walk_term
  step_walk step rest = refl

  pub step_run_walk : (term : TermTree) (mono : Option MonoTree)
      → walk_step p d (s_run term mono) ≡ s_run (walk_term p d term) (option_map (walk_mono p d) mono)
  unfolding walk_term
  step_run_walk term mono = refl

  pub step_alloc_walk : (mono : MonoTree) (value : TermTree)
      → walk_step p d (s_alloc mono value) ≡ s_alloc (walk_mono p d mono) (walk_term p d value)
  unfolding walk_term
  step_alloc_walk mono value = refl

  pub step_get_walk : (mono : MonoTree) (place : TermTree)
      → walk_step p d (s_get mono place) ≡ s_get (walk_mono p d mono) (walk_term p d place)
  unfolding walk_term
  step_get_walk mono place = refl

  pub step_set_walk : (mono : MonoTree) (place : TermTree) (value : TermTree)
      → walk_step p d (s_set mono place value) ≡ s_set (walk_mono p d mono) (walk_term p d place) (walk_term p d value)
  unfolding walk_term
  step_set_walk mono place value = refl

  pub step_free_walk : (mono : MonoTree) (place : TermTree)
      → walk_step p d (s_free mono place) ≡ s_free (walk_mono p d mono) (walk_term p d place)
  unfolding walk_term
  step_free_walk mono place = refl

  pub step_if_walk : (mono : MonoTree) (test : TermTree) (on_true : CompTree) (on_false : CompTree)
      → walk_step p d (s_if mono test on_true on_false)
      ≡ s_if (walk_mono p d mono) (walk_term p d test) (walk_comp p d on_true) (walk_comp p d on_false)
  unfolding walk_term
  step_if_walk mono test on_true on_false = refl

  pub step_claim_walk : (formula : FormulaTree)
      → walk_step p d (s_claim formula) ≡ s_claim (walk_formula p (d + 2) formula)
  unfolding walk_term
  step_claim_walk formula = refl

  pub formula_tt_walk : walk_formula p d f_tt ≡ f_tt
  unfolding walk_term
  formula_tt_walk = refl

  pub formula_ff_walk : walk_formula p d f_ff ≡ f_ff
  unfolding walk_term
  formula_ff_walk = refl

  pub formula_and_walk : (left : FormulaTree) (right : FormulaTree)
      → walk_formula p d (f_and left right) ≡ f_and (walk_formula p d left) (walk_formula p d right)
  unfolding walk_term
  formula_and_walk left right = refl

  pub formula_or_walk : (left : FormulaTree) (right : FormulaTree)
      → walk_formula p d (f_or left right) ≡ f_or (walk_formula p d left) (walk_formula p d right)
  unfolding walk_term
  formula_or_walk left right = refl

  pub formula_imp_walk : (left : FormulaTree) (right : FormulaTree)
      → walk_formula p d (f_imp left right) ≡ f_imp (walk_formula p d left) (walk_formula p d right)
  unfolding walk_term
  formula_imp_walk left right = refl

  pub formula_all_t_walk : (mono : MonoTree) (body : FormulaTree)
      → walk_formula p d (f_all_t mono body) ≡ f_all_t (walk_mono p d mono) (walk_formula p (d + 1) body)
  unfolding walk_term
  formula_all_t_walk mono body = refl

  pub formula_ex_t_walk : (mono : MonoTree) (body : FormulaTree)
      → walk_formula p d (f_ex_t mono body) ≡ f_ex_t (walk_mono p d mono) (walk_formula p (d + 1) body)
  unfolding walk_term
  formula_ex_t_walk mono body = refl

  pub formula_all_h_walk : (body : FormulaTree)
      → walk_formula p d (f_all_h body) ≡ f_all_h (walk_formula p (d + 1) body)
  unfolding walk_term
  formula_all_h_walk body = refl

  pub formula_ex_h_walk : (body : FormulaTree) → walk_formula p d (f_ex_h body) ≡ f_ex_h (walk_formula p (d + 1) body)
  unfolding walk_term
  formula_ex_h_walk body = refl

  pub formula_emp_walk : (heap : ℕ) → walk_formula p d (f_emp heap) ≡ f_emp (p.on_heap d heap)
  unfolding walk_term
  formula_emp_walk heap = refl

  pub formula_cell_walk : (mono : MonoTree) (heap : ℕ) (place : TermTree) (value : TermTree)
      → walk_formula p d (f_cell mono heap place value)
      ≡ f_cell (walk_mono p d mono) (p.on_heap d heap) (walk_term p d place) (walk_term p d value)
  unfolding walk_term
  formula_cell_walk mono heap place value = refl

  pub formula_block_walk : (mono : MonoTree) (heap : ℕ) (place : TermTree)
      → walk_formula p d (f_block mono heap place)
      ≡ f_block (walk_mono p d mono) (p.on_heap d heap) (walk_term p d place)
  unfolding walk_term
  formula_block_walk mono heap place = refl

  pub formula_join_walk : (whole : ℕ) (left : ℕ) (right : ℕ)
      → walk_formula p d (f_join whole left right) ≡ f_join (p.on_heap d whole) (p.on_heap d left) (p.on_heap d right)
  unfolding walk_term
  formula_join_walk whole left right = refl

  pub formula_same_walk : (left : ℕ) (right : ℕ)
      → walk_formula p d (f_same left right) ≡ f_same (p.on_heap d left) (p.on_heap d right)
  unfolding walk_term
  formula_same_walk left right = refl

  pub formula_eq_walk : (mono : MonoTree) (left : TermTree) (right : TermTree)
      → walk_formula p d (f_eq mono left right) ≡ f_eq (walk_mono p d mono) (walk_term p d left) (walk_term p d right)
  unfolding walk_term
  formula_eq_walk mono left right = refl

  pub formula_at_walk : (at : ℕ) (formula : FormulaTree)
      → walk_formula p d (f_at at formula) ≡ f_at at (walk_formula p d formula)
  unfolding walk_term
  formula_at_walk at formula = refl

  pub formula_rec_walk : (number : ℕ) (heap : ℕ) (place : TermTree) (arguments : TermTrees)
      → walk_formula p d (f_rec number heap place arguments)
      ≡ f_rec number (p.on_heap d heap) (walk_term p d place) (walk_terms p d arguments)
  unfolding walk_term
  formula_rec_walk number heap place arguments = refl

  pub no_terms_walk : walk_terms p d no_terms ≡ no_terms
  unfolding walk_term
  no_terms_walk = refl

  pub more_terms_walk : (first : TermTree) (others : TermTrees)
      → walk_terms p d (more_terms first others) ≡ more_terms (walk_term p d first) (walk_terms p d others)
  unfolding walk_term
  more_terms_walk first others = refl

pub ruleset mono_walks = (word_walk, bool_walk, loc_walk, unit_walk, mono_pair_walk, mono_var_walk)

pub ruleset ty_walks = (ty_mono_walk, ty_fun_walk, ty_all_walk, ty_hoare_walk, ty_at_walk)

pub ruleset triple_walks = (triple_walk)

pub ruleset term_walks = (
  term_var_walk,
  term_val_walk,
  term_def_walk,
  term_app_walk,
  term_inst_walk,
  term_lam_walk,
  term_lam_t_walk,
  term_do_walk,
  term_fix_walk,
  term_word_walk,
  term_bool_walk,
  term_loc_walk,
  term_unit_walk,
  term_pair_walk,
  term_fst_walk,
  term_snd_walk,
  term_un_walk,
  term_bin_walk,
  term_eq_walk,
  term_sel_walk,
  term_ann_walk,
  term_made_walk,
  term_at_walk,
)

pub ruleset fix_walks = (param_walk, body_walk)

pub ruleset comp_walks = (ret_walk, step_walk)

pub ruleset step_walks = (step_run_walk, step_alloc_walk, step_get_walk, step_set_walk, step_free_walk, step_if_walk, step_claim_walk)

pub ruleset formula_walks = (
  formula_tt_walk,
  formula_ff_walk,
  formula_and_walk,
  formula_or_walk,
  formula_imp_walk,
  formula_all_t_walk,
  formula_ex_t_walk,
  formula_all_h_walk,
  formula_ex_h_walk,
  formula_emp_walk,
  formula_cell_walk,
  formula_block_walk,
  formula_join_walk,
  formula_same_walk,
  formula_eq_walk,
  formula_at_walk,
  formula_rec_walk,
)

pub ruleset terms_walks = (no_terms_walk, more_terms_walk)
