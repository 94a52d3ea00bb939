-- The walk over a tree that puts something in the place of each variable. It counts the binders
-- that it has gone under, so that what is put may depend on how many stand around the place.
use Rattle.std.specs.Prelude.{ℕ, ◌+◌, Option, option_map}
use Rattle.htt_syntax.specs.Trees.{MonoTree, TyTree, TripleTree, TermTree, FixTree, CompTree, StepTree, FormulaTree}
use Rattle.htt_syntax.specs.Trees.{TermTrees, m_word, m_bool, m_loc, m_unit, m_pair, m_var, y_mono, y_fun, y_all}
use Rattle.htt_syntax.specs.Trees.{y_hoare, y_at, t_var, t_val, t_def, t_app, t_inst, t_lam, t_lam_t, t_do, t_fix}
use Rattle.htt_syntax.specs.Trees.{t_word, t_bool, t_loc, t_unit, t_pair, t_fst, t_snd, t_not, t_bin, t_eq, t_sel}
use Rattle.htt_syntax.specs.Trees.{t_ann, t_made, t_at, s_run, s_alloc, s_get, s_set, s_free, s_if, s_claim, f_tt, f_ff}
use Rattle.htt_syntax.specs.Trees.{f_and, f_or, f_imp, f_all_t, f_ex_t, f_all_h, f_ex_h, f_emp, f_cell, f_block, f_join}
use Rattle.htt_syntax.specs.Trees.{f_same, f_eq, f_at, f_rec, triple, x_param, x_body, c_ret, c_step, no_terms}
use Rattle.htt_syntax.specs.Trees.{more_terms}

-- What stands for each variable of a sort, from the count of binders around it and its index.
pub record Puts : Type 0 where
  pub on_term : ℕ → ℕ → TermTree
  pub on_mono : ℕ → ℕ → MonoTree
  pub on_heap : ℕ → ℕ → ℕ

unfoldable pub walk_mono : Puts → ℕ → MonoTree → MonoTree
walk_mono p d m_word = m_word
walk_mono p d m_bool = m_bool
walk_mono p d m_loc = m_loc
walk_mono p d m_unit = m_unit
walk_mono p d (m_pair left right) = m_pair (walk_mono p d left) (walk_mono p d right)
walk_mono p d (m_var index) = p.on_mono d index

unfoldable mutual
  pub walk_ty : Puts → ℕ → TyTree → TyTree
  walk_ty p d (y_mono mono) = y_mono (walk_mono p d mono)
  walk_ty p d (y_fun argument answer) = y_fun (walk_ty p d argument) (walk_ty p (d + 1) answer)
  walk_ty p d (y_all body) = y_all (walk_ty p (d + 1) body)
  walk_ty p d (y_hoare spec) = y_hoare (walk_triple p d spec)
  walk_ty p d (y_at at ty) = y_at at (walk_ty p d ty)

  pub walk_triple : Puts → ℕ → TripleTree → TripleTree
  walk_triple p d (triple pre mono post) =
      triple (walk_formula p (d + 1) pre) (walk_mono p d mono) (walk_formula p (d + 3) post)

  pub walk_term : Puts → ℕ → TermTree → TermTree
  walk_term p d (t_var index) = p.on_term d index
  walk_term p d (t_val number) = t_val number
  walk_term p d (t_def number) = t_def number
  walk_term p d (t_app function argument) = t_app (walk_term p d function) (walk_term p d argument)
  walk_term p d (t_inst function mono) = t_inst (walk_term p d function) (walk_mono p d mono)
  walk_term p d (t_lam body) = t_lam (walk_term p (d + 1) body)
  walk_term p d (t_lam_t body) = t_lam_t (walk_term p (d + 1) body)
  walk_term p d (t_do comp) = t_do (walk_comp p d comp)
  walk_term p d (t_fix at fix) = t_fix at (walk_fix p d fix)
  walk_term p d (t_word word) = t_word word
  walk_term p d (t_bool truth) = t_bool truth
  walk_term p d (t_loc place) = t_loc place
  walk_term p d t_unit = t_unit
  walk_term p d (t_pair left right) = t_pair (walk_term p d left) (walk_term p d right)
  walk_term p d (t_fst pair) = t_fst (walk_term p d pair)
  walk_term p d (t_snd pair) = t_snd (walk_term p d pair)
  walk_term p d (t_not term) = t_not (walk_term p d term)
  walk_term p d (t_bin op left right) = t_bin op (walk_term p d left) (walk_term p d right)
  walk_term p d (t_eq mono left right) = t_eq (walk_mono p d mono) (walk_term p d left) (walk_term p d right)
  walk_term p d (t_sel mono test on_true on_false) =
      t_sel (walk_mono p d mono) (walk_term p d test) (walk_term p d on_true) (walk_term p d on_false)
  walk_term p d (t_ann term ty) = t_ann (walk_term p d term) (walk_ty p d ty)
  walk_term p d (t_made number values) = t_made number (walk_terms p d values)
  walk_term p d (t_at at term) = t_at at (walk_term p d term)

  pub walk_fix : Puts → ℕ → FixTree → FixTree
  walk_fix p d (x_param ty rest) = x_param (walk_ty p d ty) (walk_fix p (d + 1) rest)
  walk_fix p d (x_body spec comp) = x_body (walk_triple p d spec) (walk_comp p (d + 1) comp)

  pub walk_comp : Puts → ℕ → CompTree → CompTree
  walk_comp p d (c_ret term) = c_ret (walk_term p d term)
  walk_comp p d (c_step step rest) = c_step (walk_step p d step) (walk_comp p (d + 1) rest)

  pub walk_step : Puts → ℕ → StepTree → StepTree
  walk_step p d (s_run term mono) = s_run (walk_term p d term) (option_map (walk_mono p d) mono)
  walk_step p d (s_alloc mono value) = s_alloc (walk_mono p d mono) (walk_term p d value)
  walk_step p d (s_get mono place) = s_get (walk_mono p d mono) (walk_term p d place)
  walk_step p d (s_set mono place value) = s_set (walk_mono p d mono) (walk_term p d place) (walk_term p d value)
  walk_step p d (s_free mono place) = s_free (walk_mono p d mono) (walk_term p d place)
  walk_step p d (s_if mono test on_true on_false) =
      s_if (walk_mono p d mono) (walk_term p d test) (walk_comp p d on_true) (walk_comp p d on_false)
  walk_step p d (s_claim formula) = s_claim (walk_formula p (d + 2) formula)

  pub walk_formula : Puts → ℕ → FormulaTree → FormulaTree
  walk_formula p d f_tt = f_tt
  walk_formula p d f_ff = f_ff
  walk_formula p d (f_and left right) = f_and (walk_formula p d left) (walk_formula p d right)
  walk_formula p d (f_or left right) = f_or (walk_formula p d left) (walk_formula p d right)
  walk_formula p d (f_imp left right) = f_imp (walk_formula p d left) (walk_formula p d right)
  walk_formula p d (f_all_t mono body) = f_all_t (walk_mono p d mono) (walk_formula p (d + 1) body)
  walk_formula p d (f_ex_t mono body) = f_ex_t (walk_mono p d mono) (walk_formula p (d + 1) body)
  walk_formula p d (f_all_h body) = f_all_h (walk_formula p (d + 1) body)
  walk_formula p d (f_ex_h body) = f_ex_h (walk_formula p (d + 1) body)
  walk_formula p d (f_emp heap) = f_emp (p.on_heap d heap)
  walk_formula p d (f_cell mono heap place value) =
      f_cell (walk_mono p d mono) (p.on_heap d heap) (walk_term p d place) (walk_term p d value)
  walk_formula p d (f_block mono heap place) = f_block (walk_mono p d mono) (p.on_heap d heap) (walk_term p d place)
  walk_formula p d (f_join whole left right) = f_join (p.on_heap d whole) (p.on_heap d left) (p.on_heap d right)
  walk_formula p d (f_same left right) = f_same (p.on_heap d left) (p.on_heap d right)
  walk_formula p d (f_eq mono left right) = f_eq (walk_mono p d mono) (walk_term p d left) (walk_term p d right)
  walk_formula p d (f_at at formula) = f_at at (walk_formula p d formula)
  walk_formula p d (f_rec number heap place arguments) =
      f_rec number (p.on_heap d heap) (walk_term p d place) (walk_terms p d arguments)

  pub walk_terms : Puts → ℕ → TermTrees → TermTrees
  walk_terms p d no_terms = no_terms
  walk_terms p d (more_terms first others) = more_terms (walk_term p d first) (walk_terms p d others)
