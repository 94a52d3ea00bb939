-- Monotypes put for monotype variables. Skeletons stay as they were, so no redex of a function comes to
-- stand, and this is a function on trees.
use Rattle.std.specs.Prelude.{ℕ, zero, suc, option_map, nat_eq, if◌then◌else◌}
use Rattle.htt_syntax.specs.Trees.{MonoTree, TyTree, TripleTree, TermTree, FixTree, CompTree, StepTree, FormulaTree}
use Rattle.htt_syntax.specs.Trees.{TermTrees, m_word, m_bool, m_loc, m_unit, m_pair, m_var, y_mono, y_fun, y_all}
use Rattle.htt_syntax.specs.Trees.{y_hoare, y_at, triple, t_var, t_val, t_def, t_app, t_inst, t_lam, t_lam_t, t_do}
use Rattle.htt_syntax.specs.Trees.{t_fix, t_word, t_bool, t_loc, t_unit, t_pair, t_fst, t_snd, t_not, t_bin, t_eq}
use Rattle.htt_syntax.specs.Trees.{t_sel, t_ann, t_made, t_at, x_param, x_body, c_ret, c_step, s_run, s_alloc, s_get}
use Rattle.htt_syntax.specs.Trees.{s_set, s_free, s_if, s_claim, f_tt, f_ff, f_and, f_or, f_imp, f_all_t, f_ex_t}
use Rattle.htt_syntax.specs.Trees.{f_all_h, f_ex_h, f_emp, f_cell, f_block, f_join, f_same, f_eq, f_at, f_rec, no_terms}
use Rattle.htt_syntax.specs.Trees.{more_terms}
use Rattle.theory_renaming.specs.Renaming.{Map, lift, rename_mono}
use Rattle.theory_canonical.specs.Folding.{folding}
use Rattle.theory_substitution.specs.Closing.{closing}

-- What each monotype variable becomes.
abbrev pub Filling : Type 0
Filling = ℕ → MonoTree

-- The filling under one more binder, whose own variable stays.
unfoldable pub next_filling : Filling → Filling
next_filling f zero = m_var zero
next_filling f (suc n) = rename_mono suc (f n)

unfoldable pub fill_mono : Filling → MonoTree → MonoTree
fill_mono f m_word = m_word
fill_mono f m_bool = m_bool
fill_mono f m_loc = m_loc
fill_mono f m_unit = m_unit
fill_mono f (m_pair left right) = m_pair (fill_mono f left) (fill_mono f right)
fill_mono f (m_var index) = f index

-- The monotype variables are filled and the other variables renamed. An operation whose literals come
-- to be of its own monotype is folded.
unfoldable mutual
  pub fill_ty : Filling → Map → TyTree → TyTree
  fill_ty f m (y_mono mono) = y_mono (fill_mono f mono)
  fill_ty f m (y_fun argument answer) = y_fun (fill_ty f m argument) (fill_ty (next_filling f) (lift m) answer)
  fill_ty f m (y_all body) = y_all (fill_ty (next_filling f) (lift m) body)
  fill_ty f m (y_hoare spec) = y_hoare (fill_triple f m spec)
  fill_ty f m (y_at at ty) = y_at at (fill_ty f m ty)

  pub fill_triple : Filling → Map → TripleTree → TripleTree
  fill_triple f m (triple pre mono post) =
      triple (fill_formula (next_filling f) (lift m) pre) (fill_mono f mono)
      (fill_formula (next_filling (next_filling (next_filling f))) (lift (lift (lift m))) post)

  pub fill_term : Filling → Map → TermTree → TermTree
  fill_term f m (t_var index) = t_var (m index)
  fill_term f m (t_val number) = t_val number
  fill_term f m (t_def number) = t_def number
  fill_term f m (t_app function argument) = t_app (fill_term f m function) (fill_term f m argument)
  fill_term f m (t_inst function mono) = t_inst (fill_term f m function) (fill_mono f mono)
  fill_term f m (t_word word) = t_word word
  fill_term f m (t_bool truth) = t_bool truth
  fill_term f m (t_loc place) = t_loc place
  fill_term f m t_unit = t_unit
  fill_term f m (t_pair left right) = t_pair (fill_term f m left) (fill_term f m right)
  fill_term f m (t_fst pair) = folding (t_fst (fill_term f m pair))
  fill_term f m (t_snd pair) = folding (t_snd (fill_term f m pair))
  fill_term f m (t_not term) = folding (t_not (fill_term f m term))
  fill_term f m (t_bin op left right) = folding (t_bin op (fill_term f m left) (fill_term f m right))
  fill_term f m (t_eq mono left right) = folding (t_eq (fill_mono f mono) (fill_term f m left) (fill_term f m right))
  fill_term f m (t_sel mono test on_true on_false) =
      folding (t_sel (fill_mono f mono) (fill_term f m test) (fill_term f m on_true) (fill_term f m on_false))
  fill_term f m (t_lam body) = t_lam (fill_term (next_filling f) (lift m) body)
  fill_term f m (t_lam_t body) = t_lam_t (fill_term (next_filling f) (lift m) body)
  fill_term f m (t_do comp) = t_do (fill_comp f m comp)
  fill_term f m (t_fix at fix) = t_fix at (fill_fix f m fix)
  fill_term f m (t_ann term ty) = t_ann (fill_term f m term) (fill_ty f m ty)
  fill_term f m (t_made number values) = t_made number (fill_terms f m values)
  fill_term f m (t_at at term) = t_at at (fill_term f m term)

  pub fill_fix : Filling → Map → FixTree → FixTree
  fill_fix f m (x_param ty others) = x_param (fill_ty f m ty) (fill_fix (next_filling f) (lift m) others)
  fill_fix f m (x_body spec comp) = x_body (fill_triple f m spec) (fill_comp (next_filling f) (lift m) comp)

  pub fill_comp : Filling → Map → CompTree → CompTree
  fill_comp f m (c_ret term) = c_ret (fill_term f m term)
  fill_comp f m (c_step step others) = c_step (fill_step f m step) (fill_comp (next_filling f) (lift m) others)

  pub fill_step : Filling → Map → StepTree → StepTree
  fill_step f m (s_run term mono) = s_run (fill_term f m term) (option_map (fill_mono f) mono)
  fill_step f m (s_alloc mono value) = s_alloc (fill_mono f mono) (fill_term f m value)
  fill_step f m (s_get mono place) = s_get (fill_mono f mono) (fill_term f m place)
  fill_step f m (s_set mono place value) = s_set (fill_mono f mono) (fill_term f m place) (fill_term f m value)
  fill_step f m (s_free mono place) = s_free (fill_mono f mono) (fill_term f m place)
  fill_step f m (s_if mono test on_true on_false) =
      s_if (fill_mono f mono) (fill_term f m test) (fill_comp f m on_true) (fill_comp f m on_false)
  fill_step f m (s_claim formula) = s_claim (fill_formula (next_filling (next_filling f)) (lift (lift m)) formula)

  pub fill_formula : Filling → Map → FormulaTree → FormulaTree
  fill_formula f m f_tt = f_tt
  fill_formula f m f_ff = f_ff
  fill_formula f m (f_and left right) = f_and (fill_formula f m left) (fill_formula f m right)
  fill_formula f m (f_or left right) = f_or (fill_formula f m left) (fill_formula f m right)
  fill_formula f m (f_imp left right) = f_imp (fill_formula f m left) (fill_formula f m right)
  fill_formula f m (f_all_t mono body) = f_all_t (fill_mono f mono) (fill_formula (next_filling f) (lift m) body)
  fill_formula f m (f_ex_t mono body) = f_ex_t (fill_mono f mono) (fill_formula (next_filling f) (lift m) body)
  fill_formula f m (f_all_h body) = f_all_h (fill_formula (next_filling f) (lift m) body)
  fill_formula f m (f_ex_h body) = f_ex_h (fill_formula (next_filling f) (lift m) body)
  fill_formula f m (f_emp heap) = f_emp (m heap)
  fill_formula f m (f_cell mono heap place value) =
      f_cell (fill_mono f mono) (m heap) (fill_term f m place) (fill_term f m value)
  fill_formula f m (f_block mono heap place) = f_block (fill_mono f mono) (m heap) (fill_term f m place)
  fill_formula f m (f_join whole left right) = f_join (m whole) (m left) (m right)
  fill_formula f m (f_same left right) = f_same (m left) (m right)
  fill_formula f m (f_eq mono left right) = f_eq (fill_mono f mono) (fill_term f m left) (fill_term f m right)
  fill_formula f m (f_rec number heap place arguments) =
      f_rec number (m heap) (fill_term f m place) (fill_terms f m arguments)
  fill_formula f m (f_at at formula) = f_at at (fill_formula f m formula)

  pub fill_terms : Filling → Map → TermTrees → TermTrees
  fill_terms f m no_terms = no_terms
  fill_terms f m (more_terms term others) = more_terms (fill_term f m term) (fill_terms f m others)

-- A monotype is put for the variable x, and the gap is closed.
unfoldable pub put_mono : MonoTree → ℕ → Filling
put_mono mono x n = if nat_eq n x then mono else m_var (closing x n)

abbrev pub put_mono_term : MonoTree → ℕ → TermTree → TermTree
put_mono_term mono x term = fill_term (put_mono mono x) (closing x) term

abbrev pub put_mono_comp : MonoTree → ℕ → CompTree → CompTree
put_mono_comp mono x comp = fill_comp (put_mono mono x) (closing x) comp

abbrev pub put_mono_ty : MonoTree → ℕ → TyTree → TyTree
put_mono_ty mono x ty = fill_ty (put_mono mono x) (closing x) ty

abbrev pub put_mono_formula : MonoTree → ℕ → FormulaTree → FormulaTree
put_mono_formula mono x formula = fill_formula (put_mono mono x) (closing x) formula
