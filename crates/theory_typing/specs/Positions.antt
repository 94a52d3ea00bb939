-- Trees without their positions: phrases are compared by these. A position around a phrase is left
-- out, and so is the byte of a `fix`.
use Rattle.htt_syntax.specs.Trees.{TyTree, TripleTree, TermTree, FixTree, CompTree, StepTree, FormulaTree, TermTrees}
use Rattle.htt_syntax.specs.Trees.{y_mono, y_fun, y_all, y_hoare, triple, t_var, t_val, t_def, t_app, t_inst, t_lam}
use Rattle.htt_syntax.specs.Trees.{t_lam_t, t_do, t_word, t_bool, t_loc, t_unit, t_pair, t_fst, t_snd, t_not, t_bin}
use Rattle.htt_syntax.specs.Trees.{t_eq, t_sel, t_ann, t_made, x_param, x_body, c_ret, c_step, s_run, s_alloc, s_get}
use Rattle.htt_syntax.specs.Trees.{s_set, s_free, s_if, s_claim, f_tt, f_ff, f_and, f_or, f_imp, f_all_t, f_ex_t}
use Rattle.htt_syntax.specs.Trees.{f_all_h, f_ex_h, f_emp, f_cell, f_block, f_join, f_same, f_eq, f_rec, no_terms}
use Rattle.htt_syntax.specs.Trees.{more_terms, y_at, t_fix, t_at, f_at}

unfoldable mutual
  pub plain_ty : TyTree → TyTree
  plain_ty (y_mono mono) = y_mono mono
  plain_ty (y_fun argument answer) = y_fun (plain_ty argument) (plain_ty answer)
  plain_ty (y_all body) = y_all (plain_ty body)
  plain_ty (y_hoare spec) = y_hoare (plain_triple spec)
  plain_ty (y_at at ty) = plain_ty ty

  pub plain_triple : TripleTree → TripleTree
  plain_triple (triple pre mono post) = triple (plain_formula pre) mono (plain_formula post)

  pub plain_term : TermTree → TermTree
  plain_term (t_var index) = t_var index
  plain_term (t_val number) = t_val number
  plain_term (t_def number) = t_def number
  plain_term (t_app function argument) = t_app (plain_term function) (plain_term argument)
  plain_term (t_inst function mono) = t_inst (plain_term function) mono
  plain_term (t_lam body) = t_lam (plain_term body)
  plain_term (t_lam_t body) = t_lam_t (plain_term body)
  plain_term (t_do comp) = t_do (plain_comp comp)
  plain_term (t_word word) = t_word word
  plain_term (t_bool truth) = t_bool truth
  plain_term (t_loc place) = t_loc place
  plain_term t_unit = t_unit
  plain_term (t_pair left right) = t_pair (plain_term left) (plain_term right)
  plain_term (t_fst pair) = t_fst (plain_term pair)
  plain_term (t_snd pair) = t_snd (plain_term pair)
  plain_term (t_not term) = t_not (plain_term term)
  plain_term (t_bin op left right) = t_bin op (plain_term left) (plain_term right)
  plain_term (t_eq mono left right) = t_eq mono (plain_term left) (plain_term right)
  plain_term (t_sel mono test on_true on_false) =
      t_sel mono (plain_term test) (plain_term on_true) (plain_term on_false)
  plain_term (t_ann term ty) = t_ann (plain_term term) (plain_ty ty)
  plain_term (t_made number values) = t_made number (plain_terms values)
  plain_term (t_fix at fix) = t_fix 0 (plain_fix fix)
  plain_term (t_at at term) = plain_term term

  pub plain_fix : FixTree → FixTree
  plain_fix (x_param ty others) = x_param (plain_ty ty) (plain_fix others)
  plain_fix (x_body spec comp) = x_body (plain_triple spec) (plain_comp comp)

  pub plain_comp : CompTree → CompTree
  plain_comp (c_ret term) = c_ret (plain_term term)
  plain_comp (c_step step others) = c_step (plain_step step) (plain_comp others)

  pub plain_step : StepTree → StepTree
  plain_step (s_run term mono) = s_run (plain_term term) mono
  plain_step (s_alloc mono value) = s_alloc mono (plain_term value)
  plain_step (s_get mono place) = s_get mono (plain_term place)
  plain_step (s_set mono place value) = s_set mono (plain_term place) (plain_term value)
  plain_step (s_free mono place) = s_free mono (plain_term place)
  plain_step (s_if mono test on_true on_false) = s_if mono (plain_term test) (plain_comp on_true) (plain_comp on_false)
  plain_step (s_claim formula) = s_claim (plain_formula formula)

  pub plain_formula : FormulaTree → FormulaTree
  plain_formula f_tt = f_tt
  plain_formula f_ff = f_ff
  plain_formula (f_and left right) = f_and (plain_formula left) (plain_formula right)
  plain_formula (f_or left right) = f_or (plain_formula left) (plain_formula right)
  plain_formula (f_imp left right) = f_imp (plain_formula left) (plain_formula right)
  plain_formula (f_all_t mono body) = f_all_t mono (plain_formula body)
  plain_formula (f_ex_t mono body) = f_ex_t mono (plain_formula body)
  plain_formula (f_all_h body) = f_all_h (plain_formula body)
  plain_formula (f_ex_h body) = f_ex_h (plain_formula body)
  plain_formula (f_emp heap) = f_emp heap
  plain_formula (f_cell mono heap place value) = f_cell mono heap (plain_term place) (plain_term value)
  plain_formula (f_block mono heap place) = f_block mono heap (plain_term place)
  plain_formula (f_join whole left right) = f_join whole left right
  plain_formula (f_same left right) = f_same left right
  plain_formula (f_eq mono left right) = f_eq mono (plain_term left) (plain_term right)
  plain_formula (f_rec number heap place arguments) = f_rec number heap (plain_term place) (plain_terms arguments)
  plain_formula (f_at at formula) = plain_formula formula

  pub plain_terms : TermTrees → TermTrees
  plain_terms no_terms = no_terms
  plain_terms (more_terms first others) = more_terms (plain_term first) (plain_terms others)
