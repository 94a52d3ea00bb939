-- How many nodes the greatest monotype of a tree has, 0 where it has none. Of a pair this is the whole
-- pair, so its parts aren't looked at by themselves.
use Rattle.std.specs.Prelude.{ℕ, zero, max, Option, Some, None}
use Rattle.htt_syntax.specs.Trees.{MonoTree, TyTree, TripleTree, TermTree, FixTree, CompTree, StepTree, FormulaTree}
use Rattle.htt_syntax.specs.Trees.{TermTrees, y_mono, y_fun, y_all, y_hoare, y_at, triple, t_var, t_val, t_def, t_app}
use Rattle.htt_syntax.specs.Trees.{t_inst, t_lam, t_lam_t, t_do, t_fix, t_word, t_bool, t_loc, t_unit, t_pair, t_fst}
use Rattle.htt_syntax.specs.Trees.{t_snd, t_not, t_bin, t_eq, t_sel, t_ann, t_made, t_at, x_param, x_body, c_ret}
use Rattle.htt_syntax.specs.Trees.{c_step, s_run, s_alloc, s_get, s_set, s_free, s_if, s_claim, f_tt, f_ff, f_and, f_or}
use Rattle.htt_syntax.specs.Trees.{f_imp, f_all_t, f_ex_t, f_all_h, f_ex_h, f_emp, f_cell, f_block, f_join, f_same}
use Rattle.htt_syntax.specs.Trees.{f_eq, f_at, f_rec, no_terms, more_terms}
use Rattle.theory_counts.specs.Nodes.{nodes_mono, nodes_option}

unfoldable mutual
  pub greatest_in_ty : TyTree → ℕ
  greatest_in_ty (y_mono mono) = nodes_mono mono
  greatest_in_ty (y_fun argument answer) = max (greatest_in_ty argument) (greatest_in_ty answer)
  greatest_in_ty (y_all body) = greatest_in_ty body
  greatest_in_ty (y_hoare spec) = greatest_in_triple spec
  greatest_in_ty (y_at at ty) = greatest_in_ty ty

  pub greatest_in_triple : TripleTree → ℕ
  greatest_in_triple (triple pre mono post) =
      max (nodes_mono mono) (max (greatest_in_formula pre) (greatest_in_formula post))

  pub greatest_in_term : TermTree → ℕ
  greatest_in_term (t_var index) = zero
  greatest_in_term (t_val number) = zero
  greatest_in_term (t_def number) = zero
  greatest_in_term (t_app function argument) = max (greatest_in_term function) (greatest_in_term argument)
  greatest_in_term (t_inst function mono) = max (greatest_in_term function) (nodes_mono mono)
  greatest_in_term (t_lam body) = greatest_in_term body
  greatest_in_term (t_lam_t body) = greatest_in_term body
  greatest_in_term (t_do comp) = greatest_in_comp comp
  greatest_in_term (t_fix at fix) = greatest_in_fix fix
  greatest_in_term (t_word word) = zero
  greatest_in_term (t_bool truth) = zero
  greatest_in_term (t_loc place) = zero
  greatest_in_term t_unit = zero
  greatest_in_term (t_pair left right) = max (greatest_in_term left) (greatest_in_term right)
  greatest_in_term (t_fst pair) = greatest_in_term pair
  greatest_in_term (t_snd pair) = greatest_in_term pair
  greatest_in_term (t_not term) = greatest_in_term term
  greatest_in_term (t_bin op left right) = max (greatest_in_term left) (greatest_in_term right)
  greatest_in_term (t_eq mono left right) = max (nodes_mono mono) (max (greatest_in_term left) (greatest_in_term right))
  greatest_in_term (t_sel mono test on_true on_false) =
      max (nodes_mono mono)
      (max (greatest_in_term test) (max (greatest_in_term on_true) (greatest_in_term on_false)))
  greatest_in_term (t_ann term ty) = max (greatest_in_term term) (greatest_in_ty ty)
  greatest_in_term (t_made number values) = greatest_in_terms values
  greatest_in_term (t_at at term) = greatest_in_term term

  pub greatest_in_fix : FixTree → ℕ
  greatest_in_fix (x_param ty others) = max (greatest_in_ty ty) (greatest_in_fix others)
  greatest_in_fix (x_body spec comp) = max (greatest_in_triple spec) (greatest_in_comp comp)

  pub greatest_in_comp : CompTree → ℕ
  greatest_in_comp (c_ret term) = greatest_in_term term
  greatest_in_comp (c_step step others) = max (greatest_in_step step) (greatest_in_comp others)

  pub greatest_in_step : StepTree → ℕ
  greatest_in_step (s_run term mono) = max (greatest_in_term term) (nodes_option mono)
  greatest_in_step (s_alloc mono value) = max (nodes_mono mono) (greatest_in_term value)
  greatest_in_step (s_get mono place) = max (nodes_mono mono) (greatest_in_term place)
  greatest_in_step (s_set mono place value) =
      max (nodes_mono mono) (max (greatest_in_term place) (greatest_in_term value))
  greatest_in_step (s_free mono place) = max (nodes_mono mono) (greatest_in_term place)
  greatest_in_step (s_if mono test on_true on_false) =
      max (nodes_mono mono)
      (max (greatest_in_term test) (max (greatest_in_comp on_true) (greatest_in_comp on_false)))
  greatest_in_step (s_claim formula) = greatest_in_formula formula

  pub greatest_in_formula : FormulaTree → ℕ
  greatest_in_formula f_tt = zero
  greatest_in_formula f_ff = zero
  greatest_in_formula (f_and left right) = max (greatest_in_formula left) (greatest_in_formula right)
  greatest_in_formula (f_or left right) = max (greatest_in_formula left) (greatest_in_formula right)
  greatest_in_formula (f_imp left right) = max (greatest_in_formula left) (greatest_in_formula right)
  greatest_in_formula (f_all_t mono body) = max (nodes_mono mono) (greatest_in_formula body)
  greatest_in_formula (f_ex_t mono body) = max (nodes_mono mono) (greatest_in_formula body)
  greatest_in_formula (f_all_h body) = greatest_in_formula body
  greatest_in_formula (f_ex_h body) = greatest_in_formula body
  greatest_in_formula (f_emp heap) = zero
  greatest_in_formula (f_cell mono heap place value) =
      max (nodes_mono mono) (max (greatest_in_term place) (greatest_in_term value))
  greatest_in_formula (f_block mono heap place) = max (nodes_mono mono) (greatest_in_term place)
  greatest_in_formula (f_join whole left right) = zero
  greatest_in_formula (f_same left right) = zero
  greatest_in_formula (f_eq mono left right) =
      max (nodes_mono mono) (max (greatest_in_term left) (greatest_in_term right))
  greatest_in_formula (f_at at formula) = greatest_in_formula formula
  greatest_in_formula (f_rec number heap place arguments) = max (greatest_in_term place) (greatest_in_terms arguments)

  pub greatest_in_terms : TermTrees → ℕ
  greatest_in_terms no_terms = zero
  greatest_in_terms (more_terms first others) = max (greatest_in_term first) (greatest_in_terms others)
