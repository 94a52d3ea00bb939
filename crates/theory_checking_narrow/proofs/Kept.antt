-- Renaming keeps the greatest monotype of a tree.
use Rattle.std.proofs.Common.{◌≡◌, max, Option, Some, None, refl}
use Rattle.std.specs.Prelude.{option_map}
use Rattle.htt_syntax.specs.Trees.{MonoTree, TyTree, TripleTree, TermTree, FixTree, CompTree, StepTree, FormulaTree, TermTrees, y_mono, y_fun, y_all, y_hoare}
use Rattle.htt_syntax.specs.Trees.{y_at, triple, t_var, t_val, t_def, t_app, t_inst, t_lam, t_lam_t, t_do, t_fix, t_word, t_bool, t_loc, t_unit, t_pair}
use Rattle.htt_syntax.specs.Trees.{t_fst, t_snd, t_not, t_bin, t_eq, t_sel, t_ann, t_made, t_at, x_param, x_body, c_ret, c_step, s_run, s_alloc, s_get}
use Rattle.htt_syntax.specs.Trees.{s_set, s_free, s_if, s_claim, f_tt, f_ff, f_and, f_or, f_imp, f_all_t, f_ex_t, f_all_h, f_ex_h, f_emp, f_cell}
use Rattle.htt_syntax.specs.Trees.{f_block, f_join, f_same, f_eq, f_at, f_rec, no_terms, more_terms}
use Rattle.theory_renaming.specs.Renaming.{Map, lift, rename_mono, rename_ty, rename_triple, rename_term, rename_fix, rename_comp, rename_step}
use Rattle.theory_renaming.specs.Renaming.{rename_formula, rename_terms}
use Rattle.theory_counts.specs.Nodes.{nodes_option}
use Rattle.theory_counts.proofs.NodesKept.{nodes_mono_kept}
use Rattle.theory_counts_monotypes.specs.Monotypes.{greatest_in_ty, greatest_in_triple, greatest_in_term, greatest_in_fix, greatest_in_comp}
use Rattle.theory_counts_monotypes.specs.Monotypes.{greatest_in_step, greatest_in_formula, greatest_in_terms}

option_kept : (m : Map) (given : Option MonoTree) → nodes_option (option_map (rename_mono m) given) ≡ nodes_option given
unfolding nodes_option
option_kept m None = refl
option_kept m (Some mono) = nodes_mono_kept m mono

mutual
  unfolding greatest_in_ty greatest_in_triple greatest_in_term greatest_in_fix greatest_in_comp greatest_in_step greatest_in_formula
      greatest_in_terms rename_ty rename_triple rename_term rename_fix rename_comp rename_step rename_formula rename_terms

  pub ty_kept : (m : Map) (ty : TyTree) → greatest_in_ty (rename_ty m ty) ≡ greatest_in_ty ty
  ty_kept m (y_mono mono) = nodes_mono_kept m mono
  ty_kept m (y_fun argument answer) = λ j. max (ty_kept m argument j) (ty_kept (lift m) answer j)
  ty_kept m (y_all body) = ty_kept (lift m) body
  ty_kept m (y_hoare spec) = triple_kept m spec
  ty_kept m (y_at at ty) = ty_kept m ty

  pub triple_kept : (m : Map) (spec : TripleTree) → greatest_in_triple (rename_triple m spec) ≡ greatest_in_triple spec
  triple_kept m (triple pre mono post) = λ j. max (nodes_mono_kept m mono j) (max (formula_kept (lift m) pre j) (formula_kept (lift (lift (lift m))) post j))

  pub term_kept : (m : Map) (term : TermTree) → greatest_in_term (rename_term m term) ≡ greatest_in_term term
  term_kept m (t_var index) = refl
  term_kept m (t_val number) = refl
  term_kept m (t_def number) = refl
  term_kept m (t_app function argument) = λ j. max (term_kept m function j) (term_kept m argument j)
  term_kept m (t_inst function mono) = λ j. max (term_kept m function j) (nodes_mono_kept m mono j)
  term_kept m (t_lam body) = term_kept (lift m) body
  term_kept m (t_lam_t body) = term_kept (lift m) body
  term_kept m (t_do comp) = comp_kept m comp
  term_kept m (t_fix at fix) = fix_kept m fix
  term_kept m (t_word word) = refl
  term_kept m (t_bool truth) = refl
  term_kept m (t_loc place) = refl
  term_kept m t_unit = refl
  term_kept m (t_pair left right) = λ j. max (term_kept m left j) (term_kept m right j)
  term_kept m (t_fst pair) = term_kept m pair
  term_kept m (t_snd pair) = term_kept m pair
  term_kept m (t_not term) = term_kept m term
  term_kept m (t_bin op left right) = λ j. max (term_kept m left j) (term_kept m right j)
  term_kept m (t_eq mono left right) = λ j. max (nodes_mono_kept m mono j) (max (term_kept m left j) (term_kept m right j))
  term_kept m (t_sel mono test on_true on_false) = λ j. max (nodes_mono_kept m mono j) (max (term_kept m test j) (max (term_kept m on_true j) (term_kept m on_false j)))
  term_kept m (t_ann term ty) = λ j. max (term_kept m term j) (ty_kept m ty j)
  term_kept m (t_made number values) = terms_kept m values
  term_kept m (t_at at term) = term_kept m term

  pub fix_kept : (m : Map) (fix : FixTree) → greatest_in_fix (rename_fix m fix) ≡ greatest_in_fix fix
  fix_kept m (x_param ty others) = λ j. max (ty_kept m ty j) (fix_kept (lift m) others j)
  fix_kept m (x_body spec comp) = λ j. max (triple_kept m spec j) (comp_kept (lift m) comp j)

  pub comp_kept : (m : Map) (comp : CompTree) → greatest_in_comp (rename_comp m comp) ≡ greatest_in_comp comp
  comp_kept m (c_ret term) = term_kept m term
  comp_kept m (c_step step others) = λ j. max (step_kept m step j) (comp_kept (lift m) others j)

  pub step_kept : (m : Map) (step : StepTree) → greatest_in_step (rename_step m step) ≡ greatest_in_step step
  step_kept m (s_run term mono) = λ j. max (term_kept m term j) (option_kept m mono j)
  step_kept m (s_alloc mono value) = λ j. max (nodes_mono_kept m mono j) (term_kept m value j)
  step_kept m (s_get mono place) = λ j. max (nodes_mono_kept m mono j) (term_kept m place j)
  step_kept m (s_set mono place value) = λ j. max (nodes_mono_kept m mono j) (max (term_kept m place j) (term_kept m value j))
  step_kept m (s_free mono place) = λ j. max (nodes_mono_kept m mono j) (term_kept m place j)
  step_kept m (s_if mono test on_true on_false) = λ j. max (nodes_mono_kept m mono j) (max (term_kept m test j) (max (comp_kept m on_true j) (comp_kept m on_false j)))
  step_kept m (s_claim formula) = formula_kept (lift (lift m)) formula

  pub formula_kept : (m : Map) (formula : FormulaTree) → greatest_in_formula (rename_formula m formula) ≡ greatest_in_formula formula
  formula_kept m f_tt = refl
  formula_kept m f_ff = refl
  formula_kept m (f_and left right) = λ j. max (formula_kept m left j) (formula_kept m right j)
  formula_kept m (f_or left right) = λ j. max (formula_kept m left j) (formula_kept m right j)
  formula_kept m (f_imp left right) = λ j. max (formula_kept m left j) (formula_kept m right j)
  formula_kept m (f_all_t mono body) = λ j. max (nodes_mono_kept m mono j) (formula_kept (lift m) body j)
  formula_kept m (f_ex_t mono body) = λ j. max (nodes_mono_kept m mono j) (formula_kept (lift m) body j)
  formula_kept m (f_all_h body) = formula_kept (lift m) body
  formula_kept m (f_ex_h body) = formula_kept (lift m) body
  formula_kept m (f_emp heap) = refl
  formula_kept m (f_cell mono heap place value) = λ j. max (nodes_mono_kept m mono j) (max (term_kept m place j) (term_kept m value j))
  formula_kept m (f_block mono heap place) = λ j. max (nodes_mono_kept m mono j) (term_kept m place j)
  formula_kept m (f_join whole left right) = refl
  formula_kept m (f_same left right) = refl
  formula_kept m (f_eq mono left right) = λ j. max (nodes_mono_kept m mono j) (max (term_kept m left j) (term_kept m right j))
  formula_kept m (f_at at formula) = formula_kept m formula
  formula_kept m (f_rec number heap place arguments) = λ j. max (term_kept m place j) (terms_kept m arguments j)

  pub terms_kept : (m : Map) (terms : TermTrees) → greatest_in_terms (rename_terms m terms) ≡ greatest_in_terms terms
  terms_kept m no_terms = refl
  terms_kept m (more_terms first others) = λ j. max (term_kept m first j) (terms_kept m others j)
