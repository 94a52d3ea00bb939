-- Counts of nodes and depth pass over positions.
use Rattle.std.specs.Prelude.{◌≡◌, suc, ◌+◌, max}
use Rattle.std.proofs.Common.{refl}
use Rattle.htt_syntax.specs.Trees.{TyTree, TripleTree, TermTree, FixTree, CompTree, StepTree, FormulaTree, TermTrees, y_mono, y_fun, y_all, y_hoare, y_at}
use Rattle.htt_syntax.specs.Trees.{triple, t_var, t_val, t_def, t_app, t_inst, t_lam, t_lam_t, t_do, t_fix, t_word, t_bool, t_loc, t_unit, t_pair, t_fst, t_snd}
use Rattle.htt_syntax.specs.Trees.{t_not, t_bin, t_eq, t_sel, t_ann, t_made, t_at, x_param, x_body, c_ret, c_step, s_run, s_alloc, s_get, s_set, s_free, s_if}
use Rattle.htt_syntax.specs.Trees.{s_claim, f_tt, f_ff, f_and, f_or, f_imp, f_all_t, f_ex_t, f_all_h, f_ex_h, f_emp, f_cell, f_block, f_join, f_same, f_eq}
use Rattle.htt_syntax.specs.Trees.{f_at, f_rec, no_terms, more_terms}
use Rattle.theory_typing.specs.Positions.{plain_ty, plain_triple, plain_term, plain_fix, plain_comp, plain_step, plain_formula, plain_terms}
use Rattle.theory_counts.specs.Nodes.{nodes_mono, nodes_option, nodes_ty, nodes_triple, nodes_term, nodes_fix, nodes_comp, nodes_step, nodes_formula}
use Rattle.theory_counts.specs.Nodes.{nodes_terms}
use Rattle.theory_counts.specs.Depth.{depth_formula, depth_step, depth_term, depth_terms, depth_triple, depth_ty, within_comp, within_fix, depth_mono}
use Rattle.theory_counts.specs.Depth.{depth_option}

mutual
  unfolding nodes_ty plain_term

  pub nodes_ty_plain : (t : TyTree) → nodes_ty (plain_ty t) ≡ nodes_ty t
  nodes_ty_plain (y_mono mono) = refl
  nodes_ty_plain (y_fun argument answer) = λ j. suc (nodes_ty_plain argument j + nodes_ty_plain answer j)
  nodes_ty_plain (y_all body) = λ j. suc (nodes_ty_plain body j)
  nodes_ty_plain (y_hoare spec) = λ j. suc (nodes_triple_plain spec j)
  nodes_ty_plain (y_at at ty) = nodes_ty_plain ty

  pub nodes_triple_plain : (t : TripleTree) → nodes_triple (plain_triple t) ≡ nodes_triple t
  nodes_triple_plain (triple pre mono post) = λ j. suc (nodes_formula_plain pre j + nodes_mono mono + nodes_formula_plain post j)

  pub nodes_term_plain : (t : TermTree) → nodes_term (plain_term t) ≡ nodes_term t
  nodes_term_plain (t_var index) = refl
  nodes_term_plain (t_val number) = refl
  nodes_term_plain (t_def number) = refl
  nodes_term_plain (t_app function argument) = λ j. suc (nodes_term_plain function j + nodes_term_plain argument j)
  nodes_term_plain (t_inst function mono) = λ j. suc (nodes_term_plain function j + nodes_mono mono)
  nodes_term_plain (t_lam body) = λ j. suc (nodes_term_plain body j)
  nodes_term_plain (t_lam_t body) = λ j. suc (nodes_term_plain body j)
  nodes_term_plain (t_do comp) = λ j. suc (nodes_comp_plain comp j)
  nodes_term_plain (t_fix at fix) = λ j. suc (nodes_fix_plain fix j)
  nodes_term_plain (t_word word) = refl
  nodes_term_plain (t_bool truth) = refl
  nodes_term_plain (t_loc place) = refl
  nodes_term_plain t_unit = refl
  nodes_term_plain (t_pair left right) = λ j. suc (nodes_term_plain left j + nodes_term_plain right j)
  nodes_term_plain (t_fst pair) = λ j. suc (nodes_term_plain pair j)
  nodes_term_plain (t_snd pair) = λ j. suc (nodes_term_plain pair j)
  nodes_term_plain (t_not term) = λ j. suc (nodes_term_plain term j)
  nodes_term_plain (t_bin op left right) = λ j. suc (nodes_term_plain left j + nodes_term_plain right j)
  nodes_term_plain (t_eq mono left right) = λ j. suc (nodes_mono mono + (nodes_term_plain left j) + nodes_term_plain right j)
  nodes_term_plain (t_sel mono test on_true on_false) =
      λ j. suc (nodes_mono mono + (nodes_term_plain test j) + (nodes_term_plain on_true j) + nodes_term_plain on_false j)
  nodes_term_plain (t_ann term ty) = λ j. suc (nodes_term_plain term j + nodes_ty_plain ty j)
  nodes_term_plain (t_made number values) = λ j. suc (nodes_terms_plain values j)
  nodes_term_plain (t_at at term) = nodes_term_plain term

  pub nodes_fix_plain : (t : FixTree) → nodes_fix (plain_fix t) ≡ nodes_fix t
  nodes_fix_plain (x_param ty others) = λ j. (nodes_ty_plain ty j) + (nodes_fix_plain others j)
  nodes_fix_plain (x_body spec comp) = λ j. suc (nodes_triple_plain spec j + nodes_comp_plain comp j)

  pub nodes_comp_plain : (t : CompTree) → nodes_comp (plain_comp t) ≡ nodes_comp t
  nodes_comp_plain (c_ret term) = λ j. suc (nodes_term_plain term j)
  nodes_comp_plain (c_step step others) = λ j. (nodes_step_plain step j) + (nodes_comp_plain others j)

  pub nodes_step_plain : (t : StepTree) → nodes_step (plain_step t) ≡ nodes_step t
  nodes_step_plain (s_run term mono) = λ j. suc (nodes_term_plain term j + nodes_option mono)
  nodes_step_plain (s_alloc mono value) = λ j. suc (nodes_mono mono + nodes_term_plain value j)
  nodes_step_plain (s_get mono place) = λ j. suc (nodes_mono mono + nodes_term_plain place j)
  nodes_step_plain (s_set mono place value) = λ j. suc (nodes_mono mono + (nodes_term_plain place j) + nodes_term_plain value j)
  nodes_step_plain (s_free mono place) = λ j. suc (nodes_mono mono + nodes_term_plain place j)
  nodes_step_plain (s_if mono test on_true on_false) =
      λ j. suc (nodes_mono mono + (nodes_term_plain test j) + (nodes_comp_plain on_true j) + nodes_comp_plain on_false j)
  nodes_step_plain (s_claim formula) = λ j. suc (nodes_formula_plain formula j)

  pub nodes_formula_plain : (t : FormulaTree) → nodes_formula (plain_formula t) ≡ nodes_formula t
  nodes_formula_plain f_tt = refl
  nodes_formula_plain f_ff = refl
  nodes_formula_plain (f_and left right) = λ j. suc (nodes_formula_plain left j + nodes_formula_plain right j)
  nodes_formula_plain (f_or left right) = λ j. suc (nodes_formula_plain left j + nodes_formula_plain right j)
  nodes_formula_plain (f_imp left right) = λ j. suc (nodes_formula_plain left j + nodes_formula_plain right j)
  nodes_formula_plain (f_all_t mono body) = λ j. suc (nodes_mono mono + nodes_formula_plain body j)
  nodes_formula_plain (f_ex_t mono body) = λ j. suc (nodes_mono mono + nodes_formula_plain body j)
  nodes_formula_plain (f_all_h body) = λ j. suc (nodes_formula_plain body j)
  nodes_formula_plain (f_ex_h body) = λ j. suc (nodes_formula_plain body j)
  nodes_formula_plain (f_emp heap) = refl
  nodes_formula_plain (f_cell mono heap place value) = λ j. suc (nodes_mono mono + (nodes_term_plain place j) + nodes_term_plain value j)
  nodes_formula_plain (f_block mono heap place) = λ j. suc (nodes_mono mono + nodes_term_plain place j)
  nodes_formula_plain (f_join whole left right) = refl
  nodes_formula_plain (f_same left right) = refl
  nodes_formula_plain (f_eq mono left right) = λ j. suc (nodes_mono mono + (nodes_term_plain left j) + nodes_term_plain right j)
  nodes_formula_plain (f_at at formula) = nodes_formula_plain formula
  nodes_formula_plain (f_rec number heap place arguments) = λ j. suc (nodes_term_plain place j + nodes_terms_plain arguments j)

  pub nodes_terms_plain : (t : TermTrees) → nodes_terms (plain_terms t) ≡ nodes_terms t
  nodes_terms_plain no_terms = refl
  nodes_terms_plain (more_terms first others) = λ j. (nodes_term_plain first j) + (nodes_terms_plain others j)

mutual
  unfolding depth_ty plain_term

  pub depth_ty_plain : (t : TyTree) → depth_ty (plain_ty t) ≡ depth_ty t
  depth_ty_plain (y_mono mono) = refl
  depth_ty_plain (y_fun argument answer) = λ j. suc (max (depth_ty_plain argument j) (depth_ty_plain answer j))
  depth_ty_plain (y_all body) = λ j. suc (depth_ty_plain body j)
  depth_ty_plain (y_hoare spec) = λ j. suc (depth_triple_plain spec j)
  depth_ty_plain (y_at at ty) = depth_ty_plain ty

  pub depth_triple_plain : (t : TripleTree) → depth_triple (plain_triple t) ≡ depth_triple t
  depth_triple_plain (triple pre mono post) = λ j. suc (max (depth_formula_plain pre j) (max (depth_mono mono) (depth_formula_plain post j)))

  pub depth_term_plain : (t : TermTree) → depth_term (plain_term t) ≡ depth_term t
  depth_term_plain (t_var index) = refl
  depth_term_plain (t_val number) = refl
  depth_term_plain (t_def number) = refl
  depth_term_plain (t_app function argument) = λ j. suc (max (depth_term_plain function j) (depth_term_plain argument j))
  depth_term_plain (t_inst function mono) = λ j. suc (max (depth_term_plain function j) (depth_mono mono))
  depth_term_plain (t_lam body) = λ j. suc (depth_term_plain body j)
  depth_term_plain (t_lam_t body) = λ j. suc (depth_term_plain body j)
  depth_term_plain (t_do comp) = λ j. suc (suc (within_comp_plain comp j))
  depth_term_plain (t_fix at fix) = λ j. suc (suc (within_fix_plain fix j))
  depth_term_plain (t_word word) = refl
  depth_term_plain (t_bool truth) = refl
  depth_term_plain (t_loc place) = refl
  depth_term_plain t_unit = refl
  depth_term_plain (t_pair left right) = λ j. suc (max (depth_term_plain left j) (depth_term_plain right j))
  depth_term_plain (t_fst pair) = λ j. suc (depth_term_plain pair j)
  depth_term_plain (t_snd pair) = λ j. suc (depth_term_plain pair j)
  depth_term_plain (t_not term) = λ j. suc (depth_term_plain term j)
  depth_term_plain (t_bin op left right) = λ j. suc (max (depth_term_plain left j) (depth_term_plain right j))
  depth_term_plain (t_eq mono left right) = λ j. suc (max (depth_mono mono) (max (depth_term_plain left j) (depth_term_plain right j)))
  depth_term_plain (t_sel mono test on_true on_false) =
      λ j. suc (max (depth_mono mono) (max (depth_term_plain test j) (max (depth_term_plain on_true j) (depth_term_plain on_false j))))
  depth_term_plain (t_ann term ty) = λ j. suc (max (depth_term_plain term j) (depth_ty_plain ty j))
  depth_term_plain (t_made number values) = λ j. suc (depth_terms_plain values j)
  depth_term_plain (t_at at term) = depth_term_plain term

  pub within_fix_plain : (t : FixTree) → within_fix (plain_fix t) ≡ within_fix t
  within_fix_plain (x_param ty others) = λ j. max (depth_ty_plain ty j) (within_fix_plain others j)
  within_fix_plain (x_body spec comp) = λ j. max (depth_triple_plain spec j) (suc (within_comp_plain comp j))

  pub within_comp_plain : (t : CompTree) → within_comp (plain_comp t) ≡ within_comp t
  within_comp_plain (c_ret term) = λ j. (depth_term_plain term j)
  within_comp_plain (c_step step others) = λ j. max (depth_step_plain step j) (within_comp_plain others j)

  pub depth_step_plain : (t : StepTree) → depth_step (plain_step t) ≡ depth_step t
  depth_step_plain (s_run term mono) = λ j. suc (max (depth_term_plain term j) (depth_option mono))
  depth_step_plain (s_alloc mono value) = λ j. suc (max (depth_mono mono) (depth_term_plain value j))
  depth_step_plain (s_get mono place) = λ j. suc (max (depth_mono mono) (depth_term_plain place j))
  depth_step_plain (s_set mono place value) = λ j. suc (max (depth_mono mono) (max (depth_term_plain place j) (depth_term_plain value j)))
  depth_step_plain (s_free mono place) = λ j. suc (max (depth_mono mono) (depth_term_plain place j))
  depth_step_plain (s_if mono test on_true on_false) = λ j.
      suc
      (max (depth_mono mono) (max (depth_term_plain test j) (max (suc (within_comp_plain on_true j)) (suc (within_comp_plain on_false j)))))
  depth_step_plain (s_claim formula) = λ j. suc (depth_formula_plain formula j)

  pub depth_formula_plain : (t : FormulaTree) → depth_formula (plain_formula t) ≡ depth_formula t
  depth_formula_plain f_tt = refl
  depth_formula_plain f_ff = refl
  depth_formula_plain (f_and left right) = λ j. suc (max (depth_formula_plain left j) (depth_formula_plain right j))
  depth_formula_plain (f_or left right) = λ j. suc (max (depth_formula_plain left j) (depth_formula_plain right j))
  depth_formula_plain (f_imp left right) = λ j. suc (max (depth_formula_plain left j) (depth_formula_plain right j))
  depth_formula_plain (f_all_t mono body) = λ j. suc (max (depth_mono mono) (depth_formula_plain body j))
  depth_formula_plain (f_ex_t mono body) = λ j. suc (max (depth_mono mono) (depth_formula_plain body j))
  depth_formula_plain (f_all_h body) = λ j. suc (depth_formula_plain body j)
  depth_formula_plain (f_ex_h body) = λ j. suc (depth_formula_plain body j)
  depth_formula_plain (f_emp heap) = refl
  depth_formula_plain (f_cell mono heap place value) = λ j. suc (max (depth_mono mono) (max (depth_term_plain place j) (depth_term_plain value j)))
  depth_formula_plain (f_block mono heap place) = λ j. suc (max (depth_mono mono) (depth_term_plain place j))
  depth_formula_plain (f_join whole left right) = refl
  depth_formula_plain (f_same left right) = refl
  depth_formula_plain (f_eq mono left right) = λ j. suc (max (depth_mono mono) (max (depth_term_plain left j) (depth_term_plain right j)))
  depth_formula_plain (f_at at formula) = depth_formula_plain formula
  depth_formula_plain (f_rec number heap place arguments) = λ j. suc (max (depth_term_plain place j) (depth_terms_plain arguments j))

  pub depth_terms_plain : (t : TermTrees) → depth_terms (plain_terms t) ≡ depth_terms t
  depth_terms_plain no_terms = refl
  depth_terms_plain (more_terms first others) = λ j. max (depth_term_plain first j) (depth_terms_plain others j)
