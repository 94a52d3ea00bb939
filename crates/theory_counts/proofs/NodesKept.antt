-- Renaming keeps the count of nodes.
use Rattle.std.proofs.Common.{◌≡◌, suc, ◌+◌, List, [], ◌∷◌, map, Option, Some, None, refl}
use Rattle.std.specs.Prelude.{option_map}
use Rattle.htt_syntax.specs.Trees.{binders_of, MonoTree, TyTree, TripleTree, TermTree, FixTree, CompTree, StepTree, FormulaTree, TermTrees, ArgTree, ProofTree}
use Rattle.htt_syntax.specs.Trees.{StmtTree, BlockTree, m_word, m_bool, m_loc, m_unit, m_pair, m_var, y_mono, y_fun, y_all, y_hoare, y_at, triple, t_var, t_val}
use Rattle.htt_syntax.specs.Trees.{t_def, t_app, t_inst, t_lam, t_lam_t, t_do, t_fix, t_word, t_bool, t_loc, t_unit, t_pair, t_fst, t_snd, t_not, t_bin, t_eq}
use Rattle.htt_syntax.specs.Trees.{t_sel, t_ann, t_made, t_at, x_param, x_body, c_ret, c_step, s_run, s_alloc, s_get, s_set, s_free, s_if, s_claim, f_tt, f_ff}
use Rattle.htt_syntax.specs.Trees.{f_and, f_or, f_imp, f_all_t, f_ex_t, f_all_h, f_ex_h, f_emp, f_cell, f_block, f_join, f_same, f_eq, f_at, f_rec, no_terms}
use Rattle.htt_syntax.specs.Trees.{more_terms, a_heap, a_term, p_hyp, p_trivial, p_refl, p_first, p_second, p_left, p_right, p_absurd, p_both, p_give, p_app}
use Rattle.htt_syntax.specs.Trees.{p_inst, p_case, p_rewrite, p_induct, p_split, p_axiom, p_lem, p_the, p_block, p_at, p_unfold, d_intro, d_gen, d_have, d_open}
use Rattle.htt_syntax.specs.Trees.{d_at, b_then, b_end}
use Rattle.theory_renaming.specs.Renaming.{Map, lift, lifts, rename_mono, rename_ty, rename_triple, rename_term, rename_fix, rename_comp, rename_step}
use Rattle.theory_renaming.specs.Renaming.{rename_formula, rename_terms, rename_arg, rename_proof, rename_stmt, rename_block}
use Rattle.theory_counts.specs.Nodes.{nodes_mono, nodes_ty, nodes_triple, nodes_term, nodes_fix, nodes_comp, nodes_step, nodes_formula, nodes_terms, nodes_arg}
use Rattle.theory_counts.specs.Nodes.{nodes_proof, nodes_stmt, nodes_block, nodes_option, nodes_monos, nodes_args}

pub nodes_mono_kept : (m : Map) (mono : MonoTree) → nodes_mono (rename_mono m mono) ≡ nodes_mono mono
unfolding nodes_mono rename_mono
nodes_mono_kept m m_word = refl
nodes_mono_kept m m_bool = refl
nodes_mono_kept m m_loc = refl
nodes_mono_kept m m_unit = refl
nodes_mono_kept m (m_pair left right) = λ j. suc (nodes_mono_kept m left j + nodes_mono_kept m right j)
nodes_mono_kept m (m_var index) = refl

nodes_option_kept : (m : Map) (given : Option MonoTree) → nodes_option (option_map (rename_mono m) given) ≡ nodes_option given
unfolding nodes_option
nodes_option_kept m None = refl
nodes_option_kept m (Some mono) = nodes_mono_kept m mono

nodes_monos_kept : (m : Map) (monos : List MonoTree) → nodes_monos (map (rename_mono m) monos) ≡ nodes_monos monos
unfolding nodes_monos
nodes_monos_kept m [] = refl
nodes_monos_kept m (mono ∷ others) = λ j. nodes_mono_kept m mono j + nodes_monos_kept m others j

mutual
  unfolding nodes_comp nodes_fix nodes_formula nodes_option nodes_step nodes_term nodes_terms nodes_triple nodes_ty rename_comp rename_fix
      rename_formula rename_step rename_term rename_terms rename_triple rename_ty

  pub nodes_ty_kept : (m : Map) (ty : TyTree) → nodes_ty (rename_ty m ty) ≡ nodes_ty ty
  nodes_ty_kept m (y_mono mono) = λ j. suc (nodes_mono_kept m mono j)
  nodes_ty_kept m (y_fun argument answer) = λ j. suc (nodes_ty_kept m argument j + nodes_ty_kept (lift m) answer j)
  nodes_ty_kept m (y_all body) = λ j. suc (nodes_ty_kept (lift m) body j)
  nodes_ty_kept m (y_hoare spec) = λ j. suc (nodes_triple_kept m spec j)
  nodes_ty_kept m (y_at at ty) = nodes_ty_kept m ty

  pub nodes_triple_kept : (m : Map) (spec : TripleTree) → nodes_triple (rename_triple m spec) ≡ nodes_triple spec
  nodes_triple_kept m (triple pre mono post) =
      λ j. suc (nodes_formula_kept (lift m) pre j + nodes_mono_kept m mono j + nodes_formula_kept (lift (lift (lift m))) post j)

  pub nodes_term_kept : (m : Map) (term : TermTree) → nodes_term (rename_term m term) ≡ nodes_term term
  nodes_term_kept m (t_var index) = refl
  nodes_term_kept m (t_val number) = refl
  nodes_term_kept m (t_def number) = refl
  nodes_term_kept m (t_app function argument) = λ j. suc (nodes_term_kept m function j + nodes_term_kept m argument j)
  nodes_term_kept m (t_inst function mono) = λ j. suc (nodes_term_kept m function j + nodes_mono_kept m mono j)
  nodes_term_kept m (t_lam body) = λ j. suc (nodes_term_kept (lift m) body j)
  nodes_term_kept m (t_lam_t body) = λ j. suc (nodes_term_kept (lift m) body j)
  nodes_term_kept m (t_do comp) = λ j. suc (nodes_comp_kept m comp j)
  nodes_term_kept m (t_fix at fix) = λ j. suc (nodes_fix_kept m fix j)
  nodes_term_kept m (t_word word) = refl
  nodes_term_kept m (t_bool truth) = refl
  nodes_term_kept m (t_loc place) = refl
  nodes_term_kept m t_unit = refl
  nodes_term_kept m (t_pair left right) = λ j. suc (nodes_term_kept m left j + nodes_term_kept m right j)
  nodes_term_kept m (t_fst pair) = λ j. suc (nodes_term_kept m pair j)
  nodes_term_kept m (t_snd pair) = λ j. suc (nodes_term_kept m pair j)
  nodes_term_kept m (t_not term) = λ j. suc (nodes_term_kept m term j)
  nodes_term_kept m (t_bin op left right) = λ j. suc (nodes_term_kept m left j + nodes_term_kept m right j)
  nodes_term_kept m (t_eq mono left right) = λ j. suc (nodes_mono_kept m mono j + nodes_term_kept m left j + nodes_term_kept m right j)
  nodes_term_kept m (t_sel mono test on_true on_false) =
      λ j. suc (nodes_mono_kept m mono j + nodes_term_kept m test j + nodes_term_kept m on_true j + nodes_term_kept m on_false j)
  nodes_term_kept m (t_ann term ty) = λ j. suc (nodes_term_kept m term j + nodes_ty_kept m ty j)
  nodes_term_kept m (t_made number values) = λ j. suc (nodes_terms_kept m values j)
  nodes_term_kept m (t_at at term) = nodes_term_kept m term

  pub nodes_fix_kept : (m : Map) (fix : FixTree) → nodes_fix (rename_fix m fix) ≡ nodes_fix fix
  nodes_fix_kept m (x_param ty others) = λ j. nodes_ty_kept m ty j + nodes_fix_kept (lift m) others j
  nodes_fix_kept m (x_body spec comp) = λ j. suc (nodes_triple_kept m spec j + nodes_comp_kept (lift m) comp j)

  pub nodes_comp_kept : (m : Map) (comp : CompTree) → nodes_comp (rename_comp m comp) ≡ nodes_comp comp
  nodes_comp_kept m (c_ret term) = λ j. suc (nodes_term_kept m term j)
  nodes_comp_kept m (c_step step others) = λ j. nodes_step_kept m step j + nodes_comp_kept (lift m) others j

  pub nodes_step_kept : (m : Map) (step : StepTree) → nodes_step (rename_step m step) ≡ nodes_step step
  nodes_step_kept m (s_run term mono) = λ j. suc (nodes_term_kept m term j + nodes_option_kept m mono j)
  nodes_step_kept m (s_alloc mono value) = λ j. suc (nodes_mono_kept m mono j + nodes_term_kept m value j)
  nodes_step_kept m (s_get mono place) = λ j. suc (nodes_mono_kept m mono j + nodes_term_kept m place j)
  nodes_step_kept m (s_set mono place value) = λ j. suc (nodes_mono_kept m mono j + nodes_term_kept m place j + nodes_term_kept m value j)
  nodes_step_kept m (s_free mono place) = λ j. suc (nodes_mono_kept m mono j + nodes_term_kept m place j)
  nodes_step_kept m (s_if mono test on_true on_false) =
      λ j. suc (nodes_mono_kept m mono j + nodes_term_kept m test j + nodes_comp_kept m on_true j + nodes_comp_kept m on_false j)
  nodes_step_kept m (s_claim formula) = λ j. suc (nodes_formula_kept (lift (lift m)) formula j)

  pub nodes_formula_kept : (m : Map) (formula : FormulaTree) → nodes_formula (rename_formula m formula) ≡ nodes_formula formula
  nodes_formula_kept m f_tt = refl
  nodes_formula_kept m f_ff = refl
  nodes_formula_kept m (f_and left right) = λ j. suc (nodes_formula_kept m left j + nodes_formula_kept m right j)
  nodes_formula_kept m (f_or left right) = λ j. suc (nodes_formula_kept m left j + nodes_formula_kept m right j)
  nodes_formula_kept m (f_imp left right) = λ j. suc (nodes_formula_kept m left j + nodes_formula_kept m right j)
  nodes_formula_kept m (f_all_t mono body) = λ j. suc (nodes_mono_kept m mono j + nodes_formula_kept (lift m) body j)
  nodes_formula_kept m (f_ex_t mono body) = λ j. suc (nodes_mono_kept m mono j + nodes_formula_kept (lift m) body j)
  nodes_formula_kept m (f_all_h body) = λ j. suc (nodes_formula_kept (lift m) body j)
  nodes_formula_kept m (f_ex_h body) = λ j. suc (nodes_formula_kept (lift m) body j)
  nodes_formula_kept m (f_emp heap) = refl
  nodes_formula_kept m (f_cell mono heap place value) = λ j. suc (nodes_mono_kept m mono j + nodes_term_kept m place j + nodes_term_kept m value j)
  nodes_formula_kept m (f_block mono heap place) = λ j. suc (nodes_mono_kept m mono j + nodes_term_kept m place j)
  nodes_formula_kept m (f_join whole left right) = refl
  nodes_formula_kept m (f_same left right) = refl
  nodes_formula_kept m (f_eq mono left right) = λ j. suc (nodes_mono_kept m mono j + nodes_term_kept m left j + nodes_term_kept m right j)
  nodes_formula_kept m (f_at at formula) = nodes_formula_kept m formula
  nodes_formula_kept m (f_rec number heap place arguments) = λ j. suc (nodes_term_kept m place j + nodes_terms_kept m arguments j)

  pub nodes_terms_kept : (m : Map) (terms : TermTrees) → nodes_terms (rename_terms m terms) ≡ nodes_terms terms
  nodes_terms_kept m no_terms = refl
  nodes_terms_kept m (more_terms first others) = λ j. nodes_term_kept m first j + nodes_terms_kept m others j

pub nodes_arg_kept : (m : Map) (arg : ArgTree) → nodes_arg (rename_arg m arg) ≡ nodes_arg arg
unfolding nodes_arg rename_arg
nodes_arg_kept m (a_heap heap) = refl
nodes_arg_kept m (a_term term) = λ j. suc (nodes_term_kept m term j)

nodes_args_kept : (m : Map) (args : List ArgTree) → nodes_args (map (rename_arg m) args) ≡ nodes_args args
unfolding nodes_args
nodes_args_kept m [] = refl
nodes_args_kept m (arg ∷ others) = λ j. nodes_arg_kept m arg j + nodes_args_kept m others j

mutual
  unfolding nodes_args nodes_block nodes_monos nodes_proof nodes_stmt rename_block rename_proof rename_stmt

  pub nodes_proof_kept : (m : Map) (proof : ProofTree) → nodes_proof (rename_proof m proof) ≡ nodes_proof proof
  nodes_proof_kept m (p_hyp number) = refl
  nodes_proof_kept m p_trivial = refl
  nodes_proof_kept m p_refl = refl
  nodes_proof_kept m (p_first proof) = λ j. suc (nodes_proof_kept m proof j)
  nodes_proof_kept m (p_second proof) = λ j. suc (nodes_proof_kept m proof j)
  nodes_proof_kept m (p_left proof) = λ j. suc (nodes_proof_kept m proof j)
  nodes_proof_kept m (p_right proof) = λ j. suc (nodes_proof_kept m proof j)
  nodes_proof_kept m (p_absurd proof) = λ j. suc (nodes_proof_kept m proof j)
  nodes_proof_kept m (p_both left right) = λ j. suc (nodes_proof_kept m left j + nodes_proof_kept m right j)
  nodes_proof_kept m (p_give arg proof) = λ j. suc (nodes_arg_kept m arg j + nodes_proof_kept m proof j)
  nodes_proof_kept m (p_app function argument) = λ j. suc (nodes_proof_kept m function j + nodes_proof_kept m argument j)
  nodes_proof_kept m (p_inst proof arg) = λ j. suc (nodes_proof_kept m proof j + nodes_arg_kept m arg j)
  nodes_proof_kept m (p_case either left right) = λ j. suc (nodes_proof_kept m either j + nodes_proof_kept m left j + nodes_proof_kept m right j)
  nodes_proof_kept m (p_rewrite equation motive proof) =
      λ j. suc (nodes_proof_kept m equation j + nodes_formula_kept (lift m) motive j + nodes_proof_kept m proof j)
  nodes_proof_kept m (p_induct motive word at_zero at_next) = λ j.
      suc
      (nodes_formula_kept (lift m) motive j + nodes_term_kept m word j + nodes_proof_kept m at_zero j + nodes_proof_kept (lift m) at_next j)
  nodes_proof_kept m (p_split motive test on_true on_false) = λ j.
      suc (nodes_formula_kept (lift m) motive j + nodes_term_kept m test j + nodes_proof_kept m on_true j + nodes_proof_kept m on_false j)
  nodes_proof_kept m (p_axiom name monos arguments) = λ j. suc (nodes_monos_kept m monos j + nodes_args_kept m arguments j)
  nodes_proof_kept m (p_lem formula) = λ j. suc (nodes_formula_kept m formula j)
  nodes_proof_kept m (p_the formula proof) = λ j. suc (nodes_formula_kept m formula j + nodes_proof_kept m proof j)
  nodes_proof_kept m (p_block block) = λ j. suc (nodes_block_kept m block j)
  nodes_proof_kept m (p_at at proof) = nodes_proof_kept m proof
  nodes_proof_kept m (p_unfold number case arguments) = λ j. suc (nodes_args_kept m arguments j)

  pub nodes_stmt_kept : (m : Map) (stmt : StmtTree) → nodes_stmt (rename_stmt m stmt) ≡ nodes_stmt stmt
  nodes_stmt_kept m d_intro = refl
  nodes_stmt_kept m d_gen = refl
  nodes_stmt_kept m (d_have formula proof) = λ j. suc (nodes_formula_kept m formula j + nodes_proof_kept m proof j)
  nodes_stmt_kept m (d_open proof) = λ j. suc (nodes_proof_kept m proof j)
  nodes_stmt_kept m (d_at at stmt) = nodes_stmt_kept m stmt

  pub nodes_block_kept : (m : Map) (block : BlockTree) → nodes_block (rename_block m block) ≡ nodes_block block
  nodes_block_kept m (b_then stmt others) = λ j. nodes_stmt_kept m stmt j + nodes_block_kept (lifts (binders_of stmt) m) others j
  nodes_block_kept m (b_end proof) = nodes_proof_kept m proof
