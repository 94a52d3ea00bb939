-- Renaming keeps the depth.
use Rattle.std.proofs.Common.{◌≡◌, suc, max, List, [], ◌∷◌, map, Option, Some, None, refl}
use Rattle.std.specs.Prelude.{option_map}
use Rattle.htt_syntax.specs.Trees.{binders_of, MonoTree, TyTree, TripleTree, TermTree, FixTree, CompTree, StepTree, FormulaTree, TermTrees, ArgTree, ProofTree}
use Rattle.htt_syntax.specs.Trees.{StmtTree, BlockTree, m_word, m_bool, m_loc, m_unit, m_pair, m_var, y_mono, y_fun, y_all, y_hoare, y_at, triple, t_var, t_val}
use Rattle.htt_syntax.specs.Trees.{t_def, t_app, t_inst, t_lam, t_lam_t, t_do, t_fix, t_word, t_bool, t_loc, t_unit, t_pair, t_fst, t_snd, t_not, t_bin, t_eq}
use Rattle.htt_syntax.specs.Trees.{t_sel, t_ann, t_made, t_at, x_param, x_body, c_ret, c_step, s_run, s_alloc, s_get, s_set, s_free, s_if, s_claim, f_tt, f_ff}
use Rattle.htt_syntax.specs.Trees.{f_and, f_or, f_imp, f_all_t, f_ex_t, f_all_h, f_ex_h, f_emp, f_cell, f_block, f_join, f_same, f_eq, f_at, f_rec, no_terms}
use Rattle.htt_syntax.specs.Trees.{more_terms, a_heap, a_term, p_hyp, p_trivial, p_refl, p_first, p_second, p_left, p_right, p_absurd, p_both, p_give, p_app}
use Rattle.htt_syntax.specs.Trees.{p_inst, p_case, p_rewrite, p_induct, p_split, p_axiom, p_lem, p_the, p_block, p_at, p_unfold, d_intro, d_gen, d_have, d_open}
use Rattle.htt_syntax.specs.Trees.{d_at, b_then, b_end}
use Rattle.theory_renaming.specs.Renaming.{Map, lift, lifts, rename_mono, rename_ty, rename_triple, rename_term, rename_fix, rename_comp, rename_step}
use Rattle.theory_renaming.specs.Renaming.{rename_formula, rename_terms, rename_arg, rename_proof, rename_stmt, rename_block}
use Rattle.theory_counts.specs.Depth.{depth_mono, depth_ty, depth_triple, depth_term, within_fix, within_comp, depth_step, depth_formula, depth_terms}
use Rattle.theory_counts.specs.Depth.{depth_arg, depth_proof, depth_stmt, within_block, depth_option, depth_monos, depth_args}

pub depth_mono_kept : (m : Map) (mono : MonoTree) → depth_mono (rename_mono m mono) ≡ depth_mono mono
unfolding depth_mono rename_mono
depth_mono_kept m m_word = refl
depth_mono_kept m m_bool = refl
depth_mono_kept m m_loc = refl
depth_mono_kept m m_unit = refl
depth_mono_kept m (m_pair left right) = λ j. suc (max (depth_mono_kept m left j) (depth_mono_kept m right j))
depth_mono_kept m (m_var index) = refl

depth_option_kept : (m : Map) (given : Option MonoTree) → depth_option (option_map (rename_mono m) given) ≡ depth_option given
unfolding depth_option
depth_option_kept m None = refl
depth_option_kept m (Some mono) = depth_mono_kept m mono

depth_monos_kept : (m : Map) (monos : List MonoTree) → depth_monos (map (rename_mono m) monos) ≡ depth_monos monos
unfolding depth_monos
depth_monos_kept m [] = refl
depth_monos_kept m (mono ∷ others) = λ j. max (depth_mono_kept m mono j) (depth_monos_kept m others j)

mutual
  unfolding depth_formula depth_option depth_step depth_term depth_terms depth_triple depth_ty rename_comp rename_fix rename_formula
      rename_step rename_term rename_terms rename_triple rename_ty within_comp within_fix

  pub depth_ty_kept : (m : Map) (ty : TyTree) → depth_ty (rename_ty m ty) ≡ depth_ty ty
  depth_ty_kept m (y_mono mono) = λ j. suc (depth_mono_kept m mono j)
  depth_ty_kept m (y_fun argument answer) = λ j. suc (max (depth_ty_kept m argument j) (depth_ty_kept (lift m) answer j))
  depth_ty_kept m (y_all body) = λ j. suc (depth_ty_kept (lift m) body j)
  depth_ty_kept m (y_hoare spec) = λ j. suc (depth_triple_kept m spec j)
  depth_ty_kept m (y_at at ty) = depth_ty_kept m ty

  pub depth_triple_kept : (m : Map) (spec : TripleTree) → depth_triple (rename_triple m spec) ≡ depth_triple spec
  depth_triple_kept m (triple pre mono post) =
      λ j. suc (max (depth_formula_kept (lift m) pre j) (max (depth_mono_kept m mono j) (depth_formula_kept (lift (lift (lift m))) post j)))

  pub depth_term_kept : (m : Map) (term : TermTree) → depth_term (rename_term m term) ≡ depth_term term
  depth_term_kept m (t_var index) = refl
  depth_term_kept m (t_val number) = refl
  depth_term_kept m (t_def number) = refl
  depth_term_kept m (t_app function argument) = λ j. suc (max (depth_term_kept m function j) (depth_term_kept m argument j))
  depth_term_kept m (t_inst function mono) = λ j. suc (max (depth_term_kept m function j) (depth_mono_kept m mono j))
  depth_term_kept m (t_lam body) = λ j. suc (depth_term_kept (lift m) body j)
  depth_term_kept m (t_lam_t body) = λ j. suc (depth_term_kept (lift m) body j)
  depth_term_kept m (t_do comp) = λ j. suc (suc (within_comp_kept m comp j))
  depth_term_kept m (t_fix at fix) = λ j. suc (suc (within_fix_kept m fix j))
  depth_term_kept m (t_word word) = refl
  depth_term_kept m (t_bool truth) = refl
  depth_term_kept m (t_loc place) = refl
  depth_term_kept m t_unit = refl
  depth_term_kept m (t_pair left right) = λ j. suc (max (depth_term_kept m left j) (depth_term_kept m right j))
  depth_term_kept m (t_fst pair) = λ j. suc (depth_term_kept m pair j)
  depth_term_kept m (t_snd pair) = λ j. suc (depth_term_kept m pair j)
  depth_term_kept m (t_not term) = λ j. suc (depth_term_kept m term j)
  depth_term_kept m (t_bin op left right) = λ j. suc (max (depth_term_kept m left j) (depth_term_kept m right j))
  depth_term_kept m (t_eq mono left right) = λ j. suc (max (depth_mono_kept m mono j) (max (depth_term_kept m left j) (depth_term_kept m right j)))
  depth_term_kept m (t_sel mono test on_true on_false) = λ j.
      suc
      (max (depth_mono_kept m mono j) (max (depth_term_kept m test j) (max (depth_term_kept m on_true j) (depth_term_kept m on_false j))))
  depth_term_kept m (t_ann term ty) = λ j. suc (max (depth_term_kept m term j) (depth_ty_kept m ty j))
  depth_term_kept m (t_made number values) = λ j. suc (depth_terms_kept m values j)
  depth_term_kept m (t_at at term) = depth_term_kept m term

  pub within_fix_kept : (m : Map) (fix : FixTree) → within_fix (rename_fix m fix) ≡ within_fix fix
  within_fix_kept m (x_param ty others) = λ j. max (depth_ty_kept m ty j) (within_fix_kept (lift m) others j)
  within_fix_kept m (x_body spec comp) = λ j. max (depth_triple_kept m spec j) (suc (within_comp_kept (lift m) comp j))

  pub within_comp_kept : (m : Map) (comp : CompTree) → within_comp (rename_comp m comp) ≡ within_comp comp
  within_comp_kept m (c_ret term) = depth_term_kept m term
  within_comp_kept m (c_step step others) = λ j. max (depth_step_kept m step j) (within_comp_kept (lift m) others j)

  pub depth_step_kept : (m : Map) (step : StepTree) → depth_step (rename_step m step) ≡ depth_step step
  depth_step_kept m (s_run term mono) = λ j. suc (max (depth_term_kept m term j) (depth_option_kept m mono j))
  depth_step_kept m (s_alloc mono value) = λ j. suc (max (depth_mono_kept m mono j) (depth_term_kept m value j))
  depth_step_kept m (s_get mono place) = λ j. suc (max (depth_mono_kept m mono j) (depth_term_kept m place j))
  depth_step_kept m (s_set mono place value) = λ j. suc (max (depth_mono_kept m mono j) (max (depth_term_kept m place j) (depth_term_kept m value j)))
  depth_step_kept m (s_free mono place) = λ j. suc (max (depth_mono_kept m mono j) (depth_term_kept m place j))
  depth_step_kept m (s_if mono test on_true on_false) = λ j.
      suc (max (depth_mono_kept m mono j)
      (max (depth_term_kept m test j) (max (suc (within_comp_kept m on_true j)) (suc (within_comp_kept m on_false j)))))
  depth_step_kept m (s_claim formula) = λ j. suc (depth_formula_kept (lift (lift m)) formula j)

  pub depth_formula_kept : (m : Map) (formula : FormulaTree) → depth_formula (rename_formula m formula) ≡ depth_formula formula
  depth_formula_kept m f_tt = refl
  depth_formula_kept m f_ff = refl
  depth_formula_kept m (f_and left right) = λ j. suc (max (depth_formula_kept m left j) (depth_formula_kept m right j))
  depth_formula_kept m (f_or left right) = λ j. suc (max (depth_formula_kept m left j) (depth_formula_kept m right j))
  depth_formula_kept m (f_imp left right) = λ j. suc (max (depth_formula_kept m left j) (depth_formula_kept m right j))
  depth_formula_kept m (f_all_t mono body) = λ j. suc (max (depth_mono_kept m mono j) (depth_formula_kept (lift m) body j))
  depth_formula_kept m (f_ex_t mono body) = λ j. suc (max (depth_mono_kept m mono j) (depth_formula_kept (lift m) body j))
  depth_formula_kept m (f_all_h body) = λ j. suc (depth_formula_kept (lift m) body j)
  depth_formula_kept m (f_ex_h body) = λ j. suc (depth_formula_kept (lift m) body j)
  depth_formula_kept m (f_emp heap) = refl
  depth_formula_kept m (f_cell mono heap place value) = λ j. suc (max (depth_mono_kept m mono j) (max (depth_term_kept m place j) (depth_term_kept m value j)))
  depth_formula_kept m (f_block mono heap place) = λ j. suc (max (depth_mono_kept m mono j) (depth_term_kept m place j))
  depth_formula_kept m (f_join whole left right) = refl
  depth_formula_kept m (f_same left right) = refl
  depth_formula_kept m (f_eq mono left right) = λ j. suc (max (depth_mono_kept m mono j) (max (depth_term_kept m left j) (depth_term_kept m right j)))
  depth_formula_kept m (f_at at formula) = depth_formula_kept m formula
  depth_formula_kept m (f_rec number heap place arguments) = λ j. suc (max (depth_term_kept m place j) (depth_terms_kept m arguments j))

  pub depth_terms_kept : (m : Map) (terms : TermTrees) → depth_terms (rename_terms m terms) ≡ depth_terms terms
  depth_terms_kept m no_terms = refl
  depth_terms_kept m (more_terms first others) = λ j. max (depth_term_kept m first j) (depth_terms_kept m others j)

pub depth_arg_kept : (m : Map) (arg : ArgTree) → depth_arg (rename_arg m arg) ≡ depth_arg arg
unfolding depth_arg rename_arg
depth_arg_kept m (a_heap heap) = refl
depth_arg_kept m (a_term term) = λ j. suc (depth_term_kept m term j)

depth_args_kept : (m : Map) (args : List ArgTree) → depth_args (map (rename_arg m) args) ≡ depth_args args
unfolding depth_args
depth_args_kept m [] = refl
depth_args_kept m (arg ∷ others) = λ j. max (depth_arg_kept m arg j) (depth_args_kept m others j)

mutual
  unfolding depth_args depth_monos depth_proof depth_stmt rename_block rename_proof rename_stmt within_block

  pub depth_proof_kept : (m : Map) (proof : ProofTree) → depth_proof (rename_proof m proof) ≡ depth_proof proof
  depth_proof_kept m (p_hyp number) = refl
  depth_proof_kept m p_trivial = refl
  depth_proof_kept m p_refl = refl
  depth_proof_kept m (p_first proof) = λ j. suc (depth_proof_kept m proof j)
  depth_proof_kept m (p_second proof) = λ j. suc (depth_proof_kept m proof j)
  depth_proof_kept m (p_left proof) = λ j. suc (depth_proof_kept m proof j)
  depth_proof_kept m (p_right proof) = λ j. suc (depth_proof_kept m proof j)
  depth_proof_kept m (p_absurd proof) = λ j. suc (depth_proof_kept m proof j)
  depth_proof_kept m (p_both left right) = λ j. suc (max (depth_proof_kept m left j) (depth_proof_kept m right j))
  depth_proof_kept m (p_give arg proof) = λ j. suc (max (depth_arg_kept m arg j) (depth_proof_kept m proof j))
  depth_proof_kept m (p_app function argument) = λ j. suc (max (depth_proof_kept m function j) (depth_proof_kept m argument j))
  depth_proof_kept m (p_inst proof arg) = λ j. suc (max (depth_proof_kept m proof j) (depth_arg_kept m arg j))
  depth_proof_kept m (p_case either left right) = λ j. suc (max (depth_proof_kept m either j) (max (depth_proof_kept m left j) (depth_proof_kept m right j)))
  depth_proof_kept m (p_rewrite equation motive proof) =
      λ j. suc (max (depth_proof_kept m equation j) (max (depth_formula_kept (lift m) motive j) (depth_proof_kept m proof j)))
  depth_proof_kept m (p_induct motive word at_zero at_next) = λ j.
      suc (max (depth_formula_kept (lift m) motive j)
      (max (depth_term_kept m word j) (max (depth_proof_kept m at_zero j) (depth_proof_kept (lift m) at_next j))))
  depth_proof_kept m (p_split motive test on_true on_false) = λ j.
      suc (max (depth_formula_kept (lift m) motive j)
      (max (depth_term_kept m test j) (max (depth_proof_kept m on_true j) (depth_proof_kept m on_false j))))
  depth_proof_kept m (p_axiom name monos arguments) = λ j. suc (max (depth_monos_kept m monos j) (depth_args_kept m arguments j))
  depth_proof_kept m (p_lem formula) = λ j. suc (depth_formula_kept m formula j)
  depth_proof_kept m (p_the formula proof) = λ j. suc (max (depth_formula_kept m formula j) (depth_proof_kept m proof j))
  depth_proof_kept m (p_block block) = λ j. suc (within_block_kept m block j)
  depth_proof_kept m (p_at at proof) = depth_proof_kept m proof
  depth_proof_kept m (p_unfold number case arguments) = λ j. suc (depth_args_kept m arguments j)

  pub depth_stmt_kept : (m : Map) (stmt : StmtTree) → depth_stmt (rename_stmt m stmt) ≡ depth_stmt stmt
  depth_stmt_kept m d_intro = refl
  depth_stmt_kept m d_gen = refl
  depth_stmt_kept m (d_have formula proof) = λ j. suc (max (depth_formula_kept m formula j) (depth_proof_kept m proof j))
  depth_stmt_kept m (d_open proof) = λ j. suc (depth_proof_kept m proof j)
  depth_stmt_kept m (d_at at stmt) = depth_stmt_kept m stmt

  pub within_block_kept : (m : Map) (block : BlockTree) → within_block (rename_block m block) ≡ within_block block
  within_block_kept m (b_then stmt others) = λ j. max (depth_stmt_kept m stmt j) (within_block_kept (lifts (binders_of stmt) m) others j)
  within_block_kept m (b_end proof) = depth_proof_kept m proof
