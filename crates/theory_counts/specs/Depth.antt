-- The most nodes on one path down a tree, with the nodes of `Nodes.antt`. The steps of a computation and its
-- result stand side by side, and so do the parameters of a recursive function, its triple and its body, and
-- the statements of a proof and its end: so what a computation, a recursive function or a list of
-- statements has here is the depth under its own node.
use Rattle.std.specs.Prelude.{ℕ, zero, suc, max, List, [], ◌∷◌, Option, Some, None}
use Rattle.htt_syntax.specs.Trees.{MonoTree, TyTree, TripleTree, TermTree, FixTree, CompTree, StepTree, FormulaTree}
use Rattle.htt_syntax.specs.Trees.{TermTrees, ArgTree, ProofTree, StmtTree, BlockTree, m_word, m_bool, m_loc, m_unit}
use Rattle.htt_syntax.specs.Trees.{m_pair, m_var, y_mono, y_fun, y_all, y_hoare, y_at, triple, t_var, t_val, t_def}
use Rattle.htt_syntax.specs.Trees.{t_app, t_inst, t_lam, t_lam_t, t_do, t_fix, t_word, t_bool, t_loc, t_unit, t_pair}
use Rattle.htt_syntax.specs.Trees.{t_fst, t_snd, t_not, t_bin, t_eq, t_sel, t_ann, t_made, t_at, x_param, x_body, c_ret}
use Rattle.htt_syntax.specs.Trees.{c_step, s_run, s_alloc, s_get, s_set, s_free, s_if, s_claim, f_tt, f_ff, f_and, f_or}
use Rattle.htt_syntax.specs.Trees.{f_imp, f_all_t, f_ex_t, f_all_h, f_ex_h, f_emp, f_cell, f_block, f_join, f_same}
use Rattle.htt_syntax.specs.Trees.{f_eq, f_at, f_rec, no_terms, more_terms, a_heap, a_term, p_hyp, p_trivial, p_refl}
use Rattle.htt_syntax.specs.Trees.{p_first, p_second, p_left, p_right, p_absurd, p_both, p_give, p_app, p_inst, p_case}
use Rattle.htt_syntax.specs.Trees.{p_rewrite, p_induct, p_split, p_axiom, p_lem, p_the, p_block, p_at, p_unfold}
use Rattle.htt_syntax.specs.Trees.{d_intro, d_gen, d_have, d_open, d_at, b_then, b_end}

unfoldable pub depth_mono : MonoTree → ℕ
depth_mono m_word = 1
depth_mono m_bool = 1
depth_mono m_loc = 1
depth_mono m_unit = 1
depth_mono (m_pair left right) = suc (max (depth_mono left) (depth_mono right))
depth_mono (m_var index) = 1

unfoldable pub depth_option : Option MonoTree → ℕ
depth_option None = zero
depth_option (Some mono) = depth_mono mono

unfoldable pub depth_monos : List MonoTree → ℕ
depth_monos [] = zero
depth_monos (mono ∷ others) = max (depth_mono mono) (depth_monos others)

unfoldable mutual
  pub depth_ty : TyTree → ℕ
  depth_ty (y_mono mono) = suc (depth_mono mono)
  depth_ty (y_fun argument answer) = suc (max (depth_ty argument) (depth_ty answer))
  depth_ty (y_all body) = suc (depth_ty body)
  depth_ty (y_hoare spec) = suc (depth_triple spec)
  depth_ty (y_at at ty) = depth_ty ty

  pub depth_triple : TripleTree → ℕ
  depth_triple (triple pre mono post) = suc (max (depth_formula pre) (max (depth_mono mono) (depth_formula post)))

  pub depth_term : TermTree → ℕ
  depth_term (t_var index) = 1
  depth_term (t_val number) = 1
  depth_term (t_def number) = 1
  depth_term (t_app function argument) = suc (max (depth_term function) (depth_term argument))
  depth_term (t_inst function mono) = suc (max (depth_term function) (depth_mono mono))
  depth_term (t_lam body) = suc (depth_term body)
  depth_term (t_lam_t body) = suc (depth_term body)
  depth_term (t_do comp) = suc (suc (within_comp comp))
  depth_term (t_fix at fix) = suc (suc (within_fix fix))
  depth_term (t_word word) = 1
  depth_term (t_bool truth) = 1
  depth_term (t_loc place) = 1
  depth_term t_unit = 1
  depth_term (t_pair left right) = suc (max (depth_term left) (depth_term right))
  depth_term (t_fst pair) = suc (depth_term pair)
  depth_term (t_snd pair) = suc (depth_term pair)
  depth_term (t_not term) = suc (depth_term term)
  depth_term (t_bin op left right) = suc (max (depth_term left) (depth_term right))
  depth_term (t_eq mono left right) = suc (max (depth_mono mono) (max (depth_term left) (depth_term right)))
  depth_term (t_sel mono test on_true on_false) =
      suc (max (depth_mono mono) (max (depth_term test) (max (depth_term on_true) (depth_term on_false))))
  depth_term (t_ann term ty) = suc (max (depth_term term) (depth_ty ty))
  depth_term (t_made number values) = suc (depth_terms values)
  depth_term (t_at at term) = depth_term term

  pub within_fix : FixTree → ℕ
  within_fix (x_param ty others) = max (depth_ty ty) (within_fix others)
  within_fix (x_body spec comp) = max (depth_triple spec) (suc (within_comp comp))

  pub within_comp : CompTree → ℕ
  within_comp (c_ret term) = depth_term term
  within_comp (c_step step others) = max (depth_step step) (within_comp others)

  pub depth_step : StepTree → ℕ
  depth_step (s_run term mono) = suc (max (depth_term term) (depth_option mono))
  depth_step (s_alloc mono value) = suc (max (depth_mono mono) (depth_term value))
  depth_step (s_get mono place) = suc (max (depth_mono mono) (depth_term place))
  depth_step (s_set mono place value) = suc (max (depth_mono mono) (max (depth_term place) (depth_term value)))
  depth_step (s_free mono place) = suc (max (depth_mono mono) (depth_term place))
  depth_step (s_if mono test on_true on_false) =
      suc (max (depth_mono mono) (max (depth_term test) (max (suc (within_comp on_true)) (suc (within_comp on_false)))))
  depth_step (s_claim formula) = suc (depth_formula formula)

  pub depth_formula : FormulaTree → ℕ
  depth_formula f_tt = 1
  depth_formula f_ff = 1
  depth_formula (f_and left right) = suc (max (depth_formula left) (depth_formula right))
  depth_formula (f_or left right) = suc (max (depth_formula left) (depth_formula right))
  depth_formula (f_imp left right) = suc (max (depth_formula left) (depth_formula right))
  depth_formula (f_all_t mono body) = suc (max (depth_mono mono) (depth_formula body))
  depth_formula (f_ex_t mono body) = suc (max (depth_mono mono) (depth_formula body))
  depth_formula (f_all_h body) = suc (depth_formula body)
  depth_formula (f_ex_h body) = suc (depth_formula body)
  depth_formula (f_emp heap) = 1
  depth_formula (f_cell mono heap place value) = suc (max (depth_mono mono) (max (depth_term place) (depth_term value)))
  depth_formula (f_block mono heap place) = suc (max (depth_mono mono) (depth_term place))
  depth_formula (f_join whole left right) = 1
  depth_formula (f_same left right) = 1
  depth_formula (f_eq mono left right) = suc (max (depth_mono mono) (max (depth_term left) (depth_term right)))
  depth_formula (f_at at formula) = depth_formula formula
  depth_formula (f_rec number heap place arguments) = suc (max (depth_term place) (depth_terms arguments))

  pub depth_terms : TermTrees → ℕ
  depth_terms no_terms = zero
  depth_terms (more_terms first others) = max (depth_term first) (depth_terms others)

unfoldable pub depth_arg : ArgTree → ℕ
depth_arg (a_heap heap) = 1
depth_arg (a_term term) = suc (depth_term term)

unfoldable pub depth_args : List ArgTree → ℕ
depth_args [] = zero
depth_args (arg ∷ others) = max (depth_arg arg) (depth_args others)

unfoldable mutual
  pub depth_proof : ProofTree → ℕ
  depth_proof (p_hyp number) = 1
  depth_proof p_trivial = 1
  depth_proof p_refl = 1
  depth_proof (p_first proof) = suc (depth_proof proof)
  depth_proof (p_second proof) = suc (depth_proof proof)
  depth_proof (p_left proof) = suc (depth_proof proof)
  depth_proof (p_right proof) = suc (depth_proof proof)
  depth_proof (p_absurd proof) = suc (depth_proof proof)
  depth_proof (p_both left right) = suc (max (depth_proof left) (depth_proof right))
  depth_proof (p_give arg proof) = suc (max (depth_arg arg) (depth_proof proof))
  depth_proof (p_app function argument) = suc (max (depth_proof function) (depth_proof argument))
  depth_proof (p_inst proof arg) = suc (max (depth_proof proof) (depth_arg arg))
  depth_proof (p_case either left right) = suc (max (depth_proof either) (max (depth_proof left) (depth_proof right)))
  depth_proof (p_rewrite equation motive proof) =
      suc (max (depth_proof equation) (max (depth_formula motive) (depth_proof proof)))
  depth_proof (p_induct motive word at_zero at_next) =
      suc (max (depth_formula motive) (max (depth_term word) (max (depth_proof at_zero) (depth_proof at_next))))
  depth_proof (p_split motive test on_true on_false) =
      suc (max (depth_formula motive) (max (depth_term test) (max (depth_proof on_true) (depth_proof on_false))))
  depth_proof (p_axiom name monos arguments) = suc (max (depth_monos monos) (depth_args arguments))
  depth_proof (p_lem formula) = suc (depth_formula formula)
  depth_proof (p_the formula proof) = suc (max (depth_formula formula) (depth_proof proof))
  depth_proof (p_block block) = suc (within_block block)
  depth_proof (p_at at proof) = depth_proof proof
  depth_proof (p_unfold number case arguments) = suc (depth_args arguments)

  pub depth_stmt : StmtTree → ℕ
  depth_stmt d_intro = 1
  depth_stmt d_gen = 1
  depth_stmt (d_have formula proof) = suc (max (depth_formula formula) (depth_proof proof))
  depth_stmt (d_open proof) = suc (depth_proof proof)
  depth_stmt (d_at at stmt) = depth_stmt stmt

  pub within_block : BlockTree → ℕ
  within_block (b_then stmt others) = max (depth_stmt stmt) (within_block others)
  within_block (b_end proof) = depth_proof proof

abbrev pub depth_comp : CompTree → ℕ
depth_comp comp = suc (within_comp comp)
