-- How many nodes a tree has. Each phrase is one: a monotype, a type, a triple, a term, a recursive function,
-- a computation, a step, a formula, a proof, a statement and an argument. A `fix` is a term and a recursive
-- function, so two; the type `word` is a type and a monotype, so two. Lists, numbers and operators are none,
-- and a position counts nothing. The one node of a computation is counted at its result, that of a
-- recursive function at its body.
use Rattle.std.specs.Prelude.{ℕ, zero, suc, ◌+◌, List, [], ◌∷◌, Option, Some, None}
use Rattle.htt_syntax.specs.Trees.{MonoTree, TyTree, TripleTree, TermTree, FixTree, CompTree, StepTree, FormulaTree}
use Rattle.htt_syntax.specs.Trees.{TermTrees, ArgTree, ProofTree, StmtTree, BlockTree, m_word, m_bool, m_loc, m_unit}
use Rattle.htt_syntax.specs.Trees.{m_pair, m_var, y_mono, y_fun, y_all, y_hoare, y_at, triple, t_var, t_val, t_def}
use Rattle.htt_syntax.specs.Trees.{t_app, t_inst, t_lam, t_lam_t, t_do, t_fix, t_word, t_bool, t_loc, t_unit, t_pair}
use Rattle.htt_syntax.specs.Trees.{t_fst, t_snd, t_not, t_bin, t_eq, t_sel, t_ann, t_made, t_at, x_param, x_body, c_ret}
use Rattle.htt_syntax.specs.Trees.{c_step, s_run, s_alloc, s_get, s_set, s_free, s_if, s_claim, f_tt, f_ff, f_and, f_or}
use Rattle.htt_syntax.specs.Trees.{f_imp, f_all_t, f_ex_t, f_all_h, f_ex_h, f_emp, f_cell, f_block, f_join, f_same}
use Rattle.htt_syntax.specs.Trees.{f_eq, f_at, f_rec, no_terms, more_terms, a_heap, a_term, p_hyp, p_trivial, p_refl}
use Rattle.htt_syntax.specs.Trees.{p_first, p_second, p_left, p_right, p_absurd, p_both, p_give, p_app, p_inst, p_case}
use Rattle.htt_syntax.specs.Trees.{p_rewrite, p_induct, p_split, p_axiom, p_lem, p_the, p_block, p_at, p_unfold}
use Rattle.htt_syntax.specs.Trees.{d_intro, d_gen, d_have, d_open, d_at, b_then, b_end}

unfoldable pub nodes_mono : MonoTree → ℕ
nodes_mono m_word = 1
nodes_mono m_bool = 1
nodes_mono m_loc = 1
nodes_mono m_unit = 1
nodes_mono (m_pair left right) = suc (nodes_mono left + nodes_mono right)
nodes_mono (m_var index) = 1

unfoldable pub nodes_option : Option MonoTree → ℕ
nodes_option None = zero
nodes_option (Some mono) = nodes_mono mono

unfoldable pub nodes_monos : List MonoTree → ℕ
nodes_monos [] = zero
nodes_monos (mono ∷ others) = nodes_mono mono + nodes_monos others

unfoldable mutual
  pub nodes_ty : TyTree → ℕ
  nodes_ty (y_mono mono) = suc (nodes_mono mono)
  nodes_ty (y_fun argument answer) = suc (nodes_ty argument + nodes_ty answer)
  nodes_ty (y_all body) = suc (nodes_ty body)
  nodes_ty (y_hoare spec) = suc (nodes_triple spec)
  nodes_ty (y_at at ty) = nodes_ty ty

  pub nodes_triple : TripleTree → ℕ
  nodes_triple (triple pre mono post) = suc (nodes_formula pre + nodes_mono mono + nodes_formula post)

  pub nodes_term : TermTree → ℕ
  nodes_term (t_var index) = 1
  nodes_term (t_val number) = 1
  nodes_term (t_def number) = 1
  nodes_term (t_app function argument) = suc (nodes_term function + nodes_term argument)
  nodes_term (t_inst function mono) = suc (nodes_term function + nodes_mono mono)
  nodes_term (t_lam body) = suc (nodes_term body)
  nodes_term (t_lam_t body) = suc (nodes_term body)
  nodes_term (t_do comp) = suc (nodes_comp comp)
  nodes_term (t_fix at fix) = suc (nodes_fix fix)
  nodes_term (t_word word) = 1
  nodes_term (t_bool truth) = 1
  nodes_term (t_loc place) = 1
  nodes_term t_unit = 1
  nodes_term (t_pair left right) = suc (nodes_term left + nodes_term right)
  nodes_term (t_fst pair) = suc (nodes_term pair)
  nodes_term (t_snd pair) = suc (nodes_term pair)
  nodes_term (t_not term) = suc (nodes_term term)
  nodes_term (t_bin op left right) = suc (nodes_term left + nodes_term right)
  nodes_term (t_eq mono left right) = suc (nodes_mono mono + nodes_term left + nodes_term right)
  nodes_term (t_sel mono test on_true on_false) =
      suc (nodes_mono mono + nodes_term test + nodes_term on_true + nodes_term on_false)
  nodes_term (t_ann term ty) = suc (nodes_term term + nodes_ty ty)
  nodes_term (t_made number values) = suc (nodes_terms values)
  nodes_term (t_at at term) = nodes_term term

  pub nodes_fix : FixTree → ℕ
  nodes_fix (x_param ty others) = nodes_ty ty + nodes_fix others
  nodes_fix (x_body spec comp) = suc (nodes_triple spec + nodes_comp comp)

  pub nodes_comp : CompTree → ℕ
  nodes_comp (c_ret term) = suc (nodes_term term)
  nodes_comp (c_step step others) = nodes_step step + nodes_comp others

  pub nodes_step : StepTree → ℕ
  nodes_step (s_run term mono) = suc (nodes_term term + nodes_option mono)
  nodes_step (s_alloc mono value) = suc (nodes_mono mono + nodes_term value)
  nodes_step (s_get mono place) = suc (nodes_mono mono + nodes_term place)
  nodes_step (s_set mono place value) = suc (nodes_mono mono + nodes_term place + nodes_term value)
  nodes_step (s_free mono place) = suc (nodes_mono mono + nodes_term place)
  nodes_step (s_if mono test on_true on_false) =
      suc (nodes_mono mono + nodes_term test + nodes_comp on_true + nodes_comp on_false)
  nodes_step (s_claim formula) = suc (nodes_formula formula)

  pub nodes_formula : FormulaTree → ℕ
  nodes_formula f_tt = 1
  nodes_formula f_ff = 1
  nodes_formula (f_and left right) = suc (nodes_formula left + nodes_formula right)
  nodes_formula (f_or left right) = suc (nodes_formula left + nodes_formula right)
  nodes_formula (f_imp left right) = suc (nodes_formula left + nodes_formula right)
  nodes_formula (f_all_t mono body) = suc (nodes_mono mono + nodes_formula body)
  nodes_formula (f_ex_t mono body) = suc (nodes_mono mono + nodes_formula body)
  nodes_formula (f_all_h body) = suc (nodes_formula body)
  nodes_formula (f_ex_h body) = suc (nodes_formula body)
  nodes_formula (f_emp heap) = 1
  nodes_formula (f_cell mono heap place value) = suc (nodes_mono mono + nodes_term place + nodes_term value)
  nodes_formula (f_block mono heap place) = suc (nodes_mono mono + nodes_term place)
  nodes_formula (f_join whole left right) = 1
  nodes_formula (f_same left right) = 1
  nodes_formula (f_eq mono left right) = suc (nodes_mono mono + nodes_term left + nodes_term right)
  nodes_formula (f_at at formula) = nodes_formula formula
  nodes_formula (f_rec number heap place arguments) = suc (nodes_term place + nodes_terms arguments)

  pub nodes_terms : TermTrees → ℕ
  nodes_terms no_terms = zero
  nodes_terms (more_terms first others) = nodes_term first + nodes_terms others

unfoldable pub nodes_arg : ArgTree → ℕ
nodes_arg (a_heap heap) = 1
nodes_arg (a_term term) = suc (nodes_term term)

unfoldable pub nodes_args : List ArgTree → ℕ
nodes_args [] = zero
nodes_args (arg ∷ others) = nodes_arg arg + nodes_args others

unfoldable mutual
  pub nodes_proof : ProofTree → ℕ
  nodes_proof (p_hyp number) = 1
  nodes_proof p_trivial = 1
  nodes_proof p_refl = 1
  nodes_proof (p_first proof) = suc (nodes_proof proof)
  nodes_proof (p_second proof) = suc (nodes_proof proof)
  nodes_proof (p_left proof) = suc (nodes_proof proof)
  nodes_proof (p_right proof) = suc (nodes_proof proof)
  nodes_proof (p_absurd proof) = suc (nodes_proof proof)
  nodes_proof (p_both left right) = suc (nodes_proof left + nodes_proof right)
  nodes_proof (p_give arg proof) = suc (nodes_arg arg + nodes_proof proof)
  nodes_proof (p_app function argument) = suc (nodes_proof function + nodes_proof argument)
  nodes_proof (p_inst proof arg) = suc (nodes_proof proof + nodes_arg arg)
  nodes_proof (p_case either left right) = suc (nodes_proof either + nodes_proof left + nodes_proof right)
  nodes_proof (p_rewrite equation motive proof) = suc (nodes_proof equation + nodes_formula motive + nodes_proof proof)
  nodes_proof (p_induct motive word at_zero at_next) =
      suc (nodes_formula motive + nodes_term word + nodes_proof at_zero + nodes_proof at_next)
  nodes_proof (p_split motive test on_true on_false) =
      suc (nodes_formula motive + nodes_term test + nodes_proof on_true + nodes_proof on_false)
  nodes_proof (p_axiom name monos arguments) = suc (nodes_monos monos + nodes_args arguments)
  nodes_proof (p_lem formula) = suc (nodes_formula formula)
  nodes_proof (p_the formula proof) = suc (nodes_formula formula + nodes_proof proof)
  nodes_proof (p_block block) = suc (nodes_block block)
  nodes_proof (p_at at proof) = nodes_proof proof
  nodes_proof (p_unfold number case arguments) = suc (nodes_args arguments)

  pub nodes_stmt : StmtTree → ℕ
  nodes_stmt d_intro = 1
  nodes_stmt d_gen = 1
  nodes_stmt (d_have formula proof) = suc (nodes_formula formula + nodes_proof proof)
  nodes_stmt (d_open proof) = suc (nodes_proof proof)
  nodes_stmt (d_at at stmt) = nodes_stmt stmt

  pub nodes_block : BlockTree → ℕ
  nodes_block (b_then stmt others) = nodes_stmt stmt + nodes_block others
  nodes_block (b_end proof) = nodes_proof proof
