-- Renaming: each free variable is replaced by the variable that a map gives for it.
use Rattle.std.specs.Prelude.{ℕ, zero, suc, ◌+◌, map, option_map}
use Rattle.htt_syntax.specs.Trees.{MonoTree, TyTree, TripleTree, TermTree, FixTree, CompTree, StepTree, FormulaTree}
use Rattle.htt_syntax.specs.Trees.{TermTrees, ArgTree, ProofTree, StmtTree, BlockTree, binders_of, m_word, m_bool}
use Rattle.htt_syntax.specs.Trees.{m_loc, m_unit, m_pair, m_var, y_mono, y_fun, y_all, y_hoare, y_at, triple, t_var}
use Rattle.htt_syntax.specs.Trees.{t_val, t_def, t_app, t_inst, t_lam, t_lam_t, t_do, t_fix, t_word, t_bool, t_loc}
use Rattle.htt_syntax.specs.Trees.{t_unit, t_pair, t_fst, t_snd, t_not, t_bin, t_eq, t_sel, t_ann, t_made, t_at}
use Rattle.htt_syntax.specs.Trees.{x_param, x_body, c_ret, c_step, s_run, s_alloc, s_get, s_set, s_free, s_if, s_claim}
use Rattle.htt_syntax.specs.Trees.{f_tt, f_ff, f_and, f_or, f_imp, f_all_t, f_ex_t, f_all_h, f_ex_h, f_emp, f_cell}
use Rattle.htt_syntax.specs.Trees.{f_block, f_join, f_same, f_eq, f_at, f_rec, no_terms, more_terms, a_heap, a_term}
use Rattle.htt_syntax.specs.Trees.{p_hyp, p_trivial, p_refl, p_first, p_second, p_left, p_right, p_absurd, p_both}
use Rattle.htt_syntax.specs.Trees.{p_give, p_app, p_inst, p_case, p_rewrite, p_induct, p_split, p_axiom, p_lem, p_the}
use Rattle.htt_syntax.specs.Trees.{p_block, p_at, p_unfold, d_intro, d_gen, d_have, d_open, d_at, b_then, b_end}

-- What each index becomes.
abbrev pub Map : Type 0
Map = ℕ → ℕ

-- The map under one more binder, whose own variable stays.
unfoldable pub lift : Map → Map
lift m zero = zero
lift m (suc n) = suc (m n)

-- The map under so many more binders.
unfoldable pub lifts : ℕ → Map → Map
lifts zero m = m
lifts (suc n) m = lift (lifts n m)

-- A shift: the variables from this place on go past so many more.
abbrev pub shifting : ℕ → ℕ → Map
shifting from by = lifts from (λ n. n + by)

unfoldable pub rename_mono : Map → MonoTree → MonoTree
rename_mono m m_word = m_word
rename_mono m m_bool = m_bool
rename_mono m m_loc = m_loc
rename_mono m m_unit = m_unit
rename_mono m (m_pair left right) = m_pair (rename_mono m left) (rename_mono m right)
rename_mono m (m_var index) = m_var (m index)

unfoldable mutual
  pub rename_ty : Map → TyTree → TyTree
  rename_ty m (y_mono mono) = y_mono (rename_mono m mono)
  rename_ty m (y_fun argument answer) = y_fun (rename_ty m argument) (rename_ty (lift m) answer)
  rename_ty m (y_all body) = y_all (rename_ty (lift m) body)
  rename_ty m (y_hoare spec) = y_hoare (rename_triple m spec)
  rename_ty m (y_at at ty) = y_at at (rename_ty m ty)

  pub rename_triple : Map → TripleTree → TripleTree
  rename_triple m (triple pre mono post) =
      triple (rename_formula (lift m) pre) (rename_mono m mono) (rename_formula (lift (lift (lift m))) post)

  pub rename_term : Map → TermTree → TermTree
  rename_term m (t_var index) = t_var (m index)
  rename_term m (t_val number) = t_val number
  rename_term m (t_def number) = t_def number
  rename_term m (t_app function argument) = t_app (rename_term m function) (rename_term m argument)
  rename_term m (t_inst function mono) = t_inst (rename_term m function) (rename_mono m mono)
  rename_term m (t_lam body) = t_lam (rename_term (lift m) body)
  rename_term m (t_lam_t body) = t_lam_t (rename_term (lift m) body)
  rename_term m (t_do comp) = t_do (rename_comp m comp)
  rename_term m (t_fix at fix) = t_fix at (rename_fix m fix)
  rename_term m (t_word word) = t_word word
  rename_term m (t_bool truth) = t_bool truth
  rename_term m (t_loc place) = t_loc place
  rename_term m t_unit = t_unit
  rename_term m (t_pair left right) = t_pair (rename_term m left) (rename_term m right)
  rename_term m (t_fst pair) = t_fst (rename_term m pair)
  rename_term m (t_snd pair) = t_snd (rename_term m pair)
  rename_term m (t_not term) = t_not (rename_term m term)
  rename_term m (t_bin op left right) = t_bin op (rename_term m left) (rename_term m right)
  rename_term m (t_eq mono left right) = t_eq (rename_mono m mono) (rename_term m left) (rename_term m right)
  rename_term m (t_sel mono test on_true on_false) =
      t_sel (rename_mono m mono) (rename_term m test) (rename_term m on_true) (rename_term m on_false)
  rename_term m (t_ann term ty) = t_ann (rename_term m term) (rename_ty m ty)
  rename_term m (t_made number values) = t_made number (rename_terms m values)
  rename_term m (t_at at term) = t_at at (rename_term m term)

  pub rename_fix : Map → FixTree → FixTree
  rename_fix m (x_param ty others) = x_param (rename_ty m ty) (rename_fix (lift m) others)
  rename_fix m (x_body spec comp) = x_body (rename_triple m spec) (rename_comp (lift m) comp)

  pub rename_comp : Map → CompTree → CompTree
  rename_comp m (c_ret term) = c_ret (rename_term m term)
  rename_comp m (c_step step others) = c_step (rename_step m step) (rename_comp (lift m) others)

  pub rename_step : Map → StepTree → StepTree
  rename_step m (s_run term mono) = s_run (rename_term m term) (option_map (rename_mono m) mono)
  rename_step m (s_alloc mono value) = s_alloc (rename_mono m mono) (rename_term m value)
  rename_step m (s_get mono place) = s_get (rename_mono m mono) (rename_term m place)
  rename_step m (s_set mono place value) = s_set (rename_mono m mono) (rename_term m place) (rename_term m value)
  rename_step m (s_free mono place) = s_free (rename_mono m mono) (rename_term m place)
  rename_step m (s_if mono test on_true on_false) =
      s_if (rename_mono m mono) (rename_term m test) (rename_comp m on_true) (rename_comp m on_false)
  rename_step m (s_claim formula) = s_claim (rename_formula (lift (lift m)) formula)

  pub rename_formula : Map → FormulaTree → FormulaTree
  rename_formula m f_tt = f_tt
  rename_formula m f_ff = f_ff
  rename_formula m (f_and left right) = f_and (rename_formula m left) (rename_formula m right)
  rename_formula m (f_or left right) = f_or (rename_formula m left) (rename_formula m right)
  rename_formula m (f_imp left right) = f_imp (rename_formula m left) (rename_formula m right)
  rename_formula m (f_all_t mono body) = f_all_t (rename_mono m mono) (rename_formula (lift m) body)
  rename_formula m (f_ex_t mono body) = f_ex_t (rename_mono m mono) (rename_formula (lift m) body)
  rename_formula m (f_all_h body) = f_all_h (rename_formula (lift m) body)
  rename_formula m (f_ex_h body) = f_ex_h (rename_formula (lift m) body)
  rename_formula m (f_emp heap) = f_emp (m heap)
  rename_formula m (f_cell mono heap place value) =
      f_cell (rename_mono m mono) (m heap) (rename_term m place) (rename_term m value)
  rename_formula m (f_block mono heap place) = f_block (rename_mono m mono) (m heap) (rename_term m place)
  rename_formula m (f_join whole left right) = f_join (m whole) (m left) (m right)
  rename_formula m (f_same left right) = f_same (m left) (m right)
  rename_formula m (f_eq mono left right) = f_eq (rename_mono m mono) (rename_term m left) (rename_term m right)
  rename_formula m (f_at at formula) = f_at at (rename_formula m formula)
  rename_formula m (f_rec number heap place arguments) =
      f_rec number (m heap) (rename_term m place) (rename_terms m arguments)

  pub rename_terms : Map → TermTrees → TermTrees
  rename_terms m no_terms = no_terms
  rename_terms m (more_terms first others) = more_terms (rename_term m first) (rename_terms m others)

unfoldable pub rename_arg : Map → ArgTree → ArgTree
rename_arg m (a_heap heap) = a_heap (m heap)
rename_arg m (a_term term) = a_term (rename_term m term)

unfoldable mutual
  pub rename_proof : Map → ProofTree → ProofTree
  rename_proof m (p_hyp number) = p_hyp number
  rename_proof m p_trivial = p_trivial
  rename_proof m p_refl = p_refl
  rename_proof m (p_first proof) = p_first (rename_proof m proof)
  rename_proof m (p_second proof) = p_second (rename_proof m proof)
  rename_proof m (p_left proof) = p_left (rename_proof m proof)
  rename_proof m (p_right proof) = p_right (rename_proof m proof)
  rename_proof m (p_absurd proof) = p_absurd (rename_proof m proof)
  rename_proof m (p_both left right) = p_both (rename_proof m left) (rename_proof m right)
  rename_proof m (p_give arg proof) = p_give (rename_arg m arg) (rename_proof m proof)
  rename_proof m (p_app function argument) = p_app (rename_proof m function) (rename_proof m argument)
  rename_proof m (p_inst proof arg) = p_inst (rename_proof m proof) (rename_arg m arg)
  rename_proof m (p_case either left right) =
      p_case (rename_proof m either) (rename_proof m left) (rename_proof m right)
  rename_proof m (p_rewrite equation motive proof) =
      p_rewrite (rename_proof m equation) (rename_formula (lift m) motive) (rename_proof m proof)
  rename_proof m (p_induct motive word at_zero at_next) =
      p_induct (rename_formula (lift m) motive) (rename_term m word) (rename_proof m at_zero)
      (rename_proof (lift m) at_next)
  rename_proof m (p_split motive test on_true on_false) =
      p_split (rename_formula (lift m) motive) (rename_term m test) (rename_proof m on_true) (rename_proof m on_false)
  rename_proof m (p_axiom name monos arguments) =
      p_axiom name (map (rename_mono m) monos) (map (rename_arg m) arguments)
  rename_proof m (p_lem formula) = p_lem (rename_formula m formula)
  rename_proof m (p_the formula proof) = p_the (rename_formula m formula) (rename_proof m proof)
  rename_proof m (p_block block) = p_block (rename_block m block)
  rename_proof m (p_at at proof) = p_at at (rename_proof m proof)
  rename_proof m (p_unfold number case arguments) = p_unfold number case (map (rename_arg m) arguments)

  pub rename_stmt : Map → StmtTree → StmtTree
  rename_stmt m d_intro = d_intro
  rename_stmt m d_gen = d_gen
  rename_stmt m (d_have formula proof) = d_have (rename_formula m formula) (rename_proof m proof)
  rename_stmt m (d_open proof) = d_open (rename_proof m proof)
  rename_stmt m (d_at at stmt) = d_at at (rename_stmt m stmt)

  pub rename_block : Map → BlockTree → BlockTree
  rename_block m (b_then stmt others) = b_then (rename_stmt m stmt) (rename_block (lifts (binders_of stmt) m) others)
  rename_block m (b_end proof) = b_end (rename_proof m proof)
