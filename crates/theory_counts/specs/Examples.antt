-- Counts that were worked out by hand.
use Rattle.std.specs.Prelude.{◌≡◌, ℕ, zero, suc, [], ◌∷◌, true, Some}
use Rattle.htt_syntax.specs.declared.mono.Op.TheVariants.{Add}
use Rattle.htt_syntax.specs.Trees.{MonoTree, CompTree, FormulaTree, m_word, m_bool, m_pair, y_mono, y_fun, y_hoare}
use Rattle.htt_syntax.specs.Trees.{triple, t_var, t_app, t_do, t_fix, t_word, t_bool, t_loc, t_unit, t_bin, t_ann}
use Rattle.htt_syntax.specs.Trees.{t_made, t_at, x_param, x_body, c_ret, c_step, s_run, s_alloc, s_if, s_claim, f_tt}
use Rattle.htt_syntax.specs.Trees.{f_and, f_imp, f_ex_h, f_emp, f_cell, f_join, f_same, f_at, f_rec, no_terms}
use Rattle.htt_syntax.specs.Trees.{more_terms, a_heap, a_term, p_hyp, p_second, p_axiom, p_block, p_at, d_intro, d_at}
use Rattle.htt_syntax.specs.Trees.{b_then, b_end}
use Rattle.theory_counts.specs.Nodes.{nodes_mono, nodes_ty, nodes_term, nodes_comp, nodes_formula, nodes_proof}
use Rattle.theory_counts.specs.Depth.{depth_mono, depth_ty, depth_term, depth_comp, depth_formula, depth_proof}

-- a monotype paired with itself, and that pair with itself, so many times
abbrev pub doubled : ℕ → MonoTree
doubled zero = m_word
doubled (suc k) = m_pair (doubled k) (doubled k)

-- so many steps that claim tt
abbrev pub claims : ℕ → CompTree
claims zero = c_ret t_unit
claims (suc k) = c_step (s_claim f_tt) (claims k)

-- a star of one cell more than so many, nested to the right
abbrev pub cells : ℕ → FormulaTree
cells zero = f_cell m_word 0 (t_loc 5) (t_word 7)
cells (suc k) = f_ex_h (f_ex_h (f_and (f_join 2 1 0) (f_and (f_cell m_word 0 (t_loc 5) (t_word 7)) (cells k))))

pub record WorkedCounts : Type 0 where
  -- word * (bool * word)
  pub pair : nodes_mono (m_pair m_word (m_pair m_bool m_word)) ≡ 5
  pub pair_depth : depth_mono (m_pair m_word (m_pair m_bool m_word)) ≡ 3
  -- the type word is a type and a monotype
  pub word : nodes_ty (y_mono m_word) ≡ 2
  -- (x : word) -> {tt} y : bool {tt}: a function, word twice, a type, a triple, and its three parts
  pub routine : nodes_ty (y_fun (y_mono m_word) (y_hoare (triple f_tt m_bool f_tt))) ≡ 8
  pub routine_depth : depth_ty (y_fun (y_mono m_word) (y_hoare (triple f_tt m_bool f_tt))) ≡ 4
  -- (2 + x : word), with positions, which count nothing
  pub annotated : nodes_term (t_at 1 (t_ann (t_at 2 (t_bin Add (t_word 2) (t_at 4 (t_var 0)))) (y_mono m_word))) ≡ 6
  pub annotated_depth : depth_term (t_at 1 (t_ann (t_at 2 (t_bin Add (t_word 2) (t_at 4 (t_var 0)))) (y_mono m_word)))
      ≡ 3
  -- do x <- alloc[word] 7; ret x: a `do`, a computation, a step and its two parts, a result
  pub body : nodes_term (t_do (c_step (s_alloc m_word (t_word 7)) (c_ret (t_var 0)))) ≡ 6
  pub body_depth : depth_term (t_do (c_step (s_alloc m_word (t_word 7)) (c_ret (t_var 0)))) ≡ 4
  -- further steps stand side by side: they add nodes and no depth
  pub two_steps : nodes_comp (c_step (s_alloc m_word (t_word 7)) (c_step (s_alloc m_word (t_word 8)) (c_ret (t_var 0))))
      ≡ 8
  pub two_steps_depth :
      depth_comp (c_step (s_alloc m_word (t_word 7)) (c_step (s_alloc m_word (t_word 8)) (c_ret (t_var 0)))) ≡ 3
  -- if [word] true { ret 1 } { ret 2 }, as a step: itself, its monotype, its test, two computations and their results
  pub branches : nodes_comp (c_step (s_if m_word (t_bool true) (c_ret (t_word 1)) (c_ret (t_word 2))) (c_ret (t_var 0)))
      ≡ 9
  pub branches_depth :
      depth_comp (c_step (s_if m_word (t_bool true) (c_ret (t_word 1)) (c_ret (t_word 2))) (c_ret (t_var 0))) ≡ 4
  -- fix f (n : word) : {tt} z : word {tt} . y <- f n; ret y: a term, a recursive function, its parameter's type and
  -- that one's monotype, a triple with three parts, a computation, a step, f n, the step's monotype, a result
  pub recursion :
      nodes_term (t_fix 9 (x_param (y_mono m_word)
      (x_body (triple f_tt m_word f_tt) (c_step (s_run (t_app (t_var 0) (t_var 1)) (Some m_word)) (c_ret (t_var 0))))))
      ≡ 15
  pub recursion_depth :
      depth_term (t_fix 9 (x_param (y_mono m_word)
      (x_body (triple f_tt m_word f_tt) (c_step (s_run (t_app (t_var 0) (t_var 1)) (Some m_word)) (c_ret (t_var 0))))))
      ≡ 6
  -- what a star of two empty parts stands for: two quantifiers, two conjunctions, a join and the parts
  pub star : nodes_formula (f_ex_h (f_ex_h (f_and (f_join 2 1 0) (f_and (f_emp 1) (f_emp 0))))) ≡ 7
  pub star_depth : depth_formula (f_ex_h (f_ex_h (f_and (f_join 2 1 0) (f_and (f_emp 1) (f_emp 0))))) ≡ 5
  -- an atom with an index and one argument; a made function with two terms
  pub atom : nodes_formula (f_at 3 (f_rec 0 0 (t_word 1) (more_terms (t_var 2) no_terms))) ≡ 3
  pub made : nodes_term (t_made 4 (more_terms (t_var 0) (more_terms (t_word 1) no_terms))) ≡ 3
  -- intro u; second(u): a block, a statement, and an end of two
  pub block : nodes_proof (p_block (b_then (d_at 0 d_intro) (b_end (p_at 8 (p_second (p_hyp 0)))))) ≡ 4
  pub block_depth : depth_proof (p_block (b_then (d_at 0 d_intro) (b_end (p_at 8 (p_second (p_hyp 0)))))) ≡ 3
  -- axiom cell_block[word](@h, 5, 7), without its name: itself, a monotype, a heap, and two terms with their own node
  pub axiom_proof : nodes_proof (p_axiom [] (m_word ∷ []) (a_heap 0 ∷ a_term (t_word 5) ∷ a_term (t_word 7) ∷ [])) ≡ 7
  pub axiom_proof_depth : depth_proof (p_axiom [] (m_word ∷ []) (a_heap 0 ∷ a_term (t_word 5) ∷ a_term (t_word 7) ∷ []))
      ≡ 3
  pub five_times : nodes_mono (doubled 5) ≡ 63
  pub six_times : nodes_mono (doubled 6) ≡ 127
  pub six_times_depth : depth_mono (doubled 6) ≡ 7
  -- each claim is two nodes, and the computation with its result two; a long one isn't deep
  pub forty_claims : nodes_comp (claims 40) ≡ 82
  pub forty_claims_depth : depth_comp (claims 40) ≡ 3
  -- a star of n cells is 4 n - 2 deep, and 4 n with `=>` and `Same`
  pub sixteen_cells : nodes_formula (cells 15) ≡ 139
  pub sixteen_cells_depth : depth_formula (cells 15) ≡ 62
  pub implied_depth : depth_formula (f_imp (f_and (cells 15) (f_same 0 1)) (cells 15)) ≡ 64
