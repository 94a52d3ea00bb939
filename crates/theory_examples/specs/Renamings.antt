-- Renamed trees and scopes that were worked out by hand. Mostly each free variable goes up by one.
use Rattle.std.specs.Prelude.{◌≡◌, zero, suc, [], ◌∷◌, None}
use Rattle.htt_syntax.specs.Trees.{m_word, m_pair, m_var, y_mono, y_fun, y_all, y_hoare, triple, t_var, t_val, t_app}
use Rattle.htt_syntax.specs.Trees.{t_inst, t_lam, t_lam_t, t_fix, t_word, t_pair, x_param, x_body, c_ret, c_step, s_run}
use Rattle.htt_syntax.specs.Trees.{s_get, s_if, s_claim, f_tt, f_and, f_ex_h, f_emp, f_cell, f_join, f_same, f_eq}
use Rattle.htt_syntax.specs.Trees.{f_rec, no_terms, more_terms, a_heap, a_term, p_hyp, p_refl, p_give, p_inst}
use Rattle.htt_syntax.specs.Trees.{p_rewrite, p_induct, p_axiom, d_intro, d_gen, d_have, d_open, d_at, b_then, b_end}
use Rattle.theory_renaming.specs.Renaming.{Map, lift, lifts, rename_mono, rename_ty, rename_triple, rename_term}
use Rattle.theory_renaming.specs.Renaming.{rename_comp, rename_formula, rename_proof, rename_block}
use Rattle.theory_renaming.specs.Scoped.{ScopedTy, ScopedTriple, ScopedTerm, ScopedStep}

-- the two innermost variables change places
abbrev pub swapped : Map
swapped zero = 1
swapped (suc zero) = 0
swapped (suc (suc n)) = suc (suc n)

pub record TheRenamings : Type 0 where
  pub lifted_own : lift suc 0 ≡ 0
  pub lifted_other : lift suc 3 ≡ 4
  pub lifted_thrice : lifts 3 swapped 4 ≡ 3
  pub of_a_pair : rename_mono suc (m_pair (m_var 0) (m_pair m_word (m_var 2)))
      ≡ m_pair (m_var 1) (m_pair m_word (m_var 3))
  -- fun x . f x, and fun [a] . f [a]
  pub under_a_function : rename_term suc (t_lam (t_app (t_var 1) (t_var 0))) ≡ t_lam (t_app (t_var 2) (t_var 0))
  pub under_a_monotype : rename_term suc (t_lam_t (t_inst (t_var 1) (m_var 0))) ≡ t_lam_t (t_inst (t_var 2) (m_var 0))
  -- [b] -> (x : b) -> {tt} y : b {y =[a] z}
  pub of_a_type :
      rename_ty suc
      (y_all (y_fun (y_mono (m_var 0)) (y_hoare (triple f_tt (m_var 1) (f_eq (m_var 5) (t_var 2) (t_var 6))))))
      ≡ y_all (y_fun (y_mono (m_var 0)) (y_hoare (triple f_tt (m_var 1) (f_eq (m_var 6) (t_var 2) (t_var 7)))))
  -- one variable is bound in a precondition, none in the result's monotype, three in a postcondition
  pub of_a_triple :
      rename_triple suc
      (triple (f_cell m_word 0 (t_var 1) (t_var 2)) (m_var 0) (f_and (f_same 0 1) (f_eq (m_var 3) (t_var 2) (t_var 4))))
      ≡ triple (f_cell m_word 0 (t_var 2) (t_var 3)) (m_var 1) (f_and (f_same 0 1) (f_eq (m_var 4) (t_var 2) (t_var 5)))
  -- fix f (n : a) : {n =[word] y} z : a {tt} . x <- f n; ret (x, y), where a and y are the variable 0
  pub of_a_recursion :
      rename_term suc (t_fix 9 (x_param (y_mono (m_var 0))
      (x_body (triple (f_eq m_word (t_var 1) (t_var 2)) (m_var 1) f_tt)
      (c_step (s_run (t_app (t_var 0) (t_var 1)) None) (c_ret (t_pair (t_var 0) (t_var 3)))))))
      ≡ t_fix 9 (x_param (y_mono (m_var 1))
      (x_body (triple (f_eq m_word (t_var 1) (t_var 3)) (m_var 2) f_tt)
      (c_step (s_run (t_app (t_var 0) (t_var 1)) None) (c_ret (t_pair (t_var 0) (t_var 4))))))
  -- x <- get[a] l; u <- claim {Cell[word](mem, l, x)}; ret x, where l is the variable 0 and a the variable 1
  pub of_steps :
      rename_comp suc
      (c_step (s_get (m_var 1) (t_var 0)) (c_step (s_claim (f_cell m_word 0 (t_var 3) (t_var 2))) (c_ret (t_var 1))))
      ≡ c_step (s_get (m_var 2) (t_var 1)) (c_step (s_claim (f_cell m_word 0 (t_var 4) (t_var 2))) (c_ret (t_var 1)))
  -- the branches of an `if` bind nothing
  pub of_branches :
      rename_comp suc (c_step
      (s_if m_word (t_var 0) (c_ret (t_var 1)) (c_step (s_run (t_val 3) None) (c_ret (t_var 0)))) (c_ret (t_var 2)))
      ≡ c_step (s_if m_word (t_var 1) (c_ret (t_var 2)) (c_step (s_run (t_val 3) None) (c_ret (t_var 0))))
      (c_ret (t_var 3))
  pub under_a_heap : rename_formula swapped (f_ex_h (f_join 2 1 0)) ≡ f_ex_h (f_join 1 2 0)
  -- a predicate's number is no variable
  pub of_an_atom : rename_formula suc (f_rec 4 0 (t_var 1) (more_terms (t_var 2) no_terms))
      ≡ f_rec 4 1 (t_var 2) (more_terms (t_var 3) no_terms)

pub record TheRenamedProofs : Type 0 where
  -- a motive stands under one variable, and so does the proof for a next word
  pub of_an_induction :
      rename_proof suc (p_induct (f_eq m_word (t_var 0) (t_var 1)) (t_var 0) (p_hyp 0)
      (p_give (a_term (t_var 0)) (p_give (a_term (t_var 1)) (p_hyp 1))))
      ≡ p_induct (f_eq m_word (t_var 0) (t_var 2)) (t_var 1) (p_hyp 0)
      (p_give (a_term (t_var 0)) (p_give (a_term (t_var 2)) (p_hyp 1)))
  pub of_a_rewriting : rename_proof suc (p_rewrite (p_hyp 0) (f_emp 0) (p_give (a_heap 0) p_refl))
      ≡ p_rewrite (p_hyp 0) (f_emp 0) (p_give (a_heap 1) p_refl)
  -- intro u; gen x; open y v = inst(u, @h); have w : [Emp(h)] = v; give(@h, w), where h is the variable 0
  pub of_statements :
      rename_block suc (b_then d_intro
      (b_then d_gen (b_then (d_at 7 (d_open (p_inst (p_hyp 0) (a_heap 1))))
      (b_then (d_have (f_emp 2) (p_hyp 1)) (b_end (p_give (a_heap 2) (p_hyp 2)))))))
      ≡ b_then d_intro (b_then d_gen
      (b_then (d_at 7 (d_open (p_inst (p_hyp 0) (a_heap 2))))
      (b_then (d_have (f_emp 3) (p_hyp 1)) (b_end (p_give (a_heap 3) (p_hyp 2))))))
  pub of_an_axiom : rename_proof suc (p_axiom [] (m_var 0 ∷ []) (a_heap 1 ∷ a_term (t_var 0) ∷ []))
      ≡ p_axiom [] (m_var 1 ∷ []) (a_heap 2 ∷ a_term (t_var 1) ∷ [])

pub record TheScopes : Type 0 where
  pub closed : ScopedTerm 0 (t_lam (t_var 0))
  pub no_variable : ScopedTerm 0 (t_var 0) → ⊥
  pub outermost_of_two : ScopedTerm 2 (t_lam (t_app (t_var 2) (t_var 0)))
  pub beyond : ScopedTerm 1 (t_lam (t_var 2)) → ⊥
  pub no_monotype : ScopedTy 0 (y_mono (m_var 0)) → ⊥
  -- {Emp(mem)} x : word {Same(mem, init) /\ x =[word] 1}
  pub spec : ScopedTriple 0 (triple (f_emp 0) m_word (f_and (f_same 0 1) (f_eq m_word (t_var 2) (t_word 1))))
  pub no_init_before : ScopedTriple 0 (triple (f_emp 1) m_word f_tt) → ⊥
  pub two_heaps_claimed : ScopedStep 0 (s_claim (f_same 0 1))
  pub no_third_heap : ScopedStep 0 (s_claim (f_emp 2)) → ⊥
  -- the body of a recursive function stands under its parameter and itself
  pub recursion :
      ScopedTerm 0
      (t_fix 9 (x_param (y_mono m_word) (x_body (triple f_tt m_word f_tt) (c_ret (t_pair (t_var 0) (t_var 1))))))
  pub no_self_in_the_triple :
      ScopedTerm 0 (t_fix 9 (x_param (y_mono m_word) (x_body (triple (f_emp 2) m_word f_tt) (c_ret (t_var 1))))) → ⊥
