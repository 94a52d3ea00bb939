-- Greatest monotypes that were found by hand.
use Rattle.std.specs.Prelude.{◌≡◌, ℕ, Some}
use Rattle.htt_syntax.specs.Trees.{m_word, m_bool, m_pair, y_mono, triple, t_var, t_word, t_eq, t_fix, t_lam, t_do}
use Rattle.htt_syntax.specs.Trees.{x_param, x_body, c_ret, c_step, s_run, s_alloc, f_tt, f_eq}
use Rattle.theory_counts_monotypes.specs.Monotypes.{greatest_in_term}

pub record WorkedCounts : Type 0 where
  pub variable : greatest_in_term (t_var 0) ≡ 0
  pub comparison : greatest_in_term (t_eq m_word (t_word 1) (t_word 2)) ≡ 1
  -- fun x . do l <- alloc[word * bool] x; ret l
  pub cell : greatest_in_term (t_lam (t_do (c_step (s_alloc (m_pair m_word m_bool) (t_var 0)) (c_ret (t_var 0))))) ≡ 3
  -- fix f (n : word) : {tt} z : word {z =[word * (word * word)] z} . y <- f n; ret y: the postcondition has it
  pub written :
      greatest_in_term (t_fix 9
      (x_param (y_mono m_word) (x_body
      (triple f_tt m_word (f_eq (m_pair m_word (m_pair m_word m_word)) (t_var 2) (t_var 2)))
      (c_step (s_run (t_var 0) (Some m_word)) (c_ret (t_var 0))))))
      ≡ 5
