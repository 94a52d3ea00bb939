-- Programs that pin an order: of the instances that different bodies call, and of the parameters by which a
-- position is told.
use Rattle.std.specs.Prelude.{ℕ, List, [], ◌∷◌, Some}
use Rattle.htt_syntax.specs.Trees.{FixTree, CompTree, m_word, y_mono, triple, t_var, t_app}
use Rattle.htt_syntax.specs.Trees.{t_lam, t_do, t_fix, t_word, x_param, x_body, c_ret, c_step, s_run, f_tt}
use Rattle.theory_instances.specs.Calls.{ProgramVal, Program}
use Rattle.theory_instances.specs.Lists.{Taken, HasInstances, RefusesInstances, is_varying, main_key}
use Rattle.theory_instances.specs.Examples.{always, plus_two, word_to_word, running, either_runs}

abbrev pub a_word : CompTree → ProgramVal
a_word comp = record { ty = always m_word; term = t_do comp }

-- val h = do ret 1, val f = do x <- h; ret x, val g = do ret 2, and
-- val main = do s <- if [word] true { r <- f; ret r } { r <- g; ret r }; ret s
abbrev pub ordered : Program
ordered = record {
  vals = a_word (c_ret (t_word 1)) ∷ a_word (running 0) ∷ a_word (c_ret (t_word 2)) ∷ a_word either_runs ∷ [];
  main = Some 3;
}

-- fix f (n : word) (h : (x : word) -> word) : {tt} z : word {tt} . y <- f n (fun x . h (h x)); ret h y
abbrev pub second_changes : FixTree
second_changes =
    x_param (y_mono m_word) (x_param word_to_word
    (x_body (triple f_tt m_word f_tt)
    (c_step
    (s_run (t_app (t_app (t_var 0) (t_var 2)) (t_lam (t_app (t_var 2) (t_app (t_var 2) (t_var 0))))) (Some m_word))
    (c_ret (t_app (t_var 2) (t_var 0))))))

-- val main = do r <- (fix f ..) 5 (fun x . x + 2); ret r
abbrev pub changing_body : CompTree
changing_body =
    c_step (s_run (t_app (t_app (t_fix 40 second_changes) (t_word 5)) plus_two) (Some m_word)) (c_ret (t_var 0))

abbrev pub changing : Program
changing = record { vals = a_word changing_body ∷ []; main = Some 0 }

abbrev pub value_taken : ℕ → CompTree → Taken
value_taken number comp = record { key = main_key number; params = []; result = m_word; body = comp }

abbrev pub ordered_instances : List Taken
ordered_instances =
    value_taken 3 either_runs ∷ value_taken 1 (running 0) ∷ value_taken 2 (c_ret (t_word 2)) ∷
    value_taken 0 (c_ret (t_word 1)) ∷ []

pub record WorkedOrders : Type 0 where
  -- both that main calls come before the one that the first of them calls
  pub ordered_have :
      HasInstances ordered ordered_instances (main_key 3 ∷ main_key 1 ∷ main_key 2 ∷ main_key 0 ∷ [])
  -- the position counts all parameters, also those that aren't fixed
  pub second_varies : RefusesInstances changing (is_varying 40 2)
