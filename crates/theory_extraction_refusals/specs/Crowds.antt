-- Programs with as many instances as may be, or with one more, and what comes before a refusal for these.
use Rattle.std.specs.Prelude.{◌<◌, ◌≤◌, ℕ, zero, suc, List, [], ◌∷◌, Some}
use Rattle.htt_syntax.specs.Trees.{CompTree, m_word, m_unit, t_var, t_val, t_app, t_do, t_fix, t_word, t_unit, c_ret}
use Rattle.htt_syntax.specs.Trees.{c_step, s_run}
use Rattle.theory_instances.specs.Calls.{ProgramVal, Program, of_term}
use Rattle.theory_instances.specs.Keys.{Key}
use Rattle.theory_instances.specs.Lists.{Taken, HasInstances, RefusesInstances, is_varying, too_many_instances, main_key}
use Rattle.theory_instances.specs.Examples.{always, plus_two}
use Rattle.theory_instances.specs.Orders.{a_word, second_changes}

abbrev pub a_unit : CompTree → ProgramVal
a_unit comp = record { ty = always m_unit; term = t_do comp }

-- so many values do ret (), and then others
abbrev pub units : ℕ → List ProgramVal → List ProgramVal
units zero others = others
units (suc n) others = a_unit (c_ret t_unit) ∷ units n others

-- _ <- (value first); _ <- (value first + 1); ..; ret (), with so many steps
abbrev pub runs_from : ℕ → ℕ → CompTree
runs_from first zero = c_ret t_unit
runs_from first (suc n) = c_step (s_run (t_val first) (Some m_unit)) (runs_from (suc first) n)

-- n values, and main, which runs each of them
abbrev pub crowd : ℕ → Program
crowd n = record { vals = units n (a_unit (runs_from 0 n) ∷ []); main = Some n }

-- the keys of so many values, and the instances that are taken up by them
abbrev pub keys_from : ℕ → ℕ → List Key
keys_from first zero = []
keys_from first (suc n) = main_key first ∷ keys_from (suc first) n

abbrev pub unit_taken : ℕ → CompTree → Taken
unit_taken number comp = record { key = main_key number; params = []; result = m_unit; body = comp }

abbrev pub units_taken : ℕ → ℕ → List Taken
units_taken first zero = []
units_taken first (suc n) = unit_taken first (c_ret t_unit) ∷ units_taken (suc first) n

-- r <- (fix f ..) 5 (fun x . x + 2), where `fix` is byte 40 and its second parameter varies; and its key
abbrev pub varying_call : CompTree → CompTree
varying_call others = c_step (s_run (t_app (t_app (t_fix 40 second_changes) (t_word 5)) plus_two) (Some m_word)) others

abbrev pub varying_key : Key
varying_key = record { head = t_fix 40 second_changes; fixed = of_term plus_two ∷ []; captured = [] }

-- n values, a value that runs each of them, and main
abbrev pub crowd_and : ℕ → CompTree → Program
crowd_and n main = record { vals = units n (a_unit (runs_from 0 n) ∷ a_word main ∷ []); main = Some (suc n) }

-- do _ <- (the value that runs all); r <- (fix f ..) 5 (fun x . x + 2); ret r
abbrev pub crowd_first : ℕ → CompTree
crowd_first n = c_step (s_run (t_val n) (Some m_unit)) (varying_call (c_ret (t_var 0)))

-- do r <- (fix f ..) 5 (fun x . x + 2); _ <- (the value that runs all); ret r
abbrev pub varying_first : ℕ → CompTree
varying_first n = varying_call (c_step (s_run (t_val n) (Some m_unit)) (c_ret (t_var 1)))

pub record WorkedCrowds : Type 0 where
  -- main and 4,095 further instances may be
  pub as_many_as_may_be : (n : ℕ)
      → n < 4096
      → HasInstances (crowd n) (unit_taken n (runs_from 0 n) ∷ units_taken 0 n) (main_key n ∷ keys_from 0 n)
  pub one_too_many : (n : ℕ) → 4096 ≤ n → RefusesInstances (crowd n) too_many_instances
  -- the 4,097th key is met in instance 1, before instance 2 is found to vary
  pub met_before_it_varies : (n : ℕ) → 4094 ≤ n → RefusesInstances (crowd_and n (crowd_first n)) too_many_instances
  -- with fewer values instance 2 is taken up, and in the other order it is instance 1, before any is met
  pub varies_after_fewer : (n : ℕ) → n < 4094 → RefusesInstances (crowd_and n (crowd_first n)) (is_varying 40 2)
  pub varies_before_it_is_met : (n : ℕ) → RefusesInstances (crowd_and n (varying_first n)) (is_varying 40 2)
