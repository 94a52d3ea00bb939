-- A program whose second instance may be too large, have a parameter of too large a monotype, and call too many
-- values: what of these comes first.
use Rattle.std.specs.Prelude.{◌+◌, ◌*◌, ◌<◌, ◌≤◌, ℕ, suc, [], ◌∷◌, Some}
use Rattle.htt_syntax.specs.Trees.{CompTree, m_unit, y_mono, y_fun, t_val, t_app, t_lam, t_do, t_unit, c_ret, c_step, s_run}
use Rattle.theory_instances.specs.Calls.{ProgramVal, Program}
use Rattle.theory_instances.specs.Lists.{RefusesInstances, too_many_instances, too_large, mono_too_large, node_limit}
use Rattle.theory_instances.specs.Lists.{mono_limit}
use Rattle.theory_instances.specs.Examples.{always}
use Rattle.theory_extraction_refusals.specs.Sizes.{words, zeros}
use Rattle.theory_extraction_refusals.specs.Crowds.{a_unit, units, runs_from}

-- val all : (x : words k) -> {tt} u : unit {tt} = fun x . do .., which runs n values
abbrev pub runs_all : ℕ → ℕ → ProgramVal
runs_all k n = record { ty = y_fun (y_mono (words k)) (always m_unit); term = t_lam (t_do (runs_from 0 n)) }

-- _ <- all (0, ..); ret ()
abbrev pub all_main : ℕ → ℕ → CompTree
all_main k n = c_step (s_run (t_app (t_val n) (zeros k)) (Some m_unit)) (c_ret t_unit)

-- n values, that value, and main
abbrev pub runs : ℕ → ℕ → Program
runs k n = record { vals = units n (runs_all k n ∷ a_unit (all_main k n) ∷ []); main = Some (suc n) }

pub record WorkedPrecedence : Type 0 where
  -- what is left of the value has 3 n + 3 nodes: too many come before a wide parameter and too many calls
  pub nodes_first : (k n : ℕ) → node_limit < 3 * n + 3 → RefusesInstances (runs k n) too_large
  -- a wide parameter comes before too many calls
  pub monotypes_second : (k n : ℕ)
      → 3 * n + 3 ≤ node_limit
      → mono_limit < k + k + 1
      → RefusesInstances (runs k n) mono_too_large
  -- with main and itself its n values are too many
  pub calls_last : (k n : ℕ)
      → 3 * n + 3 ≤ node_limit
      → k + k + 1 ≤ mono_limit
      → 4095 ≤ n
      → RefusesInstances (runs k n) too_many_instances
