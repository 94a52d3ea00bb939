-- Programs whose trees or monotypes are as large as may be, or larger.
use Rattle.std.specs.Prelude.{◌≡◌, ◌+◌, ◌<◌, ◌≤◌, ℕ, zero, suc, List, [], ◌∷◌, true, Some, None}
use Rattle.htt_syntax.specs.Trees.{MonoTree, TyTree, TermTree, FixTree, CompTree, m_word, m_bool, m_loc, m_unit, m_pair}
use Rattle.htt_syntax.specs.Trees.{m_var, y_mono, y_fun, y_all, y_hoare, triple, t_var, t_val, t_app, t_inst, t_lam}
use Rattle.htt_syntax.specs.Trees.{t_lam_t, t_do, t_fix, t_word, t_bool, t_loc, t_unit, t_pair, t_not, t_eq, x_param}
use Rattle.htt_syntax.specs.Trees.{x_body, c_ret, c_step, s_run, s_get, f_tt, f_ff}
use Rattle.theory_counts.specs.Nodes.{nodes_term}
use Rattle.theory_counts_monotypes.specs.Monotypes.{greatest_in_term}
use Rattle.theory_instances.specs.Calls.{Program}
use Rattle.theory_instances.specs.Lists.{Taken, HasInstances, RefusesInstances, is_varying, too_large, mono_too_large}
use Rattle.theory_instances.specs.Lists.{node_limit, mono_limit, result_refusal, main_key}
use Rattle.theory_instances.specs.Examples.{always, word_to_word, plus_two, twice_result, dup_at}

-- word * (word * ..), with so many pairs
abbrev pub words : ℕ → MonoTree
words zero = m_word
words (suc k) = m_pair m_word (words k)

-- 0, or (0, (0, ..)), of that monotype
abbrev pub zeros : ℕ → TermTree
zeros zero = t_word 0
zeros (suc k) = t_pair (t_word 0) (zeros k)

-- not (not .. M), so many times
abbrev pub negations : ℕ → TermTree → TermTree
negations zero term = term
negations (suc n) term = t_not (negations n term)

-- {ff} x : t {tt}
abbrev pub never : MonoTree → TyTree
never mono = y_hoare (triple f_ff mono f_tt)

-- v <- get[words k] l; ret not (not .. eq[loc](l, l)), with n negations, where l is the parameter
abbrev pub reading : ℕ → ℕ → CompTree
reading k n = c_step (s_get (words k) (t_var 0)) (c_ret (negations n (t_eq m_loc (t_var 1) (t_var 1))))

-- r <- (value 0) null; ret r
abbrev pub reads_main : CompTree
reads_main = c_step (s_run (t_app (t_val 0) (t_loc 0)) (Some m_bool)) (c_ret (t_var 0))

-- val read : (l : loc) -> {ff} b : bool {tt} = fun l . do .., and val main : {ff} b : bool {tt} = do r <- read null; ret r
abbrev pub reads : ℕ → ℕ → Program
reads k n = record {
  vals = record { ty = y_fun (y_mono m_loc) (never m_bool); term = t_lam (t_do (reading k n)) } ∷
      record { ty = never m_bool; term = t_do reads_main } ∷ [];
  main = Some 1;
}

abbrev pub reads_instances : ℕ → ℕ → List Taken
reads_instances k n =
    record { key = main_key 1; params = []; result = m_bool; body = reads_main } ∷
    record { key = main_key 0; params = m_loc ∷ []; result = m_bool; body = reading k n } ∷ []

-- r <- dup [words k] (0, ..); ret ()
abbrev pub doubled_main : ℕ → CompTree
doubled_main k =
    c_step (s_run (t_app (t_inst (t_val 0) (words k)) (zeros k)) (Some (m_pair (words k) (words k)))) (c_ret t_unit)

-- val dup : [a] -> (x : a) -> {tt} p : a * a {tt} = fun [a] . fun x . do ret (x, x), and that main
abbrev pub doubled : ℕ → Program
doubled k = record {
  vals = record {
    ty = y_all (y_fun (y_mono (m_var 0)) (y_hoare (triple f_tt (m_pair (m_var 1) (m_var 1)) f_tt)));
    term = t_lam_t (t_lam (t_do twice_result));
  } ∷ record { ty = always m_unit; term = t_do (doubled_main k) } ∷ [];
  main = Some 1;
}

abbrev pub doubled_instances : ℕ → List Taken
doubled_instances k =
    record { key = main_key 1; params = []; result = m_unit; body = doubled_main k } ∷ dup_at (words k) ∷ []

-- fix f (h : (x : word) -> word) (b : bool) : {tt} z : bool {tt} . y <- f (fun x . h (h x)) b; ret M
abbrev pub varying_to : TermTree → FixTree
varying_to result =
    x_param word_to_word (x_param (y_mono m_bool)
    (x_body (triple f_tt m_bool f_tt)
    (c_step
    (s_run (t_app (t_app (t_var 0) (t_lam (t_app (t_var 3) (t_app (t_var 3) (t_var 0))))) (t_var 1)) (Some m_bool))
    (c_ret result))))

-- where M is not (not .. y)
abbrev pub varying : ℕ → FixTree
varying n = varying_to (negations n (t_var 0))

-- val main = do r <- (fix f ..) (fun x . x + 2) true; ret r, where `fix` is byte 40
abbrev pub varying_main : ℕ → CompTree
varying_main n =
    c_step (s_run (t_app (t_app (t_fix 40 (varying n)) plus_two) (t_bool true)) (Some m_bool)) (c_ret (t_var 0))

abbrev pub varies_and_negates : ℕ → Program
varies_and_negates n =
    record { vals = record { ty = always m_bool; term = t_do (varying_main n) } ∷ []; main = Some 0 }

pub record WorkedSizes : Type 0 where
  -- n negations and a monotype of 2 k + 1 nodes
  pub nodes_read : (k n : ℕ) → nodes_term (t_do (reading k n)) ≡ n + (k + k) + 9
  pub greatest_read : (k n : ℕ) → greatest_in_term (t_do (reading k n)) ≡ k + k + 1
  -- with more than 1,000,000 nodes it is too large, whatever its monotypes are
  pub too_many_nodes : (k n : ℕ) → node_limit < n + (k + k) + 9 → RefusesInstances (reads k n) too_large
  -- with no more, but a monotype of more than 64, this is the refusal; and with neither it has its list
  pub wide_monotype : (k n : ℕ)
      → n + (k + k) + 9 ≤ node_limit
      → mono_limit < k + k + 1
      → RefusesInstances (reads k n) mono_too_large
  pub within_both : (k n : ℕ)
      → n + (k + k) + 9 ≤ node_limit
      → k + k + 1 ≤ mono_limit
      → HasInstances (reads k n) (reads_instances k n) (main_key 1 ∷ main_key 0 ∷ [])
  -- of a value what is left is counted with `do`, of a recursive function its computation
  pub with_do : (n : ℕ)
      → n + 9 ≡ suc node_limit
      → result_refusal (t_val 0) (t_do (reading 0 n) ∷ []) ≡ Some too_large
  pub without_do : (at n : ℕ) (fix : FixTree)
      → n + 9 ≡ suc node_limit
      → result_refusal (t_fix at fix) (t_do (reading 0 n) ∷ []) ≡ None
  -- the first result is tested by both before the second is
  pub first_result_first : (n : ℕ)
      → result_refusal (t_val 0) (t_do (reading 32 0) ∷ t_do (reading 0 n) ∷ []) ≡ Some mono_too_large
  -- a pair of two monotypes of 2 k + 1 nodes has 4 k + 3: too many as the result of an instance whose parameter
  -- has one of them, though the body has none
  pub wide_result : (k : ℕ) → mono_limit < k + k + (k + k) + 3 → RefusesInstances (doubled k) mono_too_large
  pub narrow_result : (k : ℕ)
      → k + k + (k + k) + 3 ≤ mono_limit
      → HasInstances (doubled k) (doubled_instances k) (main_key 1 ∷ (dup_at (words k)).key ∷ [])
  -- a recursive function that varies does so with however many nodes
  pub varies_first : (n : ℕ) → RefusesInstances (varies_and_negates n) (is_varying 40 1)
