-- The program whose second instance may be refused for three reasons.
use Rattle.std.proofs.Common.{◌≡◌, ◌<◌, ◌≤◌, ◌+◌, ◌*◌, ℕ, zero, suc, List, [], ◌∷◌, ◌++◌, reverse, Option, Some, None, slice_get, refl, sym, ap, ◌∙◌, subst, arith}
use Rattle.htt_syntax.specs.Trees.{MonoTree, TermTree, m_unit, m_var, m_word, m_pair, triple, t_var, t_val, t_do, f_tt}
use Rattle.theory_renaming.specs.Renaming.{rename_mono, rename_term}
use Rattle.theory_canonical.specs.Skeletons.{Skeleton, skeleton, sk_o}
use Rattle.theory_counts.specs.Nodes.{nodes_mono, nodes_option, nodes_term, nodes_comp}
use Rattle.theory_counts_monotypes.specs.Monotypes.{greatest_in_term, greatest_in_comp}
use Rattle.theory_substitution.specs.Closing.{up}
use Rattle.theory_substitution.specs.Monotypes.{fill_mono}
use Rattle.theory_substitution.specs.Substitution.{SubComp, k_val, applied, u_do, u_ret, u_unit, u_step, u_run}
use Rattle.theory_instances.specs.Calls.{ProgramVal, of_term, head_of, arguments_of, fixed_of, ty_of_val, sites_of}
use Rattle.theory_instances.specs.Occurrences.{met_in_term}
use Rattle.theory_instances.specs.Keys.{Key, key_of}
use Rattle.theory_instances.specs.Bodies.{passed_monos, result_mono, params_of, result_of, puts_none, puts_term, HasBody, body_of_val}
use Rattle.theory_instances.specs.Lists.{Refusal, too_large, mono_too_large, too_many_instances, past_limit, node_limit, mono_limit, result_refusal, mono_refusal}
use Rattle.theory_instances.specs.Lists.{keys_met, Meets, meets_none, meets_new, MeetsTooMany, TakesUp, IsMain, main_key, up_result, up_mono}
use Rattle.theory_instances.specs.Lists.{RefusesAll, RefusesInstances, refuses_list, refuses_up, refuses_calls, refuses_later}
use Rattle.theory_instances.proofs.Worked.{new_to_one, new_to_two}
use Rattle.theory_extraction_refusals.specs.Sizes.{words, zeros}
use Rattle.theory_extraction_refusals.specs.Crowds.{a_unit, runs_from}
use Rattle.theory_extraction_refusals.specs.Precedence.{runs, runs_all, all_main, WorkedPrecedence}
use Rattle.theory_extraction_refusals.proofs.Limits.{is_past, is_within}
use Rattle.theory_extraction_refusals.proofs.Sizes.{nodes_words}
use Rattle.theory_extraction_refusals.proofs.Crowds.{value_differs, Unmet, meets_more, values_met, unit_up, past_units, next_past_units}

words_filled : (k : ℕ) → fill_mono m_var (words k) ≡ words k
unfolding fill_mono
words_filled zero = refl
words_filled (suc k) = ap (m_pair m_word) (words_filled k)

-- steps that run values have no variable
runs_stay : (new : TermTree) (s : Skeleton) (x first n : ℕ) → SubComp new s x (runs_from first n) (runs_from first n)
unfolding rename_mono
runs_stay new s x first zero = u_ret u_unit
runs_stay new s x first (suc n) = u_step (u_run k_val) (runs_stay (up new) s (suc x) (suc first) n)

nodes_run : (first n : ℕ) → nodes_comp (runs_from first n) ≡ 3 * n + 2
unfolding nodes_comp nodes_mono nodes_option
nodes_run first zero = refl
nodes_run first (suc n) = omega (arith, nodes_run (suc first) n)

greatest_run : (first n : ℕ) → greatest_in_comp (runs_from first n) ≤ 1
unfolding greatest_in_comp nodes_mono nodes_option
greatest_run first zero = omega arith
greatest_run first (suc n) = omega (arith, greatest_run (suc first) n)

module _ (k n : ℕ) where
  all_there : slice_get (runs k n).vals n ≡ Some (runs_all k n)
  all_there = past_units n (runs_all k n) (a_unit (all_main k n) ∷ [])

  main_there : slice_get (runs k n).vals (suc n) ≡ Some (a_unit (all_main k n))
  main_there = next_past_units n (runs_all k n) (a_unit (all_main k n))

  main_is : IsMain (runs k n) (suc n)
  main_is = record { named = refl; val = a_unit (all_main k n); there = main_there; spec = triple f_tt m_unit f_tt; is_hoare = refl }

  -- the call's key, and so the two instances
  all_met : keys_met (runs k n) [] (all_main k n) ≡ main_key n ∷ []
  unfolding skeleton sites_of head_of arguments_of met_in_term rename_term
  all_met = ap (λ (v : Option ProgramVal). key_of [] (t_val n) (fixed_of (skeleton (ty_of_val v)) (of_term (zeros k) ∷ [])) ∷ []) all_there

  abbrev two : List Key
  two = main_key (suc n) ∷ main_key n ∷ []

  two_met : Meets (main_key (suc n) ∷ []) (keys_met (runs k n) [] (all_main k n)) two
  two_met =
      subst (λ met. Meets (main_key (suc n) ∷ []) met two) (sym all_met)
      (meets_new (new_to_one (value_differs (suc n) n (λ q. omega (arith, q)))) (omega arith) meets_none)

  two_unmet : Unmet two 0 n
  two_unmet j l m = new_to_two (value_differs (suc n) j (λ q. omega (arith, q, m))) (value_differs n j (λ q. omega (arith, q, m)))

  -- behind main
  behind_main : {refusal : Refusal} → RefusesAll (runs k n) two 1 refusal → RefusesInstances (runs k n) refusal
  behind_main r = refuses_list main_is (refuses_later refl (unit_up (runs k n) 0 (suc n) (all_main k n) main_there) two_met r)

  all_body : HasBody (runs k n) 1 (main_key n) (t_do (runs_from 0 n) ∷ []) (runs_from 0 n)
  unfolding skeleton
  all_body = body_of_val refl all_there (puts_term (applied (u_do (runs_stay (t_var 0) sk_o 0 0 n))) puts_none)

  all_params : params_of (runs k n) (main_key n) ≡ words k ∷ []
  all_params =
      ap (λ (v : Option ProgramVal). reverse (passed_monos m_var (ty_of_val v) []) ++ []) all_there ∙
      ap (λ (mono : MonoTree). mono ∷ []) (words_filled k)

  all_result : result_of (runs k n) (main_key n) ≡ m_unit
  unfolding fill_mono
  all_result = ap (λ (v : Option ProgramVal). result_mono m_var (ty_of_val v) []) all_there

  -- the term has one node more than the computation
  nodes_all : nodes_term (t_do (runs_from 0 n)) ≡ 3 * n + 3
  unfolding nodes_term
  nodes_all = omega (arith, nodes_run 0 n)

  abbrev by_monos : Option Refusal
  by_monos = past_limit mono_limit (greatest_in_term (t_do (runs_from 0 n))) mono_too_large None

  result_within : 3 * n + 3 ≤ node_limit → result_refusal (t_val n) (t_do (runs_from 0 n) ∷ []) ≡ None
  unfolding greatest_in_term
  result_within l =
      is_within node_limit (nodes_term (t_do (runs_from 0 n))) too_large by_monos (subst (λ c. c ≤ node_limit) (sym nodes_all) l) ∙
      is_within mono_limit (greatest_in_term (t_do (runs_from 0 n))) mono_too_large None (omega (arith, greatest_run 0 n))

  nodes_first : node_limit < 3 * n + 3 → RefusesInstances (runs k n) too_large
  nodes_first l =
      behind_main (refuses_up refl (up_result tt all_body
      (is_past node_limit (nodes_term (t_do (runs_from 0 n))) too_large by_monos (subst (λ c. node_limit < c) (sym nodes_all) l))))

  -- the result's monotype is narrow, and so what the parameter's has counts
  abbrev monos : List MonoTree
  monos = m_unit ∷ words k ∷ []

  all_monos : (o : Option Refusal) → mono_refusal monos ≡ o → mono_refusal (result_of (runs k n) (main_key n) ∷ params_of (runs k n) (main_key n)) ≡ o
  all_monos o q = (λ j. mono_refusal (all_result j ∷ all_params j)) ∙ q

  monotypes_second : 3 * n + 3 ≤ node_limit → mono_limit < k + k + 1 → RefusesInstances (runs k n) mono_too_large
  unfolding nodes_mono
  monotypes_second l w =
      behind_main (refuses_up refl (up_mono tt all_body (result_within l)
      (all_monos (Some mono_too_large) (is_past mono_limit (nodes_mono (words k)) mono_too_large None (subst (λ c. mono_limit < c) (sym (nodes_words k)) w)))))

  all_up : 3 * n + 3 ≤ node_limit
      → k + k + 1 ≤ mono_limit
      → TakesUp (runs k n) 1 (main_key n) (record { key = main_key n; params = words k ∷ []; result = m_unit; body = runs_from 0 n })
  unfolding nodes_mono
  all_up l w = record {
    never_varies = tt;
    results = t_do (runs_from 0 n) ∷ [];
    has_body = all_body;
    results_within = result_within l;
    monos_within = is_within mono_limit (nodes_mono (words k)) mono_too_large None (subst (λ c. c ≤ mono_limit) (sym (nodes_words k)) w);
    same_key = refl;
    params = sym all_params;
    result = sym all_result;
  }

  calls_last : 3 * n + 3 ≤ node_limit → k + k + 1 ≤ mono_limit → 4095 ≤ n → RefusesInstances (runs k n) too_many_instances
  calls_last l w m =
      behind_main (refuses_calls refl (all_up l w)
      (subst (MeetsTooMany two) (sym (values_met (runs k n) (words k ∷ []) 0 n)) (meets_more n 0 n two (omega arith) (omega arith) (omega arith) two_unmet)))

pub worked : WorkedPrecedence
worked = record { nodes_first = nodes_first; monotypes_second = monotypes_second; calls_last = calls_last }
