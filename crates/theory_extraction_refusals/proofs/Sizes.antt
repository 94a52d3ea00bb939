-- Programs whose trees or monotypes are as large as may be, or larger.
use Rattle.std.proofs.Common.{◌≡◌, ◌<◌, ◌≤◌, ◌+◌, ℕ, zero, suc, List, [], ◌∷◌, Some, None, refl, sym, ap, ◌∙◌, subst, arith}
use Rattle.std.proofs.lemmas.List.Elements.{All-nil}
use Rattle.htt_syntax.specs.Trees.{MonoTree, TermTree, FixTree, m_bool, m_loc, m_unit, m_word, m_pair, triple, t_var, t_val, t_do, t_not, t_eq, t_fix, t_lam}
use Rattle.htt_syntax.specs.Trees.{f_tt, f_ff, s_get}
use Rattle.theory_renaming.specs.Renaming.{Map, lift, lifts, rename_mono, rename_term}
use Rattle.theory_canonical.specs.Skeletons.{skeleton, sk_o}
use Rattle.theory_canonical.specs.Eta.{expansion}
use Rattle.theory_canonical.specs.Folding.{contractum, folding}
use Rattle.theory_counts.specs.Nodes.{nodes_mono, nodes_term, nodes_comp}
use Rattle.theory_counts_monotypes.specs.Monotypes.{greatest_in_term}
use Rattle.theory_substitution.specs.Closing.{closing}
use Rattle.theory_substitution.specs.Monotypes.{fill_mono, fill_term, next_filling, put_mono}
use Rattle.theory_substitution.specs.Substitution.{SubTerm, SubStep, r_var, applied, u_reduced, u_do, u_not, u_eq, u_ret, u_step, u_s_get, u_pair}
use Rattle.theory_typing.specs.Positions.{plain_term}
use Rattle.theory_instances.specs.Calls.{of_term, of_mono, head_of, arguments_of, fix_ty, fix_comp, sites_of}
use Rattle.theory_instances.specs.Occurrences.{met_in_term}
use Rattle.theory_instances.specs.Keys.{Key, IsSameKey, captured_of, key_with, number_in}
use Rattle.theory_instances.specs.Bodies.{puts_none, puts_term, puts_mono, HasBody, body_of_val}
use Rattle.theory_instances.specs.Varying.{PassesOnAt, varies_here}
use Rattle.theory_instances.specs.Lists.{Refusal, computation_in, node_limit, mono_limit, too_large, mono_too_large, past_limit, result_refusal, mono_refusal}
use Rattle.theory_instances.specs.Lists.{Meets, keys_met, meets_none, meets_new, TakesUp, takes_end, takes_next, HasInstances, IsMain, main_key, RefusesUp, up_varies}
use Rattle.theory_instances.specs.Lists.{up_result, up_mono, RefusesInstances, is_varying, refuses_list, refuses_up, refuses_later}
use Rattle.theory_instances.specs.Examples.{always, plus_two, dup_at, twice_result}
use Rattle.theory_instances.proofs.Worked.{other_head, new_to_one}
use Rattle.theory_extraction_refusals.specs.Sizes.{words, negations, never, reading, reads, reads_main, reads_instances, doubled, doubled_main, doubled_instances}
use Rattle.theory_extraction_refusals.specs.Sizes.{varying, varying_to, varying_main, varies_and_negates, WorkedSizes}
use Rattle.theory_extraction_refusals.proofs.Limits.{is_past, is_within}

-- ---- counts

pub nodes_words : (k : ℕ) → nodes_mono (words k) ≡ k + k + 1
unfolding nodes_mono
nodes_words zero = refl
nodes_words (suc k) = omega (arith, nodes_words k)

nodes_negations : (n : ℕ) (term : TermTree) → nodes_term (negations n term) ≡ n + nodes_term term
unfolding nodes_term
nodes_negations zero term = omega arith
nodes_negations (suc n) term = omega (arith, nodes_negations n term)

greatest_negations : (n : ℕ) (term : TermTree) → greatest_in_term (negations n term) ≡ greatest_in_term term
unfolding greatest_in_term
greatest_negations zero term = refl
greatest_negations (suc n) term = greatest_negations n term

-- eq[loc](l, l), under one more variable
abbrev compared : TermTree
compared = t_eq m_loc (t_var 1) (t_var 1)

nodes_read : (k n : ℕ) → nodes_term (t_do (reading k n)) ≡ n + (k + k) + 9
unfolding nodes_term nodes_mono
nodes_read k n =
    let w = nodes_words k in
    let m : nodes_term (negations n compared) ≡ n + 4 = nodes_negations n compared in
    omega (arith, w, m)

greatest_read : (k n : ℕ) → greatest_in_term (t_do (reading k n)) ≡ k + k + 1
unfolding greatest_in_term nodes_mono
greatest_read k n =
    let w = nodes_words k in
    let m : greatest_in_term (negations n compared) ≡ 1 = greatest_negations n compared in
    omega (arith, w, m)

-- ---- what stays where the parameter is put for it

words_stay : (m : Map) (k : ℕ) → rename_mono m (words k) ≡ words k
unfolding rename_mono
words_stay m zero = refl
words_stay m (suc k) = ap (m_pair m_word) (words_stay m k)

kept_negation : (n : ℕ) → folding (t_not (negations n compared)) ≡ t_not (negations n compared)
unfolding contractum
kept_negation zero = refl
kept_negation (suc n) = refl

negations_put : (n : ℕ) → SubTerm (t_var 1) sk_o 1 (negations n compared) (negations n compared)
unfolding contractum rename_mono
negations_put zero = u_eq (u_reduced (r_var refl)) (u_reduced (r_var refl))
negations_put (suc n) =
    subst (λ t. SubTerm (t_var 1) sk_o 1 (t_not (negations n compared)) t) (kept_negation n) (u_not (negations_put n))

reading_put : (k n : ℕ) → SubTerm (t_var 0) sk_o 0 (t_do (reading k n)) (t_do (reading k n))
unfolding rename_term
reading_put k n =
    u_do (u_step
    (subst (λ t. SubStep (t_var 0) sk_o 0 (s_get (words k) (t_var 0)) (s_get t (t_var 0))) (words_stay (closing 0) k) (u_s_get (u_reduced (r_var refl))))
    (u_ret (negations_put n)))

-- ---- the program that reads

reads_is : (k n : ℕ) → IsMain (reads k n) 1
reads_is k n = record {
  named = refl;
  val = record { ty = never m_bool; term = t_do reads_main };
  there = refl;
  spec = triple f_ff m_bool f_tt;
  is_hoare = refl;
}

reads_up : (k n : ℕ) → TakesUp (reads k n) 0 (main_key 1) (record { key = main_key 1; params = []; result = m_bool; body = reads_main })
unfolding skeleton nodes_mono fill_mono
reads_up k n = record {
  never_varies = tt;
  results = [];
  has_body = body_of_val refl refl puts_none;
  results_within = refl;
  monos_within = refl;
  same_key = refl;
  params = refl;
  result = refl;
}

reads_body : (k n : ℕ) → HasBody (reads k n) 1 (main_key 0) (t_do (reading k n) ∷ []) (reading k n)
unfolding skeleton
reads_body k n = body_of_val refl refl (puts_term (applied (reading_put k n)) puts_none)

-- the rest of the list, or of its refusal, behind main
reads_refused : (k n : ℕ) {refusal : Refusal} → RefusesUp (reads k n) 1 (main_key 0) refusal → RefusesInstances (reads k n) refusal
unfolding skeleton sites_of head_of arguments_of met_in_term rename_term plain_term
reads_refused k n u =
    refuses_list (reads_is k n)
    (refuses_later refl (reads_up k n) (meets_new (new_to_one (other_head (main_key 1) (main_key 0) (λ q. omega (arith, q)))) (omega arith) meets_none)
    (refuses_up refl u))

result_past : (k n : ℕ) → node_limit < n + (k + k) + 9 → result_refusal (t_val 0) (t_do (reading k n) ∷ []) ≡ Some too_large
result_past k n l =
    is_past node_limit (nodes_term (t_do (reading k n))) too_large
    (past_limit mono_limit (greatest_in_term (t_do (reading k n))) mono_too_large None) (subst (λ c. node_limit < c) (sym (nodes_read k n)) l)

result_by_monos : (k n : ℕ)
    → n + (k + k) + 9 ≤ node_limit
    → result_refusal (t_val 0) (t_do (reading k n) ∷ []) ≡ past_limit mono_limit (greatest_in_term (t_do (reading k n))) mono_too_large None
result_by_monos k n l =
    is_within node_limit (nodes_term (t_do (reading k n))) too_large
    (past_limit mono_limit (greatest_in_term (t_do (reading k n))) mono_too_large None) (subst (λ c. c ≤ node_limit) (sym (nodes_read k n)) l)

too_many_nodes : (k n : ℕ) → node_limit < n + (k + k) + 9 → RefusesInstances (reads k n) too_large
too_many_nodes k n l = reads_refused k n (up_result tt (reads_body k n) (result_past k n l))

wide_monotype : (k n : ℕ) → n + (k + k) + 9 ≤ node_limit → mono_limit < k + k + 1 → RefusesInstances (reads k n) mono_too_large
wide_monotype k n l w =
    reads_refused k n (up_result tt (reads_body k n)
    (result_by_monos k n l ∙
    is_past mono_limit (greatest_in_term (t_do (reading k n))) mono_too_large None (subst (λ c. mono_limit < c) (sym (greatest_read k n)) w)))

within_both : (k n : ℕ)
    → n + (k + k) + 9 ≤ node_limit
    → k + k + 1 ≤ mono_limit
    → HasInstances (reads k n) (reads_instances k n) (main_key 1 ∷ main_key 0 ∷ [])
unfolding skeleton sites_of head_of arguments_of met_in_term rename_term plain_term nodes_mono fill_mono
within_both k n l w = record {
  number = 1;
  main = reads_is k n;
  all = takes_next refl (reads_up k n) (meets_new (new_to_one (other_head (main_key 1) (main_key 0) (λ q. omega (arith, q)))) (omega arith) meets_none)
      (takes_next refl (record {
        never_varies = tt;
        results = t_do (reading k n) ∷ [];
        has_body = reads_body k n;
        results_within = result_by_monos k n l ∙
            is_within mono_limit (greatest_in_term (t_do (reading k n))) mono_too_large None (subst (λ c. c ≤ mono_limit) (sym (greatest_read k n)) w);
        monos_within = refl;
        same_key = refl;
        params = refl;
        result = refl;
      }) meets_none (takes_end refl));
}

-- the computation has one node less than the term
without_do : (at n : ℕ) (fix : FixTree) → n + 9 ≡ suc node_limit → result_refusal (t_fix at fix) (t_do (reading 0 n) ∷ []) ≡ None
unfolding computation_in nodes_term greatest_in_term
without_do at n fix q =
    let c = nodes_read 0 n in
    let g = greatest_read 0 n in
    is_within node_limit (nodes_comp (reading 0 n)) too_large
    (past_limit mono_limit (greatest_in_term (t_do (reading 0 n))) mono_too_large None) (omega (arith, c, q)) ∙
    is_within mono_limit (greatest_in_term (t_do (reading 0 n))) mono_too_large None (omega (arith, g))

-- ---- the program that doubles

doubled_is : (k : ℕ) → IsMain (doubled k) 1
doubled_is k = record {
  named = refl;
  val = record { ty = always m_unit; term = t_do (doubled_main k) };
  there = refl;
  spec = triple f_tt m_unit f_tt;
  is_hoare = refl;
}

doubled_up : (k : ℕ) → TakesUp (doubled k) 0 (main_key 1) (record { key = main_key 1; params = []; result = m_unit; body = doubled_main k })
unfolding skeleton nodes_mono fill_mono
doubled_up k = record {
  never_varies = tt;
  results = [];
  has_body = body_of_val refl refl puts_none;
  results_within = refl;
  monos_within = refl;
  same_key = refl;
  params = refl;
  result = refl;
}

twice_put : SubTerm (t_var 0) sk_o 0 (t_do twice_result) (t_do twice_result)
twice_put = u_do (u_ret (u_pair (u_reduced (r_var refl)) (u_reduced (r_var refl))))

doubled_body : (k : ℕ) → HasBody (doubled k) 1 (dup_at (words k)).key (t_lam (t_do twice_result) ∷ t_do twice_result ∷ []) twice_result
unfolding skeleton fill_mono fill_term put_mono next_filling lift rename_mono
doubled_body k = body_of_val refl refl (puts_mono (puts_term (applied twice_put) puts_none))

doubled_new : (k : ℕ) → IsSameKey (main_key 1) (dup_at (words k)).key → ⊥
unfolding plain_term
doubled_new k = other_head (main_key 1) (dup_at (words k)).key (λ q. omega (arith, q))

-- the call's key
doubled_met : (k : ℕ) → keys_met (doubled k) [] (doubled_main k) ≡ (dup_at (words k)).key ∷ []
unfolding skeleton sites_of head_of arguments_of met_in_term rename_term
doubled_met k = ap (λ (mono : MonoTree). record { head = t_val 0; fixed = of_mono mono ∷ []; captured = [] } ∷ []) (words_stay (number_in []) k)

doubled_meets : (k : ℕ) → Meets (main_key 1 ∷ []) (keys_met (doubled k) [] (doubled_main k)) (main_key 1 ∷ (dup_at (words k)).key ∷ [])
doubled_meets k =
    subst (λ met. Meets (main_key 1 ∷ []) met (main_key 1 ∷ (dup_at (words k)).key ∷ [])) (sym (doubled_met k))
    (meets_new (new_to_one (doubled_new k)) (omega arith) meets_none)

nodes_pair : (k : ℕ) → nodes_mono (m_pair (words k) (words k)) ≡ k + k + (k + k) + 3
unfolding nodes_mono
nodes_pair k = omega (arith, nodes_words k)

wide_result : (k : ℕ) → mono_limit < k + k + (k + k) + 3 → RefusesInstances (doubled k) mono_too_large
unfolding skeleton sites_of head_of arguments_of met_in_term rename_term rename_mono plain_term nodes_term greatest_in_term fill_mono
wide_result k l =
    refuses_list (doubled_is k)
    (refuses_later refl (doubled_up k) (doubled_meets k)
    (refuses_up refl (up_mono tt (doubled_body k) refl
    (is_past mono_limit (nodes_mono (m_pair (words k) (words k))) mono_too_large (mono_refusal (words k ∷ []))
    (subst (λ c. mono_limit < c) (sym (nodes_pair k)) l)))))

narrow_result : (k : ℕ)
    → k + k + (k + k) + 3 ≤ mono_limit
    → HasInstances (doubled k) (doubled_instances k) (main_key 1 ∷ (dup_at (words k)).key ∷ [])
unfolding skeleton sites_of head_of arguments_of met_in_term rename_term rename_mono plain_term nodes_term greatest_in_term fill_mono
narrow_result k l = record {
  number = 1;
  main = doubled_is k;
  all = takes_next refl (doubled_up k) (doubled_meets k)
      (takes_next refl (record {
        never_varies = tt;
        results = t_lam (t_do twice_result) ∷ t_do twice_result ∷ [];
        has_body = doubled_body k;
        results_within = refl;
        monos_within =
            is_within mono_limit (nodes_mono (m_pair (words k) (words k))) mono_too_large (mono_refusal (words k ∷ []))
            (subst (λ c. c ≤ mono_limit) (sym (nodes_pair k)) l) ∙
            is_within mono_limit (nodes_mono (words k)) mono_too_large None
            (subst (λ c. c ≤ mono_limit) (sym (nodes_words k)) (omega (arith, l)));
        same_key = refl;
        params = refl;
        result = refl;
      }) meets_none (takes_end refl));
}

-- ---- the program that varies

-- no variable is captured by the negations
none_met : (n : ℕ) → met_in_term 4 [] (negations n (t_var 0)) ≡ []
unfolding met_in_term
none_met zero = refl
none_met (suc n) = none_met n

innermost_stays : (m : Map) (n : ℕ) → m 0 ≡ 0 → rename_term m (negations n (t_var 0)) ≡ negations n (t_var 0)
unfolding rename_term
innermost_stays m zero q = ap t_var q
innermost_stays m (suc n) q = ap t_not (innermost_stays m n q)

abbrev negating_key : TermTree → Key
negating_key result = record { head = t_fix 40 (varying_to result); fixed = of_term plus_two ∷ []; captured = [] }

none_captured : (n : ℕ) → captured_of (t_fix 40 (varying n)) (of_term plus_two ∷ []) ≡ []
unfolding met_in_term
none_captured n = rw (none_met n) refl

varying_met : (n : ℕ) → keys_met (varies_and_negates n) [] (varying_main n) ≡ negating_key (negations n (t_var 0)) ∷ []
unfolding skeleton sites_of head_of arguments_of fix_ty rename_term rename_mono lift lifts
varying_met n =
    ap (λ (captured : List ℕ). key_with captured [] (t_fix 40 (varying n)) (of_term plus_two ∷ []) ∷ []) (none_captured n) ∙
    ap (λ (result : TermTree). negating_key result ∷ []) (innermost_stays (lift (lift (lift (lift (number_in []))))) n refl)

varying_new : (n : ℕ) → IsSameKey (main_key 0) (negating_key (negations n (t_var 0))) → ⊥
unfolding plain_term
varying_new n = other_head (main_key 0) (negating_key (negations n (t_var 0))) (λ q. omega (arith, q))

varies_first : (n : ℕ) → RefusesInstances (varies_and_negates n) (is_varying 40 1)
unfolding skeleton greatest_in_term nodes_mono fix_ty fix_comp met_in_term rename_term rename_mono lift lifts fill_mono expansion
varies_first n =
    refuses_list {number = 0} (record {
      named = refl;
      val = record { ty = always m_bool; term = t_do (varying_main n) };
      there = refl;
      spec = triple f_tt m_bool f_tt;
      is_hoare = refl;
    })
    (refuses_later {taken = record { key = main_key 0; params = []; result = m_bool; body = varying_main n }} refl
    (record { never_varies = tt; results = []; has_body = body_of_val refl refl puts_none; results_within = refl; monos_within = refl; same_key = refl; params = refl; result = refl })
    (subst (λ met. Meets (main_key 0 ∷ []) met (main_key 0 ∷ negating_key (negations n (t_var 0)) ∷ [])) (sym (varying_met n))
    (meets_new (new_to_one (varying_new n)) (omega arith) meets_none))
    (refuses_up refl (up_varies refl (record {
      before = [];
      here = _;
      after = _;
      all = refl;
      passed_on = All-nil (PassesOnAt (varying n));
      varies = varies_here (λ e. cc) (λ e. cc);
    }))))

pub worked : WorkedSizes
unfolding nodes_mono nodes_term greatest_in_term
worked = record {
  nodes_read = nodes_read;
  greatest_read = greatest_read;
  too_many_nodes = too_many_nodes;
  wide_monotype = wide_monotype;
  within_both = within_both;
  with_do = λ n q. result_past 0 n (omega (arith, q));
  without_do = without_do;
  first_result_first = λ n. refl;
  wide_result = wide_result;
  narrow_result = narrow_result;
  varies_first = varies_first;
}
