-- The worked examples hold.
use Rattle.std.proofs.Common.{◌≡◌, ℕ, zero, suc, List, [], ◌∷◌, Some, refl, ap, ◌∙◌, arith}
use Rattle.std.proofs.lemmas.Option.{same_Some}
use Rattle.std.proofs.lemmas.List.Elements.{All-nil, All-cons}
use Rattle.htt_syntax.specs.declared.mono.Op.TheVariants.{Add, Sub}
use Rattle.htt_syntax.specs.Trees.{TyTree, TripleTree, TermTree, CompTree, m_word, m_bool, m_pair, y_mono, y_fun, y_hoare, triple, t_var}
use Rattle.htt_syntax.specs.Trees.{t_val, t_word, t_bin, t_do, t_lam, t_app, t_eq, c_ret, c_step, s_run, s_if, f_tt, f_eq}
use Rattle.theory_renaming.specs.Renaming.{lift, lifts, rename_mono, rename_term}
use Rattle.theory_canonical.specs.Skeletons.{Skeleton, skeleton, sk_o}
use Rattle.theory_canonical.specs.Eta.{expansion}
use Rattle.theory_canonical.specs.Folding.{contractum, folding}
use Rattle.theory_counts.specs.Nodes.{nodes_mono, nodes_option, nodes_term}
use Rattle.theory_counts_monotypes.specs.Monotypes.{greatest_in_term}
use Rattle.theory_substitution.specs.Closing.{closing}
use Rattle.theory_substitution.specs.Monotypes.{fill_mono, fill_term, next_filling, put_mono}
use Rattle.theory_substitution.specs.Substitution.{SubTerm, SubFix, k_var, k_made, k_fix, k_app, r_var, r_app, applied, u_kept, u_reduced, u_word, u_do, u_pair}
use Rattle.theory_substitution.specs.Substitution.{u_bin, u_eq}
use Rattle.theory_substitution.specs.Substitution.{u_lam, u_no_terms, u_x_param, u_x_body, u_ret, u_step, u_spliced, b_ret, b_step, u_run, u_s_if, u_y_mono}
use Rattle.theory_substitution.specs.Substitution.{u_y_fun, u_triple, u_f_tt}
use Rattle.theory_typing.specs.Positions.{plain_term}
use Rattle.theory_instances.specs.Calls.{Argument, of_mono, head_of, arguments_of, fix_ty, fix_comp, sites_of}
use Rattle.theory_instances.specs.Occurrences.{met_in_term}
use Rattle.theory_instances.specs.Keys.{Key, IsSameKey, plain_key}
use Rattle.theory_instances.specs.Bodies.{opened_fix, opened_skeleton, puts_none, puts_term, puts_mono, HasBody, body_of_val, body_of_fix}
use Rattle.theory_instances.specs.Varying.{PassesOnAt, passes_end, passes_value, passes_fixed, varies_here}
use Rattle.theory_instances.specs.Lists.{computation_in, IsNew, meets_none, meets_new, TakesUp, takes_end, takes_next, HasInstances, IsMain}
use Rattle.theory_instances.specs.Lists.{main_key}
use Rattle.theory_instances.specs.Lists.{RefusesInstances, is_varying, refuses_no_main, refuses_parameters, refuses_list, refuses_up, refuses_later, up_varies}
use Rattle.theory_instances.specs.Examples.{WorkedInstances, WorkedKeys, plus_two, sum, sum_instances, cell, cell_body, cell_instances, blocks, blocks_body}
use Rattle.theory_instances.specs.Examples.{blocks_instances}
use Rattle.theory_instances.specs.Examples.{seven, seven_body, seven_instances, dup, dup_body, dup_result, dup_at, dup_instances, twice_result, word_and_bool}
use Rattle.theory_instances.specs.Examples.{always}
use Rattle.theory_instances.specs.Examples.{rep, rep_main, rep_key, rep_taken, rep_instances, fix_key, counted, passed_on, changed, counted_body, repeated}

-- x + 2, where a term is put for x
plus_two_of : {new t r : TermTree} {s : Skeleton} {x : ℕ} → SubTerm new s x t r → SubTerm new s x (t_bin Add t (t_word 2)) (folding (t_bin Add r (t_word 2)))
plus_two_of d = u_bin d u_word

pub worked_keys : WorkedKeys
unfolding head_of arguments_of fix_ty met_in_term rename_term rename_mono lift lifts skeleton fill_mono plain_term sites_of
worked_keys = record {
  captured_in_formulas = refl;
  captured_by_a_function = refl;
  two_captured = refl;
  captured_before_passed = refl;
  made_with_captured = refl;
  same_at_another_byte = refl;
  first_branch_first = refl;
}

abbrev sum_spec : TripleTree
sum_spec = triple f_tt m_word (f_eq m_word (t_var 2) (t_word 5))

abbrev sum_ty : TyTree
sum_ty = y_hoare sum_spec

-- keys that differ in the number of a value, or in whether a pair is the first argument
abbrev head_number : TermTree → ℕ
head_number (t_val n) = n
head_number term = 99

abbrev pair_given : List Argument → ℕ
pair_given (of_mono (m_pair left right) ∷ others) = 1
pair_given arguments = 0

pub other_head : (k l : Key) → (head_number (plain_term k.head) ≡ head_number (plain_term l.head) → ⊥) → IsSameKey k l → ⊥
other_head k l d e = d (ap (λ (key : Key). head_number key.head) e)

other_argument : (k l : Key) → (pair_given (plain_key k).fixed ≡ pair_given (plain_key l).fixed → ⊥) → IsSameKey k l → ⊥
other_argument k l d e = d (ap (λ (key : Key). pair_given key.fixed) e)

pub new_to_one : {key known : Key} → (IsSameKey known key → ⊥) → IsNew (known ∷ []) key
new_to_one d zero k = d (ap plain_key (same_Some _ _ k.at) ∙ k.same)
new_to_one d (suc n) k = absurd (cc)

pub new_to_two : {key first second : Key} → (IsSameKey first key → ⊥) → (IsSameKey second key → ⊥) → IsNew (first ∷ second ∷ []) key
new_to_two d e zero k = d (ap plain_key (same_Some _ _ k.at) ∙ k.same)
new_to_two d e (suc zero) k = e (ap plain_key (same_Some _ _ k.at) ∙ k.same)
new_to_two d e (suc (suc n)) k = absurd (cc)

-- an instance that is taken up without arguments
sum_has : HasInstances sum sum_instances (main_key 0 ∷ [])
unfolding skeleton sites_of greatest_in_term nodes_mono fill_mono
sum_has = record {
  number = 0;
  main = record { named = refl; val = record { ty = sum_ty; term = t_do (c_ret (t_word 5)) }; there = refl; spec = sum_spec; is_hoare = refl };
  all = takes_next refl (record {
    never_varies =
        tt;
    results = [];
    has_body = body_of_val refl refl puts_none;
    results_within = refl;
    monos_within = refl;
    same_key = refl;
    params =
        refl;
    result = refl;
  }) meets_none (takes_end refl);
}

cell_has : HasInstances cell cell_instances (main_key 0 ∷ [])
unfolding skeleton sites_of greatest_in_term nodes_mono fill_mono
cell_has = record {
  number = 0;
  main = record { named = refl; val = record { ty = always m_word; term = t_do cell_body }; there = refl; spec = triple f_tt m_word f_tt; is_hoare = refl };
  all = takes_next refl (record {
    never_varies =
        tt;
    results = [];
    has_body = body_of_val refl refl puts_none;
    results_within = refl;
    monos_within = refl;
    same_key = refl;
    params =
        refl;
    result = refl;
  }) meets_none (takes_end refl);
}

blocks_have : HasInstances blocks blocks_instances (main_key 0 ∷ [])
unfolding skeleton sites_of greatest_in_term nodes_mono fill_mono
blocks_have = record {
  number = 0;
  main = record { named = refl; val = record { ty = always m_bool; term = t_do blocks_body }; there = refl; spec = triple f_tt m_bool f_tt; is_hoare = refl };
  all = takes_next refl (record {
    never_varies =
        tt;
    results = [];
    has_body = body_of_val refl refl puts_none;
    results_within = refl;
    monos_within = refl;
    same_key = refl;
    params =
        refl;
    result = refl;
  }) meets_none (takes_end refl);
}

seven_has : HasInstances seven seven_instances (main_key 1 ∷ main_key 0 ∷ [])
unfolding skeleton sites_of greatest_in_term nodes_mono nodes_term nodes_option head_of arguments_of fix_ty fix_comp met_in_term rename_term
    rename_mono lift lifts plain_term fill_mono fill_term put_mono next_filling closing contractum expansion opened_fix opened_skeleton
    computation_in
seven_has = record {
  number = 1;
  main = record { named = refl; val = record { ty = always m_word; term = t_do seven_body }; there = refl; spec = triple f_tt m_word f_tt; is_hoare = refl };
  all = takes_next refl (record {
    never_varies =
        tt;
    results = [];
    has_body = body_of_val refl refl puts_none;
    results_within = refl;
    monos_within = refl;
    same_key = refl;
    params =
        refl;
    result = refl;
  }) (meets_new (new_to_one (other_head (main_key 1) (main_key 0) (λ q. omega (arith, q)))) (omega arith) meets_none)
      (takes_next refl (record {
        never_varies =
            tt;
        results = [];
        has_body = body_of_val refl refl puts_none;
        results_within = refl;
        monos_within = refl;
        same_key = refl;
        params =
            refl;
        result = refl;
      }) meets_none (takes_end refl));
}

-- ret (x, x), where the parameter is put for x
twice_put : SubTerm (t_var 0) sk_o 0 (t_do twice_result) (t_do twice_result)
twice_put = u_do (u_ret (u_pair (u_reduced (r_var refl)) (u_reduced (r_var refl))))

dup_has : HasInstances dup dup_instances (main_key 1 ∷ (dup_at m_word).key ∷ (dup_at word_and_bool).key ∷ [])
unfolding skeleton sites_of greatest_in_term nodes_mono nodes_term nodes_option head_of arguments_of fix_ty fix_comp met_in_term rename_term
    rename_mono lift lifts plain_term fill_mono fill_term put_mono next_filling closing contractum expansion opened_fix opened_skeleton
    computation_in
dup_has = record {
  number = 1;
  main = record {
    named = refl;
    val = record { ty = always dup_result; term = t_do dup_body };
    there = refl;
    spec = triple f_tt dup_result f_tt;
    is_hoare = refl;
  };
  all = takes_next refl (record {
    never_varies =
        tt;
    results = [];
    has_body = body_of_val refl refl puts_none;
    results_within = refl;
    monos_within = refl;
    same_key = refl;
    params =
        refl;
    result = refl;
  }) (meets_new (new_to_one (other_head (main_key 1) (dup_at m_word).key (λ q. omega (arith, q)))) (omega arith)
      (meets_new (new_to_two (other_head (main_key 1) (dup_at word_and_bool).key (λ q. omega (arith, q)))
      (other_argument (dup_at m_word).key (dup_at word_and_bool).key (λ q. omega (arith, q)))) (omega arith) meets_none))
      (takes_next refl (record {
        never_varies =
            tt;
        results = t_lam (t_do twice_result) ∷ t_do twice_result ∷
            [];
        has_body = body_of_val refl refl (puts_mono (puts_term (applied twice_put) puts_none));
        results_within = refl;
        monos_within = refl;
        same_key = refl;
        params = refl;
        result = refl;
      }) meets_none
      (takes_next refl (record {
        never_varies =
            tt;
        results = t_lam (t_do twice_result) ∷ t_do twice_result ∷
            [];
        has_body = body_of_val refl refl (puts_mono (puts_term (applied twice_put) puts_none));
        results_within = refl;
        monos_within = refl;
        same_key = refl;
        params = refl;
        result = refl;
      }) meets_none (takes_end refl)));
}

-- the function that counts has no free variable, if what it passes has none
module _ (passed : TermTree) (stays : (new : TermTree) (s : Skeleton) (y : ℕ) → SubTerm new s (suc (suc (suc y))) passed passed) where
  counted_stays : {new : TermTree} {s : Skeleton} (y : ℕ) → SubFix new s y (counted passed) (counted passed)
  unfolding closing lift contractum rename_mono
  counted_stays y =
      u_x_param (u_y_fun u_y_mono u_y_mono) (u_x_param u_y_mono (u_x_body (u_triple u_f_tt u_f_tt)
      (u_step
      (u_s_if (u_eq (u_kept (k_var (λ q. omega (arith, q)))) u_word) (u_ret u_word)
      (u_step (u_run (k_app (k_app (k_var (λ q. omega (arith, q))) (stays _ _ y)) (u_bin (u_kept (k_var (λ q. omega (arith, q)))) u_word)))
      (u_ret (u_kept (k_app (k_var (λ q. omega (arith, q))) (u_kept (k_var (λ q. omega (arith, q)))))))))
      (u_ret (u_kept (k_var (λ q. omega (arith, q))))))))

  rep_body :
      HasBody (rep passed) 1 rep_key
      (t_lam (t_do (repeated (counted passed) plus_two (t_var 0))) ∷ t_do (repeated (counted passed) plus_two (t_var 0)) ∷ [])
      (repeated (counted passed) plus_two (t_var 0))
  unfolding skeleton sites_of greatest_in_term nodes_mono nodes_term nodes_option head_of arguments_of fix_ty fix_comp met_in_term
      rename_term rename_mono lift lifts plain_term fill_mono fill_term put_mono next_filling closing contractum expansion opened_fix
      opened_skeleton computation_in
  rep_body =
      body_of_val refl refl
      (puts_term (applied (u_lam (u_do (u_step (u_run
      (k_app (k_app (k_fix (counted_stays 1))
      (u_lam (u_reduced (r_app (r_var refl) (u_kept (k_var (λ q. omega (arith, q)))) (applied (plus_two_of (u_reduced (r_var refl))))))))
      (u_kept (k_var (λ q. omega (arith, q)))))) (u_ret (u_kept (k_var (λ q. omega (arith, q)))))))))
      (puts_term (applied (u_do (u_step (u_run
      (k_app (k_app (k_fix (counted_stays 0)) (u_lam (plus_two_of (u_kept (k_var (λ q. omega (arith, q))))))) (u_reduced (r_var refl))))
      (u_ret (u_kept (k_var (λ q. omega (arith, q))))))))
      puts_none))

passed_on_stays : (new : TermTree) (s : Skeleton) (y : ℕ) → SubTerm new s (suc (suc (suc y))) passed_on passed_on
unfolding closing lift
passed_on_stays new s y = u_lam (u_kept (k_app (k_var (λ q. omega (arith, q))) (u_kept (k_var (λ q. omega (arith, q))))))

changed_stays : (new : TermTree) (s : Skeleton) (y : ℕ) → SubTerm new s (suc (suc (suc y))) changed changed
unfolding closing lift
changed_stays new s y =
    u_lam (u_kept (k_app (k_var (λ q. omega (arith, q))) (u_kept (k_app (k_var (λ q. omega (arith, q))) (u_kept (k_var (λ q. omega (arith, q))))))))

rep_main_is : (passed : TermTree) → IsMain (rep passed) 1
rep_main_is passed = record {
  named = refl;
  val = record { ty = always m_word; term = t_do rep_main };
  there = refl;
  spec = triple f_tt m_word f_tt;
  is_hoare = refl;
}

main_up : (passed : TermTree) → TakesUp (rep passed) 0 (main_key 1) (record { key = main_key 1; params = []; result = m_word; body = rep_main })
unfolding skeleton sites_of greatest_in_term nodes_mono nodes_term nodes_option head_of arguments_of fix_ty fix_comp met_in_term rename_term
    rename_mono lift lifts plain_term fill_mono fill_term put_mono next_filling closing contractum expansion opened_fix opened_skeleton
    computation_in
main_up passed = record {
  never_varies =
      tt;
  results = [];
  has_body = body_of_val refl refl puts_none;
  results_within = refl;
  monos_within = refl;
  same_key = refl;
  params =
      refl;
  result = refl;
}

rep_new : IsNew (main_key 1 ∷ []) rep_key
unfolding skeleton sites_of greatest_in_term nodes_mono nodes_term nodes_option head_of arguments_of fix_ty fix_comp met_in_term rename_term
    rename_mono lift lifts plain_term fill_mono fill_term put_mono next_filling closing contractum expansion opened_fix opened_skeleton
    computation_in
rep_new = new_to_one (other_head (main_key 1) rep_key (λ q. omega (arith, q)))

fix_new : (passed : TermTree) → IsNew (main_key 1 ∷ rep_key ∷ []) (fix_key passed)
unfolding skeleton sites_of greatest_in_term nodes_mono nodes_term nodes_option head_of arguments_of fix_ty fix_comp met_in_term rename_term
    rename_mono lift lifts plain_term fill_mono fill_term put_mono next_filling closing contractum expansion opened_fix opened_skeleton
    computation_in
fix_new passed =
    new_to_two (other_head (main_key 1) (fix_key passed) (λ q. omega (arith, q))) (other_head rep_key (fix_key passed) (λ q. omega (arith, q)))

rep_up : TakesUp (rep passed_on) 1 rep_key (rep_taken passed_on)
unfolding skeleton sites_of greatest_in_term nodes_mono nodes_term nodes_option head_of arguments_of fix_ty fix_comp met_in_term rename_term
    rename_mono lift lifts plain_term fill_mono fill_term put_mono next_filling closing contractum expansion opened_fix opened_skeleton
    computation_in
rep_up = record {
  never_varies = tt;
  results = t_lam (t_do (repeated (counted passed_on) plus_two (t_var 0))) ∷ t_do (repeated (counted passed_on) plus_two (t_var 0)) ∷ [];
  has_body = rep_body passed_on passed_on_stays;
  results_within = refl;
  monos_within = refl;
  same_key = refl;
  params = refl;
  result = refl;
}

changed_up : TakesUp (rep changed) 1 rep_key (rep_taken changed)
unfolding skeleton sites_of greatest_in_term nodes_mono nodes_term nodes_option head_of arguments_of fix_ty fix_comp met_in_term rename_term
    rename_mono lift lifts plain_term fill_mono fill_term put_mono next_filling closing contractum expansion opened_fix opened_skeleton
    computation_in
changed_up = record {
  never_varies = tt;
  results = t_lam (t_do (repeated (counted changed) plus_two (t_var 0))) ∷ t_do (repeated (counted changed) plus_two (t_var 0)) ∷ [];
  has_body = rep_body changed changed_stays;
  results_within = refl;
  monos_within = refl;
  same_key = refl;
  params = refl;
  result = refl;
}

-- the computation that counts, without the function that is passed on
abbrev counting : TermTree → TermTree → CompTree
counting self n =
    c_step (s_if m_word (t_eq m_word n (t_word 0)) (c_ret (t_word 0))
    (c_step (s_run (t_app (t_app self plus_two) (t_bin Sub n (t_word 1))) (Some m_word)) (c_ret (t_bin Add (t_var 0) (t_word 2))))) (c_ret (t_var 0))

loop_up : TakesUp (rep passed_on) 2 (fix_key passed_on) (record { key = fix_key passed_on; params = m_word ∷ []; result = m_word; body = counted_body })
unfolding skeleton sites_of greatest_in_term nodes_mono nodes_term nodes_option head_of arguments_of fix_ty fix_comp met_in_term rename_term
    rename_mono lift lifts plain_term fill_mono fill_term put_mono next_filling closing contractum expansion opened_fix opened_skeleton
    computation_in
loop_up = record {
  never_varies = All-cons (PassesOnAt (counted passed_on)) _ [] (passes_fixed refl (passes_value passes_end)) (All-nil (PassesOnAt (counted passed_on)));
  results = t_lam (t_lam (t_do (counting (t_var 0) (t_var 1)))) ∷ t_lam (t_do (counting (t_var 0) (t_var 1))) ∷ t_do counted_body ∷ [];
  has_body = body_of_fix {own = counted passed_on} refl refl
      (puts_term (applied (u_lam (u_lam (u_do (u_step
      (u_s_if (u_eq (u_kept (k_var (λ q. omega (arith, q)))) u_word) (u_ret u_word)
      (u_step (u_run (k_app (k_app (k_var (λ q. omega (arith, q)))
      (u_lam (u_reduced (r_app (r_var refl) (u_kept (k_var (λ q. omega (arith, q)))) (applied (plus_two_of (u_reduced (r_var refl))))))))
      (u_bin (u_kept (k_var (λ q. omega (arith, q)))) u_word)))
      (u_ret (u_reduced (r_app (r_var refl) (u_kept (k_var (λ q. omega (arith, q)))) (applied (plus_two_of (u_reduced (r_var refl)))))))))
      (u_ret (u_kept (k_var (λ q. omega (arith, q))))))))))
      (puts_term (applied (u_lam (u_do (u_step
      (u_s_if (u_eq (u_reduced (r_var refl)) u_word) (u_ret u_word)
      (u_step (u_run (k_app (k_app (k_var (λ q. omega (arith, q))) (u_lam (plus_two_of (u_kept (k_var (λ q. omega (arith, q)))))))
      (u_bin (u_reduced (r_var refl)) u_word)))
      (u_ret (plus_two_of (u_kept (k_var (λ q. omega (arith, q))))))))
      (u_ret (u_kept (k_var (λ q. omega (arith, q)))))))))
      (puts_term (applied (u_do (u_step
      (u_s_if (u_eq (u_kept (k_var (λ q. omega (arith, q)))) u_word) (u_ret u_word)
      (u_spliced
      (r_app (r_app (r_var refl) (u_lam (plus_two_of (u_kept (k_var (λ q. omega (arith, q))))))
      (applied (u_lam (u_do (u_step (u_run (k_app (k_app (k_made u_no_terms)
      (u_lam (u_reduced (r_app (r_var refl) (u_kept (k_var (λ q. omega (arith, q)))) (applied (plus_two_of (u_reduced (r_var refl))))))))
      (u_kept (k_var (λ q. omega (arith, q)))))) (u_ret (u_kept (k_var (λ q. omega (arith, q))))))))))
      (u_bin (u_kept (k_var (λ q. omega (arith, q)))) u_word)
      (applied (u_do (u_step (u_run (k_app (k_app (k_made u_no_terms) (u_lam (plus_two_of (u_kept (k_var (λ q. omega (arith, q)))))))
      (u_reduced (r_var refl)))) (u_ret (u_kept (k_var (λ q. omega (arith, q)))))))))
      (u_ret (plus_two_of (u_kept (k_var (λ q. omega (arith, q))))))
      (b_step (b_ret (u_ret (plus_two_of (u_reduced (r_var refl))))))))
      (u_ret (u_kept (k_var (λ q. omega (arith, q)))))))) puts_none)));
  results_within = refl;
  monos_within = refl;
  same_key = refl;
  params = refl;
  result = refl;
}

rep_has : HasInstances (rep passed_on) rep_instances (main_key 1 ∷ rep_key ∷ fix_key passed_on ∷ [])
unfolding skeleton sites_of greatest_in_term nodes_mono nodes_term nodes_option head_of arguments_of fix_ty fix_comp met_in_term rename_term
    rename_mono lift lifts plain_term fill_mono fill_term put_mono next_filling closing contractum expansion opened_fix opened_skeleton
    computation_in
rep_has = record {
  number = 1;
  main = rep_main_is passed_on;
  all = takes_next refl (main_up passed_on) (meets_new rep_new (omega arith) meets_none)
      (takes_next refl rep_up (meets_new (fix_new passed_on) (omega arith) meets_none) (takes_next refl loop_up meets_none (takes_end refl)));
}

changed_varies : RefusesInstances (rep changed) (is_varying 100 1)
unfolding skeleton sites_of greatest_in_term nodes_mono nodes_term nodes_option head_of arguments_of fix_ty fix_comp met_in_term rename_term
    rename_mono lift lifts plain_term fill_mono fill_term put_mono next_filling closing contractum expansion opened_fix opened_skeleton
    computation_in
changed_varies =
    refuses_list (rep_main_is changed)
    (refuses_later refl (main_up changed) (meets_new rep_new (omega arith) meets_none)
    (refuses_later refl changed_up (meets_new (fix_new changed) (omega arith) meets_none)
    (refuses_up refl (up_varies refl (record {
      before = [];
      here = _;
      after = [];
      all = refl;
      passed_on = All-nil (PassesOnAt (counted changed));
      varies = varies_here (λ e. cc) (λ e. cc);
    })))))

pub worked : WorkedInstances
worked = record {
  sum_has = sum_has;
  cell_has = cell_has;
  blocks_have = blocks_have;
  seven_has = seven_has;
  dup_has = dup_has;
  rep_has = rep_has;
  changed_varies = changed_varies;
  unnamed = refuses_no_main refl;
  function =
      refuses_parameters {number = 0} {val = record { ty = y_fun (y_mono m_word) (always m_word); term = t_lam (t_do (c_ret (t_var 0))) }}
      refl refl (λ spec e. cc);
}
