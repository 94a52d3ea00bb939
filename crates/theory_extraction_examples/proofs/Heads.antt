-- Calls of one head.
use Rattle.std.proofs.Common.{◌≡◌, ℕ, List, [], ◌∷◌, refl, ap, ◌∙◌, arith}
use Rattle.std.proofs.lemmas.List.Elements.{All-nil}
use Rattle.htt_syntax.specs.Trees.{m_word, triple, t_var, t_word, t_do, t_lam, t_bin, t_fix, c_ret, f_tt}
use Rattle.htt_syntax.specs.declared.mono.Op.TheVariants.{Add}
use Rattle.theory_renaming.specs.Renaming.{lift, lifts, rename_mono, rename_term}
use Rattle.theory_canonical.specs.Skeletons.{skeleton}
use Rattle.theory_canonical.specs.Eta.{expansion}
use Rattle.theory_canonical.specs.Folding.{contractum}
use Rattle.theory_counts.specs.Nodes.{nodes_mono, nodes_option, nodes_term}
use Rattle.theory_counts_monotypes.specs.Monotypes.{greatest_in_term}
use Rattle.theory_substitution.specs.Closing.{closing}
use Rattle.theory_substitution.specs.Monotypes.{fill_mono, fill_term, next_filling, put_mono}
use Rattle.theory_substitution.specs.Substitution.{k_var, r_var, r_app, applied, u_kept, u_reduced, u_word, u_do, u_bin, u_lam, u_ret}
use Rattle.theory_truth.specs.TermValue.{term_value}
use Rattle.theory_typing.specs.Positions.{plain_term}
use Rattle.theory_instances.specs.Calls.{of_term, head_of, arguments_of, fix_ty, fix_comp, sites_of}
use Rattle.theory_instances.specs.Occurrences.{met_in_term}
use Rattle.theory_instances.specs.Bodies.{opened_fix, opened_skeleton, puts_none, puts_term, body_of_val, body_of_fix}
use Rattle.theory_instances.specs.Varying.{PassesOnAt, varies_here}
use Rattle.theory_instances.specs.Lists.{computation_in, meets_none, meets_known, meets_new, TakesUp, takes_end, takes_next, HasInstances, main_key}
use Rattle.theory_instances.specs.Lists.{RefusesInstances, is_varying, refuses_list, refuses_up, refuses_later, up_varies}
use Rattle.theory_instances.specs.Examples.{always, plus_two}
use Rattle.theory_instances.specs.Orders.{value_taken}
use Rattle.theory_instances.proofs.Worked.{other_head, new_to_one, new_to_two}
use Rattle.theory_flat.specs.Flat.{Instance, HasFlatInstances, FlatTree, flat_step, flat_call, names_key, flattens_ret, flattens_step, flattens_run}
use Rattle.theory_flat.specs.Flat.{flat_none, flat_more}
use Rattle.theory_flat.specs.Reading.{flat_outcome, calling, flat_run}
use Rattle.theory_values.specs.Heaps.{empty_heap}
use Rattle.theory_emission.specs.Terms.{emit_term, emit_terms}
use Rattle.theory_emission.specs.Bodies.{emit_flat}
use Rattle.theory_emission_variants.specs.Variants.{at_function, adds_twice}
use Rattle.theory_emission_variants.proofs.Missed.{missed}
use Rattle.theory_extraction_once.proofs.Flat.{flat_instances_once}
use Rattle.theory_extraction_examples.specs.Heads.{WorkedHeads, adds, adds_body, added, twins, twins_body, twins_instances, twins_flat, giving_back, giving_key}
use Rattle.theory_extraction_examples.specs.Heads.{given_itself, itself_main, giving_itself}

-- fun h . fun n . do ret h n, given the function that adds m, and then the parameter
added_up : (number m : ℕ) → TakesUp adds number (at_function m) (added m)
unfolding skeleton sites_of greatest_in_term nodes_mono nodes_term nodes_option head_of arguments_of fix_ty fix_comp met_in_term rename_term
    rename_mono lift lifts plain_term fill_mono fill_term put_mono next_filling closing contractum expansion opened_fix opened_skeleton
    computation_in
added_up number m = record {
  never_varies = tt;
  results = t_lam (t_do (c_ret (t_bin Add (t_var 0) (t_word m)))) ∷ t_do (c_ret (t_bin Add (t_var 0) (t_word m))) ∷ [];
  has_body = body_of_val refl refl
      (puts_term (applied (u_lam (u_do (u_ret (u_reduced
      (r_app (r_var refl) (u_kept (k_var (λ q. omega (arith, q)))) (applied (u_bin (u_reduced (r_var refl)) u_word))))))))
      (puts_term (applied (u_do (u_ret (u_bin (u_reduced (r_var refl)) u_word)))) puts_none));
  results_within = refl;
  monos_within = refl;
  same_key = refl;
  params = refl;
  result = refl;
}

adds_have : HasInstances adds (value_taken 1 adds_body ∷ added 2 ∷ added 3 ∷ []) (main_key 1 ∷ at_function 2 ∷ at_function 3 ∷ [])
unfolding skeleton sites_of greatest_in_term nodes_mono nodes_term nodes_option head_of arguments_of fix_ty fix_comp met_in_term rename_term
    rename_mono lift lifts plain_term fill_mono fill_term put_mono next_filling closing contractum expansion opened_fix opened_skeleton
    computation_in
adds_have = record {
  number = 1;
  main = record { named = refl; val = record { ty = always m_word; term = t_do adds_body }; there = refl; spec = triple f_tt m_word f_tt; is_hoare = refl };
  all = takes_next refl
      (record { never_varies = tt; results = []; has_body = body_of_val refl refl puts_none; results_within = refl; monos_within = refl; same_key = refl; params = refl; result = refl })
      (meets_new (new_to_one (other_head (main_key 1) (at_function 2) (λ q. omega (arith, q)))) (omega arith)
      (meets_new (new_to_two (other_head (main_key 1) (at_function 3) (λ q. omega (arith, q))) missed.other_keys) (omega arith) meets_none))
      (takes_next refl (added_up 1 2) meets_none (takes_next refl (added_up 2 3) meets_none (takes_end refl)));
}

two_bodies : HasFlatInstances adds (adds_twice 2)
unfolding skeleton head_of arguments_of fix_ty met_in_term rename_term rename_mono lift plain_term
two_bodies = record {
  taken = _;
  keys = _;
  has = adds_have;
  flat = flat_more (record {
    params = refl;
    result = refl;
    body = flattens_step (flattens_run (names_key refl (record { known = _; at = refl; same = refl })))
        (flattens_step (flattens_run (names_key refl (record { known = _; at = refl; same = refl }))) flattens_ret);
  }) (flat_more (record { params = refl; result = refl; body = flattens_ret }) (flat_more (record { params = refl; result = refl; body = flattens_ret }) flat_none));
}

-- the instance that the second step of the first body calls
abbrev called_second : FlatTree → ℕ
called_second (flat_step first (flat_step (flat_call number params) others)) = number
called_second flat = 0

abbrev called_by_main : List Instance → ℕ
called_by_main (main ∷ others) = called_second main.body
called_by_main [] = 0

not_the_first : HasFlatInstances adds (adds_twice 1) → ⊥
not_the_first h = let q : 2 ≡ 1 = ap called_by_main (flat_instances_once two_bodies h) in omega (arith, q)

own_giving : TakesUp twins 1 giving_key (record { key = giving_key; params = m_word ∷ []; result = m_word; body = c_ret (t_var 0) })
unfolding skeleton sites_of greatest_in_term nodes_mono nodes_term nodes_option head_of arguments_of fix_ty fix_comp met_in_term rename_term
    rename_mono lift lifts plain_term fill_mono fill_term put_mono next_filling closing contractum expansion opened_fix opened_skeleton
    computation_in
own_giving = record {
  never_varies = All-nil (PassesOnAt giving_back);
  results = t_lam (t_do (c_ret (t_var 1))) ∷ t_do (c_ret (t_var 0)) ∷ [];
  has_body = body_of_fix {own = giving_back} refl refl
      (puts_term (applied (u_lam (u_do (u_ret (u_reduced (r_var refl))))))
      (puts_term (applied (u_do (u_ret (u_kept (k_var (λ q. omega (arith, q))))))) puts_none));
  results_within = refl;
  monos_within = refl;
  same_key = refl;
  params = refl;
  result = refl;
}

twins_have : HasInstances twins twins_instances (main_key 0 ∷ giving_key ∷ [])
unfolding skeleton sites_of greatest_in_term nodes_mono nodes_term nodes_option head_of arguments_of fix_ty fix_comp met_in_term rename_term
    rename_mono lift lifts plain_term fill_mono fill_term put_mono next_filling closing contractum expansion opened_fix opened_skeleton
    computation_in
twins_have = record {
  number = 0;
  main = record { named = refl; val = record { ty = always m_word; term = t_do twins_body }; there = refl; spec = triple f_tt m_word f_tt; is_hoare = refl };
  all = takes_next refl
      (record { never_varies = tt; results = []; has_body = body_of_val refl refl puts_none; results_within = refl; monos_within = refl; same_key = refl; params = refl; result = refl })
      (meets_new (new_to_one (other_head (main_key 0) giving_key (λ q. omega (arith, q)))) (omega arith)
      (meets_known 1 (record { known = giving_key; at = refl; same = refl }) meets_none))
      (takes_next refl own_giving meets_none (takes_end refl));
}

twins_flat_have : HasFlatInstances twins twins_flat
unfolding skeleton head_of arguments_of fix_ty met_in_term rename_term rename_mono lift plain_term
twins_flat_have = record {
  taken = _;
  keys = _;
  has = twins_have;
  flat = flat_more (record {
    params = refl;
    result = refl;
    body = flattens_step (flattens_run (names_key refl (record { known = _; at = refl; same = refl })))
        (flattens_step (flattens_run (names_key refl (record { known = _; at = refl; same = refl }))) flattens_ret);
  }) (flat_more (record { params = refl; result = refl; body = flattens_ret }) flat_none);
}

itself_varies : RefusesInstances given_itself (is_varying 60 1)
unfolding skeleton sites_of greatest_in_term nodes_mono nodes_term nodes_option head_of arguments_of fix_ty fix_comp met_in_term rename_term
    rename_mono lift lifts plain_term fill_mono fill_term put_mono next_filling closing contractum expansion opened_fix opened_skeleton
    computation_in
itself_varies =
    refuses_list {number = 1} (record {
      named = refl;
      val = record { ty = always m_word; term = t_do itself_main };
      there = refl;
      spec = triple f_tt m_word f_tt;
      is_hoare = refl;
    })
    (refuses_later {taken = value_taken 1 itself_main} refl
    (record { never_varies = tt; results = []; has_body = body_of_val refl refl puts_none; results_within = refl; monos_within = refl; same_key = refl; params = refl; result = refl })
    (meets_new (new_to_one (other_head (main_key 1) (record { head = t_fix 60 giving_itself; fixed = of_term plus_two ∷ []; captured = [] }) (λ q. omega (arith, q)))) (omega arith) meets_none)
    (refuses_up refl (up_varies refl (record {
      before = [];
      here = _;
      after = [];
      all = refl;
      passed_on = All-nil (PassesOnAt giving_itself);
      varies = varies_here (λ e. cc) (λ e. cc);
    }))))

pub worked : WorkedHeads
unfolding emit_term emit_terms emit_flat term_value flat_outcome calling expansion rename_term rename_mono lift fix_ty
worked = record {
  two_instances = adds_have;
  two_bodies = two_bodies;
  not_the_first = not_the_first;
  ends_with_ten = λ instances h. ap (λ l. flat_run l 1 0 [] empty_heap []) (flat_instances_once h two_bodies) ∙ missed.both_instances;
  one_instance = twins_have;
  one_body = twins_flat_have;
  one_function = refl;
  six_instructions = refl;
  itself_expanded = refl;
  itself_varies = itself_varies;
}
