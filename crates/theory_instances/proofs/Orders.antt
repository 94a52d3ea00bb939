-- The programs that pin an order.
use Rattle.std.proofs.Common.{zero, suc, [], ◌∷◌, refl, ap, ◌∙◌, arith}
use Rattle.std.proofs.lemmas.Option.{same_Some}
use Rattle.std.proofs.lemmas.List.Elements.{All-nil}
use Rattle.htt_syntax.specs.Trees.{m_word, triple, t_fix, t_do, f_tt}
use Rattle.theory_renaming.specs.Renaming.{lift, lifts, rename_mono, rename_term}
use Rattle.theory_canonical.specs.Skeletons.{skeleton}
use Rattle.theory_canonical.specs.Eta.{expansion}
use Rattle.theory_canonical.specs.Folding.{contractum}
use Rattle.theory_counts.specs.Nodes.{nodes_mono, nodes_option, nodes_term}
use Rattle.theory_counts_monotypes.specs.Monotypes.{greatest_in_term}
use Rattle.theory_substitution.specs.Closing.{closing}
use Rattle.theory_substitution.specs.Monotypes.{fill_mono, fill_term, next_filling, put_mono}
use Rattle.theory_typing.specs.Positions.{plain_term}
use Rattle.theory_instances.specs.Calls.{of_term, head_of, arguments_of, fix_ty, fix_comp, sites_of}
use Rattle.theory_instances.specs.Occurrences.{met_in_term}
use Rattle.theory_instances.specs.Keys.{Key, IsSameKey, plain_key}
use Rattle.theory_instances.specs.Bodies.{opened_fix, opened_skeleton, puts_none, body_of_val}
use Rattle.theory_instances.specs.Varying.{PassesOnAt, varies_here, varies_past_value}
use Rattle.theory_instances.specs.Lists.{computation_in, IsNew, meets_none, meets_new, takes_end, takes_next, HasInstances, main_key}
use Rattle.theory_instances.specs.Lists.{RefusesInstances, is_varying, refuses_list, refuses_up, refuses_later, up_varies}
use Rattle.theory_instances.specs.Examples.{always, plus_two, either_runs}
use Rattle.theory_instances.specs.Orders.{WorkedOrders, ordered, ordered_instances, value_taken, second_changes, changing_body, changing}
use Rattle.theory_instances.proofs.Worked.{other_head, new_to_one, new_to_two}

new_to_three : {key first second third : Key}
    → (IsSameKey first key → ⊥)
    → (IsSameKey second key → ⊥)
    → (IsSameKey third key → ⊥)
    → IsNew (first ∷ second ∷ third ∷ []) key
new_to_three d e f zero k = d (ap plain_key (same_Some _ _ k.at) ∙ k.same)
new_to_three d e f (suc zero) k = e (ap plain_key (same_Some _ _ k.at) ∙ k.same)
new_to_three d e f (suc (suc zero)) k = f (ap plain_key (same_Some _ _ k.at) ∙ k.same)
new_to_three d e f (suc (suc (suc n))) k = absurd (cc)

ordered_have : HasInstances ordered ordered_instances (main_key 3 ∷ main_key 1 ∷ main_key 2 ∷ main_key 0 ∷ [])
unfolding skeleton sites_of greatest_in_term nodes_mono nodes_term nodes_option head_of arguments_of fix_ty fix_comp met_in_term rename_term
    rename_mono lift lifts plain_term fill_mono fill_term put_mono next_filling closing contractum expansion opened_fix opened_skeleton
    computation_in
ordered_have = record {
  number = 3;
  main = record { named = refl; val = record { ty = always m_word; term = t_do either_runs }; there = refl; spec = triple f_tt m_word f_tt; is_hoare = refl };
  all = takes_next refl (record { never_varies = tt; results = []; has_body = body_of_val refl refl puts_none; results_within = refl; monos_within = refl; same_key = refl; params = refl; result = refl })
      (meets_new (new_to_one (other_head (main_key 3) (main_key 1) (λ q. omega (arith, q)))) (omega arith)
      (meets_new (new_to_two (other_head (main_key 3) (main_key 2) (λ q. omega (arith, q)))
      (other_head (main_key 1) (main_key 2) (λ q. omega (arith, q)))) (omega arith) meets_none))
      (takes_next refl (record { never_varies = tt; results = []; has_body = body_of_val refl refl puts_none; results_within = refl; monos_within = refl; same_key = refl; params = refl; result = refl })
      (meets_new (new_to_three (other_head (main_key 3) (main_key 0) (λ q. omega (arith, q)))
      (other_head (main_key 1) (main_key 0) (λ q. omega (arith, q))) (other_head (main_key 2) (main_key 0) (λ q. omega (arith, q)))) (omega arith)
      meets_none)
      (takes_next refl (record { never_varies = tt; results = []; has_body = body_of_val refl refl puts_none; results_within = refl; monos_within = refl; same_key = refl; params = refl; result = refl }) meets_none (takes_next refl (record { never_varies = tt; results = []; has_body = body_of_val refl refl puts_none; results_within = refl; monos_within = refl; same_key = refl; params = refl; result = refl }) meets_none (takes_end refl))));
}

second_varies : RefusesInstances changing (is_varying 40 2)
unfolding skeleton sites_of greatest_in_term nodes_mono nodes_term nodes_option head_of arguments_of fix_ty fix_comp met_in_term rename_term
    rename_mono lift lifts plain_term fill_mono fill_term put_mono next_filling closing contractum expansion opened_fix opened_skeleton
    computation_in
second_varies =
    refuses_list {number = 0} (record {
      named = refl;
      val = record { ty = always m_word; term = t_do changing_body };
      there = refl;
      spec = triple f_tt m_word f_tt;
      is_hoare = refl;
    })
    (refuses_later {taken = value_taken 0 changing_body} refl (record { never_varies = tt; results = []; has_body = body_of_val refl refl puts_none; results_within = refl; monos_within = refl; same_key = refl; params = refl; result = refl })
    (meets_new (new_to_one (other_head (main_key 0) (record { head = t_fix 40 second_changes; fixed = of_term plus_two ∷ []; captured = [] }) (λ q. omega (arith, q)))) (omega arith) meets_none)
    (refuses_up refl (up_varies refl (record {
      before = [];
      here = _;
      after = [];
      all = refl;
      passed_on = All-nil (PassesOnAt second_changes);
      varies = varies_past_value (varies_here (λ e. cc) (λ e. cc));
    }))))

pub worked_orders : WorkedOrders
worked_orders = record { ordered_have = ordered_have; second_varies = second_varies }
