-- The recursive function that is handed to another.
use Rattle.std.proofs.Common.{[], ◌∷◌, Some, refl, arith}
use Rattle.std.proofs.lemmas.List.Elements.{All-nil, All-cons}
use Rattle.htt_syntax.specs.Trees.{m_word, m_loc, triple, t_var, t_app, t_word, t_do, t_lam, c_ret, c_step, s_run, f_tt}
use Rattle.theory_renaming.specs.Renaming.{lift, lifts, rename_mono, rename_term}
use Rattle.theory_canonical.specs.Skeletons.{skeleton}
use Rattle.theory_canonical.specs.Eta.{expansion}
use Rattle.theory_canonical.specs.Folding.{contractum}
use Rattle.theory_counts.specs.Nodes.{nodes_mono, nodes_option, nodes_term}
use Rattle.theory_counts_monotypes.specs.Monotypes.{greatest_in_term}
use Rattle.theory_substitution.specs.Closing.{closing}
use Rattle.theory_substitution.specs.Monotypes.{fill_mono, fill_term, next_filling, put_mono}
use Rattle.theory_substitution.specs.Substitution.{k_var, k_val, k_made, k_app, r_var, r_app, applied, u_kept, u_reduced, u_word, u_do, u_eq, u_lam}
use Rattle.theory_substitution.specs.Substitution.{u_no_terms, u_more_terms, u_ret, u_step, u_spliced, b_ret, b_step, u_run, u_s_get, u_s_if}
use Rattle.theory_typing.specs.Positions.{plain_term}
use Rattle.word_loader_code.specs.Machine.{step, after_steps}
use Rattle.theory_instances.specs.Calls.{head_of, arguments_of, fix_ty, fix_comp, sites_of}
use Rattle.theory_instances.specs.Occurrences.{met_in_term}
use Rattle.theory_instances.specs.Bodies.{opened_fix, opened_skeleton, puts_none, puts_term, body_of_val, body_of_fix}
use Rattle.theory_instances.specs.Varying.{PassesOnAt, passes_end, passes_value}
use Rattle.theory_instances.specs.Lists.{computation_in, meets_none, meets_new, TakesUp, takes_end, takes_next, HasInstances, main_key}
use Rattle.theory_instances.specs.Examples.{always}
use Rattle.theory_instances.proofs.Worked.{other_head, new_to_one, new_to_two}
use Rattle.theory_flat.specs.Flat.{HasFlatInstances, names_key, names_made, flattens_ret, flattens_step, flattens_run, flattens_alloc, flattens_get, flattens_if}
use Rattle.theory_flat.specs.Flat.{flat_none, flat_more}
use Rattle.theory_emission.specs.Terms.{emit_term, emit_terms}
use Rattle.theory_emission.specs.Bodies.{emit_flat}
use Rattle.theory_extraction_examples.specs.Handed.{WorkedHanded, handed, handed_main, handed_flat, handed_instances, handing, handing_comp, handing_key}
use Rattle.theory_extraction_examples.specs.Handed.{expanded, made_with, using_key}

handing_up : TakesUp handed 1 handing_key (record {
  key = handing_key;
  params = m_word ∷ m_loc ∷ m_word ∷ [];
  result = m_word;
  body = handing_comp (t_var 0) (t_var 2) (t_var 1) (expanded (made_with (t_var 3) (t_var 2)));
})
unfolding skeleton sites_of greatest_in_term nodes_mono nodes_term nodes_option head_of arguments_of fix_ty fix_comp met_in_term rename_term
    rename_mono lift lifts plain_term fill_mono fill_term put_mono next_filling closing contractum expansion opened_fix opened_skeleton
    computation_in
handing_up = record {
  never_varies =
      All-cons (PassesOnAt (handing (t_var 3) (t_var 2))) _ [] (passes_value passes_end) (All-nil (PassesOnAt (handing (t_var 3) (t_var 2))));
  results = t_lam (t_do (handing_comp (t_var 1) (t_var 3) (t_var 2) (expanded (t_var 1)))) ∷
      t_do (handing_comp (t_var 0) (t_var 2) (t_var 1) (expanded (made_with (t_var 3) (t_var 2)))) ∷ [];
  has_body = body_of_fix {own = handing (t_var 4) (t_var 3)} refl refl
      (puts_term (applied (u_lam (u_do (u_step
      (u_s_if (u_eq (u_reduced (r_var refl)) (u_kept (k_var (λ q. omega (arith, q)))))
      (u_step (u_s_get (u_kept (k_var (λ q. omega (arith, q))))) (u_ret (u_kept (k_var (λ q. omega (arith, q))))))
      (u_step (u_run (k_app k_val (u_lam (u_do (u_step
      (u_run (k_app (k_var (λ q. omega (arith, q))) (u_kept (k_var (λ q. omega (arith, q))))))
      (u_ret (u_kept (k_var (λ q. omega (arith, q))))))))))
      (u_ret (u_kept (k_var (λ q. omega (arith, q)))))))
      (u_ret (u_kept (k_var (λ q. omega (arith, q)))))))))
      (puts_term (applied (u_do (u_step
      (u_s_if (u_eq (u_kept (k_var (λ q. omega (arith, q)))) (u_kept (k_var (λ q. omega (arith, q)))))
      (u_step (u_s_get (u_kept (k_var (λ q. omega (arith, q))))) (u_ret (u_kept (k_var (λ q. omega (arith, q))))))
      (u_step (u_run (k_app k_val (u_lam (u_do (u_spliced
      (r_app (r_var refl) (u_kept (k_var (λ q. omega (arith, q))))
      (applied (u_do (u_step (u_run (k_app
      (k_made (u_more_terms (u_kept (k_var (λ q. omega (arith, q)))) (u_more_terms (u_kept (k_var (λ q. omega (arith, q)))) u_no_terms)))
      (u_reduced (r_var refl)))) (u_ret (u_kept (k_var (λ q. omega (arith, q)))))))))
      (u_ret (u_kept (k_var (λ q. omega (arith, q)))))
      (b_step (b_ret (u_ret (u_reduced (r_var refl))))))))))
      (u_ret (u_kept (k_var (λ q. omega (arith, q)))))))
      (u_ret (u_kept (k_var (λ q. omega (arith, q)))))))) puts_none));
  results_within = refl;
  monos_within = refl;
  same_key = refl;
  params = refl;
  result = refl;
}

using_up : TakesUp handed 2 using_key (record {
  key = using_key;
  params = m_loc ∷ m_word ∷ [];
  result = m_word;
  body = c_step (s_run (t_app (made_with (t_var 1) (t_var 0)) (t_word 3)) (Some m_word)) (c_ret (t_var 0));
})
unfolding skeleton sites_of greatest_in_term nodes_mono nodes_term nodes_option head_of arguments_of fix_ty fix_comp met_in_term rename_term
    rename_mono lift lifts plain_term fill_mono fill_term put_mono next_filling closing contractum expansion opened_fix opened_skeleton
    computation_in
using_up = record {
  never_varies = tt;
  results = t_do (c_step (s_run (t_app (made_with (t_var 1) (t_var 0)) (t_word 3)) (Some m_word)) (c_ret (t_var 0))) ∷ [];
  has_body = body_of_val refl refl
      (puts_term (applied (u_do (u_spliced
      (r_app (r_var refl) u_word
      (applied (u_do (u_step (u_run (k_app
      (k_made (u_more_terms (u_kept (k_var (λ q. omega (arith, q)))) (u_more_terms (u_kept (k_var (λ q. omega (arith, q)))) u_no_terms)))
      (u_reduced (r_var refl)))) (u_ret (u_kept (k_var (λ q. omega (arith, q)))))))))
      (u_ret (u_kept (k_var (λ q. omega (arith, q)))))
      (b_step (b_ret (u_ret (u_reduced (r_var refl)))))))) puts_none);
  results_within = refl;
  monos_within = refl;
  same_key = refl;
  params = refl;
  result = refl;
}

handed_has : HasInstances handed handed_instances (main_key 1 ∷ handing_key ∷ using_key ∷ [])
unfolding skeleton sites_of greatest_in_term nodes_mono nodes_term nodes_option head_of arguments_of fix_ty fix_comp met_in_term rename_term
    rename_mono lift lifts plain_term fill_mono fill_term put_mono next_filling closing contractum expansion opened_fix opened_skeleton
    computation_in
handed_has = record {
  number = 1;
  main = record { named = refl; val = record { ty = always m_word; term = t_do handed_main }; there = refl; spec = triple f_tt m_word f_tt; is_hoare = refl };
  all = takes_next refl
      (record { never_varies = tt; results = []; has_body = body_of_val refl refl puts_none; results_within = refl; monos_within = refl; same_key = refl; params = refl; result = refl })
      (meets_new (new_to_one (other_head (main_key 1) handing_key (λ q. omega (arith, q)))) (omega arith) meets_none)
      (takes_next refl handing_up
      (meets_new (new_to_two (other_head (main_key 1) using_key (λ q. omega (arith, q))) (other_head handing_key using_key (λ q. omega (arith, q)))) (omega arith) meets_none)
      (takes_next refl using_up meets_none (takes_end refl)));
}

handed_flat_has : HasFlatInstances handed handed_flat
unfolding skeleton head_of arguments_of fix_ty met_in_term rename_term rename_mono lift plain_term
handed_flat_has = record {
  taken = _;
  keys = _;
  has = handed_has;
  flat = flat_more (record {
    params = refl;
    result = refl;
    body = flattens_step flattens_alloc (flattens_step flattens_get
        (flattens_step (flattens_run (names_key refl (record { known = _; at = refl; same = refl }))) flattens_ret));
  })
      (flat_more (record {
        params = refl;
        result = refl;
        body = flattens_step (flattens_if (flattens_step flattens_get flattens_ret)
            (flattens_step (flattens_run (names_key refl (record { known = _; at = refl; same = refl }))) flattens_ret)) flattens_ret;
      })
      (flat_more (record { params = refl; result = refl; body = flattens_step (flattens_run (names_made refl refl)) flattens_ret }) flat_none));
}

pub worked : WorkedHanded
unfolding emit_term emit_terms emit_flat after_steps step
worked = record { instances = handed_has; flat_bodies = handed_flat_has; code = refl; runs = refl }
