-- The worked substitutions.
use Rattle.std.proofs.Common.{◌≡◌, ℕ, refl, arith}
use Rattle.htt_syntax.specs.Trees.{TermTree, CompTree, t_var, t_app, t_word, c_ret, c_step, s_claim, f_tt}
use Rattle.theory_renaming.specs.Renaming.{lift, rename_mono, rename_term}
use Rattle.theory_canonical.specs.Skeletons.{Skeleton, sk_o, sk_arrow, skeleton}
use Rattle.theory_canonical.specs.Folding.{contractum}
use Rattle.theory_substitution.specs.Closing.{closing}
use Rattle.theory_substitution.specs.Substitution.{SubTerm, SubComp, Reduced, App, k_var, k_made, k_app, k_inst, r_var, r_app, applied, u_kept, u_reduced}
use Rattle.theory_substitution.specs.Substitution.{u_word, u_bin, u_lam, u_step, u_no_terms, u_more_terms, u_f_rec}
use Rattle.theory_examples.specs.Substitutions.{TheSubstitutions}
use Rattle.theory_substitution.proofs.Examples.{kept}

put : {new : TermTree} {s : Skeleton} (x : ℕ) → SubTerm new s x (t_var x) new
put x = u_reduced (r_var refl)

own_skeleton : {new r : TermTree} {s t : Skeleton} → Reduced new s 0 (t_var 0) r t → s ≡ t
own_skeleton (r_var e) = refl

no_arrow : {s t : Skeleton} → sk_o ≡ sk_arrow s t → ⊥
no_arrow e = cc

no_function : (r : TermTree) → SubTerm (t_word 3) sk_o 0 (t_app (t_var 0) (t_word 1)) r → ⊥
no_function r (u_kept (k_app (k_var e) a)) = e refl
no_function r (u_reduced (r_app d a p)) = no_arrow (own_skeleton d)

no_claim : (r : CompTree) → SubComp (t_word 3) sk_o 0 (c_step (s_claim f_tt) (c_ret (t_var 0))) r → ⊥
no_claim r (u_step d e) = elim d [ ]

no_application : (r : TermTree) → App (t_word 3) sk_o (t_word 1) r → ⊥
no_application r d = elim d [ ]

pub substitutions : TheSubstitutions
unfolding contractum closing lift rename_mono rename_term skeleton
substitutions = record {
  inside_the_gap = refl;
  outside_the_gap = refl;
  nested_skeleton = refl;
  in_an_atom = u_f_rec (put 0) (u_more_terms (u_bin (put 0) u_word) (u_more_terms (kept 0 2 (λ e. omega (arith, e))) u_no_terms));
  in_a_made_function = u_kept (k_app (k_made (u_more_terms (put 0) u_no_terms)) (put 0));
  in_an_instance = u_kept (k_app (k_inst (k_var (λ e. omega (arith, e)))) (put 0));
  function_for_an_argument =
      u_reduced
      (r_app (r_var refl) (u_lam (kept 1 0 (λ e. omega (arith, e)))) (applied (u_reduced (r_app (r_var refl) u_word (applied (put 0))))));
  no_function = no_function;
  no_claim = no_claim;
  no_application_of_a_word = no_application;
}
