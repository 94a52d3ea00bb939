-- The worked examples hold.
use Rattle.std.proofs.Common.{◌≡◌, ℕ, refl, arith}
use Rattle.htt_syntax.specs.declared.mono.Op.TheVariants.{Add}
use Rattle.htt_syntax.specs.Trees.{TermTree, m_word, y_mono, t_var, t_word, t_bin, t_ann, t_app}
use Rattle.theory_renaming.specs.Renaming.{lift, rename_mono, rename_term}
use Rattle.theory_canonical.specs.Skeletons.{Skeleton, sk_o, sk_arrow}
use Rattle.theory_canonical.specs.Folding.{contractum, folding}
use Rattle.theory_substitution.specs.Closing.{closing}
use Rattle.theory_substitution.specs.Monotypes.{fill_mono, next_filling, fill_term, fill_ty, fill_triple, fill_formula, fill_comp, fill_step, put_mono}
use Rattle.theory_substitution.specs.Substitution.{SubTerm, k_var, k_val, k_fix, k_app, r_var, r_app, r_inst, applied, u_kept, u_reduced, u_word, u_bool, u_do}
use Rattle.theory_substitution.specs.Substitution.{u_pair, u_fst, u_bin, u_eq, u_sel, u_lam, u_x_param, u_x_body, u_ret, u_step, u_spliced, b_ret, b_step}
use Rattle.theory_substitution.specs.Substitution.{u_run, u_s_alloc, u_s_set, u_s_if, u_y_mono, u_y_fun, u_y_hoare, u_triple, u_f_tt, u_f_and, u_f_ex_t}
use Rattle.theory_substitution.specs.Substitution.{u_f_all_h, u_f_emp, u_f_cell, u_f_same, u_f_eq}
use Rattle.theory_substitution.specs.Examples.{Applications, Terms, Monotypes, Computations, Others, Binders, plus, plus_one}

-- a sum with a literal
added : {new t r : TermTree} {s : Skeleton} {x : ℕ} (n : ℕ) → SubTerm new s x t r → SubTerm new s x (plus t n) (folding (t_bin Add r (t_word n)))
added n d = u_bin d u_word

pub applications : Applications
unfolding contractum rename_term closing lift
applications = record {
  once =
      applied (u_lam (u_reduced
      (r_app (r_var refl)
      (u_reduced (r_app (r_var refl) (u_kept (k_var (λ e. omega (arith, e)))) (applied (added 1 (u_reduced (r_var refl))))))
      (applied (added 1 (u_reduced (r_var refl)))))));
  again =
      applied (u_lam (u_reduced
      (r_app (r_var refl)
      (u_reduced (r_app (r_var refl) (u_kept (k_var (λ e. omega (arith, e)))) (applied (added 1 (added 1 (u_reduced (r_var refl)))))))
      (applied (added 1 (added 1 (u_reduced (r_var refl))))))));
  at_zero = applied (added 1 (added 1 (added 1 (added 1 (u_reduced (r_var refl))))));
  no_function = λ r d. elim d [ ];
}

no_annotation : (r : TermTree) → SubTerm (t_word 2) sk_o 0 (t_ann (t_var 0) (y_mono m_word)) r → ⊥
no_annotation r (u_kept k) = elim k [ ]
no_annotation r (u_reduced d) = elim d [ ]

pub terms : Terms
unfolding contractum rename_term rename_mono closing lift fill_term fill_mono next_filling put_mono
terms = record {
  head = u_reduced (r_app (r_var refl) u_word (applied (added 1 (u_reduced (r_var refl)))));
  gap_closed = u_pair (u_kept (k_var (λ e. omega (arith, e)))) (u_pair (u_reduced (r_var refl)) (u_kept (k_var (λ e. omega (arith, e)))));
  no_capture = u_lam (u_bin (u_kept (k_var (λ e. omega (arith, e)))) (u_reduced (r_var refl)));
  zero_added = added 0 (u_reduced (r_var refl));
  choice = u_sel (u_reduced (r_var refl)) u_word (u_kept (k_var (λ e. omega (arith, e))));
  part = u_fst (u_reduced (r_var refl));
  other_monotype = u_eq (u_reduced (r_var refl)) u_word;
  instance = u_reduced (r_app (r_inst (r_var refl)) u_word (applied (u_eq (u_reduced (r_var refl)) u_word)));
  no_annotation = no_annotation;
}

pub monotypes : Monotypes
unfolding contractum rename_mono closing lift fill_term fill_mono next_filling put_mono
monotypes = record { folded_at_words = refl; unfolded_at_places = refl; identity = refl; variable = refl; gap_closed = refl; no_capture = refl }

pub computations : Computations
unfolding contractum rename_term rename_mono closing lift
computations = record {
  returned = b_ret (u_ret (added 1 (u_reduced (r_var refl))));
  read_and_written =
      b_step (b_ret (u_step (u_s_set (u_kept (k_var (λ e. omega (arith, e)))) (u_reduced (r_var refl)))
      (u_ret (u_kept (k_var (λ e. omega (arith, e)))))));
  spliced =
      u_spliced (r_var refl) (u_ret (u_fst (u_kept (k_var (λ e. omega (arith, e))))))
      (b_step (b_ret (u_ret (u_fst (u_reduced (r_var refl))))));
  called = u_step (u_run (k_app k_val (u_reduced (r_var refl)))) (u_ret (u_reduced (r_var refl)));
}

pub others : Others
unfolding contractum rename_term rename_mono closing lift
others = record {
  recursion_stays =
      u_step (u_run (k_app (k_fix (u_x_param u_y_mono (u_x_body (u_triple u_f_tt u_f_tt) (u_ret (u_kept (k_var (λ e. omega (arith, e))))))))
      (u_reduced (r_var refl)))) (u_ret (u_kept (k_var (λ e. omega (arith, e)))));
  formula = u_f_all_h (u_f_cell (u_kept (k_var (λ e. omega (arith, e)))) (u_reduced (r_var refl)));
}

-- another variable, and a function that adds 1 to what its argument gives
pub kept : {new : TermTree} {s : Skeleton} (x n : ℕ) → (n ≡ x → ⊥) → SubTerm new s x (t_var n) (t_var (closing x n))
kept x n e = u_kept (k_var e)

one_more : {t r : TermTree}
    → SubTerm plus_one (sk_arrow sk_o sk_o) 0 t r
    → SubTerm plus_one (sk_arrow sk_o sk_o) 0 (t_app (t_var 0) t) (folding (t_bin Add r (t_word 1)))
one_more d = u_reduced (r_app (r_var refl) d (applied (added 1 (u_reduced (r_var refl)))))

pub binders : Binders
unfolding contractum rename_term rename_mono closing lift fill_ty fill_triple fill_formula fill_comp fill_step fill_term fill_mono next_filling put_mono
binders = record {
  in_a_triple =
      u_y_hoare (u_triple (u_f_cell (kept 1 2 (λ e. omega (arith, e))) (u_reduced (r_var refl)))
      (u_f_and (u_f_eq (kept 3 2 (λ e. omega (arith, e))) (u_reduced (r_var refl))) u_f_same));
  renamed_in_a_triple =
      u_y_hoare (u_triple (u_f_cell (kept 1 2 (λ e. omega (arith, e))) (u_reduced (r_var refl)))
      (u_f_and (u_f_eq (kept 3 2 (λ e. omega (arith, e))) (u_reduced (r_var refl))) u_f_same));
  in_a_function_type = u_y_fun u_y_mono (u_y_hoare (u_triple u_f_emp (u_f_eq (kept 4 2 (λ e. omega (arith, e))) (u_reduced (r_var refl)))));
  no_capture = u_f_ex_t (u_f_eq (u_bin (u_reduced (r_var refl)) (kept 1 0 (λ e. omega (arith, e)))) u_bool);
  under_a_recursion =
      u_kept (k_fix (u_x_param u_y_mono
      (u_x_body (u_triple u_f_tt u_f_tt)
      (u_step (u_run (k_app (k_var (λ e. omega (arith, e))) (u_reduced (r_var refl)))) (u_ret (kept 3 0 (λ e. omega (arith, e))))))));
  four_times = one_more (one_more (one_more (one_more u_word)));
  called =
      u_spliced
      (r_app (r_var refl) u_word (applied (u_do (u_step (u_s_alloc (u_reduced (r_var refl))) (u_ret (kept 1 0 (λ e. omega (arith, e))))))))
      (u_ret (kept 1 0 (λ e. omega (arith, e)))) (b_step (b_ret (u_ret (u_reduced (r_var refl)))));
  no_branch_taken = u_step (u_s_if (u_reduced (r_var refl)) (u_ret u_word) (u_ret u_word)) (u_ret (kept 1 0 (λ e. omega (arith, e))));
  bound = b_step (b_ret (u_step (u_s_alloc (kept 0 2 (λ e. omega (arith, e)))) (u_ret (u_fst (u_reduced (r_var refl))))));
  monotype_in_a_type = refl;
  monotype_in_a_computation = refl;
}
