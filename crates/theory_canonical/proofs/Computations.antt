-- The worked examples of recursive functions, computations, types and formulas.
use Rattle.std.proofs.Common.{List, [], ◌∷◌, Some, None, refl}
use Rattle.htt_syntax.specs.declared.mono.Op.TheVariants.{Add}
use Rattle.htt_syntax.specs.Trees.{m_word, m_var, y_mono, triple, t_var, t_do, t_fix, t_word, t_bin, t_ann, t_made, t_at, c_ret, s_run, s_claim, f_tt, f_emp}
use Rattle.htt_syntax.specs.Trees.{f_eq, no_terms}
use Rattle.theory_canonical.specs.Skeletons.{sk_o, sk_c, sk_arrow, skeleton}
use Rattle.theory_canonical.specs.Folding.{contractum}
use Rattle.theory_canonical.specs.Contexts.{Standing, as_term, here, there, open_heap, first_head}
use Rattle.theory_canonical.specs.Canonical.{IsCanonical, IsNeutral, IsCanonicalFix, IsCanonicalStep, IsCanonicalTy, IsCanonicalTriple, IsCanonicalFormula}
use Rattle.theory_canonical.specs.Canonical.{n_m_word, n_m_var, n_word, n_bool, n_bin, n_eq, n_lam, n_do, n_neutral, e_var, e_made, e_fix, e_app, n_no_terms}
use Rattle.theory_canonical.specs.Canonical.{n_more_terms, n_param, n_body, n_ret, n_step, n_run, n_alloc, n_get, n_free, n_if, n_mono, n_fun, n_all, n_hoare}
use Rattle.theory_canonical.specs.Canonical.{n_triple, n_tt, n_and, n_all_t, n_ex_h, n_emp, n_cell, n_same, n_equal}
use Rattle.theory_canonical.specs.Examples.{count_down, no_heads, TheComputations, TheFormulas}

counted : {g : List Standing} → IsNeutral no_heads g (t_fix 9 count_down) (sk_arrow sk_o sk_c)
unfolding contractum skeleton
counted =
    e_fix (n_param (n_mono n_m_word) refl
    (n_body (n_triple n_tt n_m_word n_tt)
    (n_step (n_if n_m_word (n_eq n_m_word (n_neutral (e_var (there here))) n_word refl) (n_ret n_word)
    (n_step (n_run (e_app (e_var here) (n_bin (n_neutral (e_var (there here))) n_word refl)) n_m_word) (n_ret (n_neutral (e_var here)))))
    (n_ret (n_neutral (e_var here))))))

no_other_skeleton : IsCanonicalFix no_heads [] (sk_arrow sk_o sk_c) count_down sk_c → ⊥
no_other_skeleton d = elim d [ ]

no_such_made : IsNeutral no_heads [] (t_made 0 no_terms) sk_c → ⊥
no_such_made (e_made d v) = elim d [ ]

no_monotype_held : IsCanonicalStep no_heads (as_term sk_c ∷ []) (s_run (t_var 0) None) → ⊥
no_monotype_held d = elim d [ ]

no_run_of_a_do : IsCanonicalStep no_heads [] (s_run (t_do (c_ret (t_word 1))) (Some m_word)) → ⊥
no_run_of_a_do (n_run d m) = elim d [ ]

no_claim : IsCanonicalStep no_heads [] (s_claim f_tt) → ⊥
no_claim d = elim d [ ]

not_long : IsCanonical no_heads (as_term sk_c ∷ []) (t_var 0) sk_c → ⊥
not_long d = elim d [ ]

no_annotation : IsCanonical no_heads [] (t_ann (t_word 2) (y_mono m_word)) sk_o → ⊥
no_annotation (n_neutral d) = elim d [ ]

no_position : IsCanonical no_heads [] (t_at 3 (t_word 2)) sk_o → ⊥
no_position (n_neutral d) = elim d [ ]

pub computations : TheComputations
unfolding contractum skeleton
computations = record {
  recursion = counted;
  expanded = n_lam (n_do (n_step (n_run (e_app counted (n_neutral (e_var here))) n_m_word) (n_ret (n_neutral (e_var here)))));
  no_other_skeleton = no_other_skeleton;
  made_head = e_made first_head (n_more_terms n_word (n_more_terms (n_neutral (e_var here)) n_no_terms));
  no_such_made = no_such_made;
  one_cell =
      n_step (n_alloc n_m_word n_word)
      (n_step (n_get n_m_word (n_neutral (e_var here)))
      (n_step (n_free n_m_word (n_neutral (e_var (there here)))) (n_ret (n_neutral (e_var (there here))))));
  literal_test = n_if n_m_word n_bool (n_ret n_word) (n_ret n_word);
  run_of_a_variable = n_run (e_var here) n_m_word;
  run_without_its_monotype = no_monotype_held;
  no_run_of_a_do = no_run_of_a_do;
  no_claim = no_claim;
  not_long = not_long;
  no_annotation = no_annotation;
  no_position = no_position;
}

result_is_no_heap : IsCanonicalTriple no_heads [] (triple f_tt m_word (f_emp 2)) → ⊥
result_is_no_heap (n_triple p m (n_emp (there (there d)))) = elim d [ ]

no_such_monotype : IsCanonicalTy no_heads [] (y_mono (m_var 0)) → ⊥
no_such_monotype (n_mono (n_m_var d)) = elim d [ ]

no_sum : IsCanonicalFormula no_heads [] (f_eq m_word (t_bin Add (t_word 2) (t_word 3)) (t_word 5)) → ⊥
unfolding contractum
no_sum (n_equal m (n_bin p q e) r) = cc
no_sum (n_equal m (n_neutral d) r) = elim d [ ]

no_heap : IsCanonicalFormula no_heads (as_term sk_o ∷ []) (f_emp 0) → ⊥
no_heap (n_emp d) = elim d [ ]

pub formulas : TheFormulas
unfolding contractum skeleton
formulas = record {
  spec = n_triple (n_emp here) n_m_word (n_and (n_same (there here) here) (n_equal n_m_word (n_neutral (e_var (there (there here)))) n_word));
  result_is_no_heap = result_is_no_heap;
  of_runner = n_all (n_fun (n_mono (n_m_var here)) refl (n_hoare (n_triple n_tt (n_m_var (there here)) n_tt)));
  no_such_monotype = no_such_monotype;
  quantified = n_all_t n_m_word (n_ex_h (n_cell n_m_word here (n_neutral (e_var (there (there here)))) (n_neutral (e_var (there here)))));
  function_argument = n_equal n_m_word (n_neutral (e_app (e_var here) (n_lam (n_neutral (e_var here))))) n_word;
  no_sum = no_sum;
  no_heap = no_heap;
  open_heap = n_same open_heap (there here);
}
