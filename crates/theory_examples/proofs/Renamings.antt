-- The worked examples compute, and those of scope have or lack a derivation.
use Rattle.std.proofs.Common.{refl, arith}
use Rattle.htt_syntax.specs.Trees.{binders_of, m_word, m_var, y_mono, triple, t_var, t_lam, t_fix, x_param, x_body, c_ret, s_claim, f_tt, f_emp}
use Rattle.theory_renaming.specs.Renaming.{lift, lifts, rename_mono, rename_ty, rename_arg, rename_proof}
use Rattle.theory_renaming.specs.Scoped.{ScopedTy, ScopedTriple, ScopedTerm, ScopedStep, in_m_word, in_m_var, in_y_mono, in_triple, in_t_var, in_t_app}
use Rattle.theory_renaming.specs.Scoped.{in_t_lam, in_t_fix, in_t_word, in_t_pair, in_x_param, in_x_body, in_c_ret, in_s_claim, in_f_tt, in_f_and, in_f_emp}
use Rattle.theory_renaming.specs.Scoped.{in_f_same, in_f_eq}
use Rattle.theory_examples.specs.Renamings.{TheRenamings, TheRenamedProofs, TheScopes}

pub renamings : TheRenamings
unfolding lift lifts rename_mono rename_ty
renamings = record {
  lifted_own = refl;
  lifted_other = refl;
  lifted_thrice = refl;
  of_a_pair = refl;
  under_a_function = refl;
  under_a_monotype = refl;
  of_a_type = refl;
  of_a_triple = refl;
  of_a_recursion = refl;
  of_steps = refl;
  of_branches = refl;
  under_a_heap = refl;
  of_an_atom = refl;
}

pub renamed_proofs : TheRenamedProofs
unfolding lift lifts rename_mono rename_ty rename_arg rename_proof binders_of
renamed_proofs = record {
  of_an_induction = refl;
  of_a_rewriting = refl;
  of_statements = refl;
  of_an_axiom = refl;
}

no_variable : ScopedTerm 0 (t_var 0) → ⊥
no_variable (in_t_var l) = omega (arith, l)

beyond : ScopedTerm 1 (t_lam (t_var 2)) → ⊥
beyond (in_t_lam (in_t_var l)) = omega (arith, l)

no_monotype : ScopedTy 0 (y_mono (m_var 0)) → ⊥
no_monotype (in_y_mono (in_m_var l)) = omega (arith, l)

no_init_before : ScopedTriple 0 (triple (f_emp 1) m_word f_tt) → ⊥
no_init_before (in_triple (in_f_emp l) m p) = omega (arith, l)

no_third_heap : ScopedStep 0 (s_claim (f_emp 2)) → ⊥
no_third_heap (in_s_claim (in_f_emp l)) = omega (arith, l)

no_self_in_the_triple : ScopedTerm 0 (t_fix 9 (x_param (y_mono m_word) (x_body (triple (f_emp 2) m_word f_tt) (c_ret (t_var 1))))) → ⊥
no_self_in_the_triple (in_t_fix (in_x_param t (in_x_body (in_triple (in_f_emp l) m p) c))) = omega (arith, l)

pub scopes : TheScopes
scopes = record {
  closed = in_t_lam (in_t_var (omega arith));
  no_variable = no_variable;
  outermost_of_two = in_t_lam (in_t_app (in_t_var (omega arith)) (in_t_var (omega arith)));
  beyond = beyond;
  no_monotype = no_monotype;
  spec = in_triple (in_f_emp (omega arith)) in_m_word (in_f_and (in_f_same (omega arith) (omega arith)) (in_f_eq in_m_word (in_t_var (omega arith)) in_t_word));
  no_init_before = no_init_before;
  two_heaps_claimed = in_s_claim (in_f_same (omega arith) (omega arith));
  no_third_heap = no_third_heap;
  recursion =
      in_t_fix (in_x_param (in_y_mono in_m_word)
      (in_x_body (in_triple in_f_tt in_m_word in_f_tt) (in_c_ret (in_t_pair (in_t_var (omega arith)) (in_t_var (omega arith))))));
  no_self_in_the_triple = no_self_in_the_triple;
}
