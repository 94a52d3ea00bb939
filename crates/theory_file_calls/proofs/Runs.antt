-- What a run owes whose precondition is tt, and what is known behind it.
use Rattle.std.proofs.Common.{◌≡◌, ℕ, zero, suc, List, [], ◌∷◌, Some, codes, refl, arith}
use Rattle.htt_syntax.specs.Trees.{FormulaTree, ProofTree, p_axiom, m_word, t_var, t_do, c_ret, c_step, s_run, f_tt, f_and, f_imp, f_all_h, f_ex_h, f_emp}
use Rattle.htt_syntax.specs.Trees.{f_join, f_same}
use Rattle.theory_renaming.specs.Renaming.{lift, rename_mono, rename_formula, rename_comp}
use Rattle.theory_canonical.specs.Skeletons.{sk_c}
use Rattle.theory_substitution.specs.Closing.{closing}
use Rattle.theory_substitution.specs.Substitution.{SubTerm, k_var, u_kept, u_do, u_spliced, u_reduced, r_var, b_step, b_ret, u_ret}
use Rattle.theory_typing.specs.Contexts.{Context, Environment, IsHeapEntry, en_heap, heap_here, heap_there}
use Rattle.theory_logic_axioms.specs.Names.{emp_some, join_emp, join_fun}
use Rattle.theory_logic_axioms.specs.Table.{argument_sorts, SideCondition, formula_of}
use Rattle.theory_logic_rules.specs.Sequents.{putting, put_heap, forms_no_monos, fits_no_args, fits_heap_arg}
use Rattle.theory_logic_rules.specs.Rules.{Infers, Proves, infers_hyp, infers_second, infers_app, infers_inst_heap, infers_axiom, proves_both, proves_give_heap}
use Rattle.theory_logic_rules.specs.Rules.{proves_trivial, proves_inferred, proves_block, block_end, block_intro, block_open_heap}
use Rattle.theory_file_calls.specs.Parts.{run_of, some_part, joins_empty, whole_heap, used_run, same_heap}

pub no_zero : {n : ℕ} → zero ≡ suc n → ⊥
no_zero q = omega (arith, q)

module _ {env : Environment} {g : Context} {hs : List FormulaTree} where
  pub some_heap_is_empty : Infers env g hs (p_axiom (codes "emp_some") [] []) (f_ex_h (f_emp 0))
  unfolding argument_sorts SideCondition formula_of
  some_heap_is_empty = infers_axiom emp_some refl forms_no_monos refl tt refl fits_no_args refl

  pub joined_empty : {h e : ℕ} {z : ProofTree}
      → IsHeapEntry g h
      → IsHeapEntry g e
      → Infers env g hs z (f_emp e)
      → Infers env g hs (joins_empty h e z) (f_join h h e)
  unfolding argument_sorts SideCondition formula_of
  joined_empty h e z =
      infers_app (infers_axiom join_emp refl forms_no_monos refl tt refl (fits_heap_arg h (fits_heap_arg e fits_no_args)) refl)
      (proves_inferred z refl)

  pub run_is_used : {b e : ℕ} {w z : ProofTree} {state post : FormulaTree}
      → IsHeapEntry g b
      → IsHeapEntry g e
      → Infers env g hs w (f_and state (f_all_h (f_all_h (f_imp (f_and (f_join (suc (suc b)) 1 0) f_tt) post))))
      → Infers env g hs z (f_emp e)
      → Infers env g hs (used_run b e w z) (put_heap e (rename_formula (lift (putting b)) post))
  unfolding rename_formula lift putting
  run_is_used b e w z =
      infers_app (infers_inst_heap (infers_inst_heap (infers_second w) b) e)
      (proves_both (proves_inferred (joined_empty b e z) refl) proves_trivial)

  pub heap_is_same : {n mem e : ℕ} {z j : ProofTree}
      → IsHeapEntry g n
      → IsHeapEntry g mem
      → IsHeapEntry g e
      → Infers env g hs z (f_emp e)
      → Infers env g hs j (f_join mem n e)
      → Infers env g hs (same_heap n mem e z j) (f_same n mem)
  unfolding argument_sorts SideCondition formula_of
  heap_is_same n mem e z j =
      infers_app (infers_app
      (infers_axiom join_fun refl forms_no_monos refl tt refl
      (fits_heap_arg n (fits_heap_arg mem (fits_heap_arg n (fits_heap_arg e fits_no_args)))) refl)
      (proves_inferred (joined_empty n e z) refl)) (proves_inferred j refl)

-- a run may have the whole heap
pub has_whole_heap : {env : Environment} {g : Context} {state : FormulaTree} → Proves env (en_heap ∷ g) [] whole_heap (some_part state)
unfolding rename_formula lift putting
has_whole_heap =
    proves_block (block_intro (block_open_heap some_heap_is_empty
    (block_end (proves_give_heap (heap_there heap_here)
    (proves_give_heap heap_here
    (proves_both (proves_inferred (joined_empty (heap_there heap_here) heap_here (infers_hyp refl)) refl) proves_trivial))))))

-- a value of the file, as it is run, put for a variable as it is run
pub value_put : {number : ℕ}
    → SubTerm (t_do (run_of number)) sk_c zero (t_do (c_step (s_run (t_var 0) (Some m_word)) (c_ret (t_var 0)))) (t_do (run_of number))
unfolding lift rename_comp rename_mono closing
value_put = u_do (u_spliced (r_var refl) (u_ret (u_kept (k_var (λ q. no_zero q)))) (b_step (b_ret (u_ret (u_reduced (r_var refl))))))
