-- The derivations of the examples with further variables.
use Rattle.std.proofs.Common.{[], ◌∷◌, refl, arith}
use Rattle.htt_syntax.specs.Trees.{FormulaTree, t_word, a_heap, a_term, p_unfold}
use Rattle.theory_renaming.specs.Renaming.{rename_formula, rename_mono, lift, lifts}
use Rattle.theory_canonical.specs.Folding.{contractum}
use Rattle.theory_canonical.specs.Eta.{expansion}
use Rattle.theory_substitution.specs.Closing.{closing}
use Rattle.theory_substitution.specs.Substitution.{u_f_eq, u_f_and, u_f_ex_t, u_f_ex_h, u_f_join, u_f_cell, u_f_rec, u_no_terms, u_more_terms, u_word, u_bin}
use Rattle.theory_substitution.specs.Substitution.{u_snd}
use Rattle.theory_typing.specs.Positions.{plain_formula}
use Rattle.theory_typing.specs.Contexts.{forms_word, heap_here, heap_there, type_here, type_there}
use Rattle.theory_typing.specs.Typing.{forms_eq, fits_given, gives_var, gives_word, gives_bin}
use Rattle.theory_logic_rules.specs.Sequents.{putting, raised_term, terms_of, put_none, put_term_first, put_heap_first, fits_no_args, fits_heap_arg}
use Rattle.theory_logic_rules.specs.Sequents.{fits_term_arg}
use Rattle.theory_logic_rules.specs.Rules.{Infers, infers_hyp, infers_second, infers_app, infers_inst_term, infers_at_zero, infers_at_next, proves_refl_term}
use Rattle.theory_logic_rules.specs.Rules.{proves_induct, proves_inferred, proves_block, block_end, block_gen_term, block_open_heap}
use Rattle.theory_logic_rules.specs.Examples.{env, with_heap, TheVariables}
use Rattle.theory_logic_rules.proofs.Examples.{put, kept}
use Rattle.theory_logic_rules.proofs.Forms.{by_hyp}

no_third_unfolding : (F : FormulaTree) → Infers env with_heap [] (p_unfold 0 2 (a_heap 0 ∷ a_term (t_word 4) ∷ [])) F → ⊥
no_third_unfolding F d = elim d [ ]

no_second_predicate : (F : FormulaTree) → Infers env with_heap [] (p_unfold 1 0 (a_heap 0 ∷ [])) F → ⊥
no_second_predicate F (infers_at_zero e s a p) = cc

pub variables : TheVariables
unfolding contractum closing rename_formula rename_mono lift lifts putting raised_term terms_of plain_formula expansion
variables = record {
  next_number =
      infers_at_next refl refl (fits_heap_arg (heap_there (heap_there heap_here))
      (fits_term_arg (fits_given tt (gives_var (type_there type_here)) refl)
      (fits_term_arg (fits_given tt (gives_var type_here) refl) fits_no_args)))
      (put_term_first (u_f_rec (put 2) (u_more_terms (u_bin (kept 2 1 (λ e. omega (arith, e))) u_word) u_no_terms))
      (put_term_first (u_f_rec (kept 1 3 (λ e. omega (arith, e))) (u_more_terms (u_bin (put 1) u_word) u_no_terms))
      (put_heap_first put_none)));
  first_number =
      infers_at_zero refl refl
      (fits_heap_arg (heap_there (heap_there heap_here)) (fits_term_arg (fits_given tt (gives_var type_here) refl) fits_no_args))
      (put_term_first (u_f_eq (put 1) u_word) (put_heap_first put_none));
  next_cell =
      infers_at_next refl refl (fits_heap_arg (heap_there (heap_there heap_here))
      (fits_term_arg (fits_given tt (gives_var (type_there type_here)) refl)
      (fits_term_arg (fits_given tt (gives_var type_here) refl) fits_no_args)))
      (put_term_first (u_f_ex_t
      (u_f_ex_h (u_f_ex_h (u_f_and u_f_join
      (u_f_and (u_f_cell (kept 5 4 (λ e. omega (arith, e))) (kept 5 2 (λ e. omega (arith, e))))
      (u_f_rec (put 5) (u_more_terms (u_snd (kept 5 2 (λ e. omega (arith, e)))) u_no_terms)))))))
      (put_term_first (u_f_ex_t
      (u_f_ex_h (u_f_ex_h (u_f_and u_f_join
      (u_f_and (u_f_cell (put 4) (kept 4 2 (λ e. omega (arith, e))))
      (u_f_rec (kept 4 6 (λ e. omega (arith, e))) (u_more_terms (u_snd (kept 4 2 (λ e. omega (arith, e)))) u_no_terms)))))))
      (put_heap_first put_none)));
  two_is_twice_one =
      proves_inferred (infers_app
      (infers_second (infers_app
      (infers_at_next refl refl
      (fits_heap_arg heap_here (fits_term_arg (fits_given tt (gives_word (omega arith)) refl)
      (fits_term_arg (fits_given tt (gives_word (omega arith)) refl) fits_no_args)))
      (put_term_first (u_f_rec (put 2) (u_more_terms (u_bin (kept 2 1 (λ e. omega (arith, e))) u_word) u_no_terms))
      (put_term_first (u_f_rec u_word (u_more_terms (u_bin (put 1) u_word) u_no_terms)) (put_heap_first put_none))))
      (proves_refl_term refl)))
      (proves_inferred (infers_app
      (infers_second (infers_at_zero refl refl
      (fits_heap_arg heap_here (fits_term_arg (fits_given tt (gives_word (omega arith)) refl) fits_no_args))
      (put_term_first (u_f_eq (put 1) u_word) (put_heap_first put_none)))) (proves_refl_term refl)) refl)) refl;
  no_third_unfolding = no_third_unfolding;
  no_predicate = no_second_predicate;
  other_variable =
      proves_induct (forms_eq forms_word
      (fits_given tt (gives_bin (fits_given tt (gives_var type_here) refl) (fits_given tt (gives_var (type_there type_here)) refl)) refl)
      (fits_given tt (gives_bin (fits_given tt (gives_var type_here) refl) (fits_given tt (gives_var (type_there type_here)) refl)) refl))
      (fits_given tt (gives_var (type_there type_here)) refl)
      (u_f_eq (u_bin (put 0) (kept 0 1 (λ e. omega (arith, e)))) (u_bin (put 0) (kept 0 1 (λ e. omega (arith, e))))) refl
      (u_f_eq (u_bin (put 0) (kept 0 1 (λ e. omega (arith, e)))) (u_bin (put 0) (kept 0 1 (λ e. omega (arith, e))))) (proves_refl_term refl)
      (u_f_eq (u_bin (put 0) (kept 0 2 (λ e. omega (arith, e)))) (u_bin (put 0) (kept 0 2 (λ e. omega (arith, e)))))
      (proves_refl_term refl);
  hypothesis_raised =
      proves_induct
      (forms_eq forms_word (fits_given tt (gives_var (type_there type_here)) refl) (fits_given tt (gives_word (omega arith)) refl))
      (fits_given tt (gives_var (type_there type_here)) refl) (u_f_eq (kept 0 1 (λ e. omega (arith, e))) u_word) refl
      (u_f_eq (kept 0 1 (λ e. omega (arith, e))) u_word) (by_hyp refl) (u_f_eq (kept 0 2 (λ e. omega (arith, e))) u_word) (by_hyp refl);
  from_the_word_before =
      proves_induct
      (forms_eq forms_word (fits_given tt (gives_var (type_there type_here)) refl) (fits_given tt (gives_word (omega arith)) refl))
      (fits_given tt (gives_var (type_there type_here)) refl) (u_f_eq (kept 0 1 (λ e. omega (arith, e))) u_word) refl
      (u_f_eq (kept 0 1 (λ e. omega (arith, e))) u_word) (by_hyp refl) (u_f_eq (kept 0 2 (λ e. omega (arith, e))) u_word) (by_hyp refl);
  goal_raised = proves_block (block_open_heap (infers_hyp refl) (block_end (by_hyp refl)));
  used_at_the_new =
      proves_block (block_gen_term
      (block_end (proves_inferred
      (infers_inst_term (infers_hyp refl) (fits_given tt (gives_var type_here) refl) (u_f_eq (put 0) (kept 0 2 (λ e. omega (arith, e)))))
      refl)));
}
