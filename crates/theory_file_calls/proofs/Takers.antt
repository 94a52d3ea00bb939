-- A value that takes a computation and runs it twice.
use Rattle.std.proofs.Common.{[], refl, sym, arith}
use Rattle.theory_renaming.specs.Renaming.{lift, lifts, rename_mono, rename_ty, rename_triple, rename_term, rename_formula, rename_comp, rename_step}
use Rattle.theory_states.specs.States.{past, at_heaps, at_heap, at_result, start, owed, after, some_values, within, ending, finish, last}
use Rattle.theory_canonical.specs.Skeletons.{skeleton}
use Rattle.theory_canonical.specs.Folding.{contractum}
use Rattle.theory_canonical.specs.Eta.{expansion}
use Rattle.theory_substitution.specs.Closing.{closing}
use Rattle.theory_substitution.specs.Substitution.{k_var, k_val, k_app, u_kept, u_reduced, u_word, u_bin, u_do, u_ret, u_step, u_run, u_f_tt, u_f_eq}
use Rattle.theory_substitution.specs.Substitution.{u_y_hoare, u_triple, r_var, b_ret, b_step}
use Rattle.theory_typing.specs.Positions.{plain_ty, plain_triple, plain_formula, plain_term}
use Rattle.theory_typing.specs.Contexts.{type_here, type_there, heap_here, heap_there, forms_word}
use Rattle.theory_typing.specs.Laws.{none}
use Rattle.theory_typing.specs.Typing.{forms_fun, forms_eq, gives_var, gives_val, gives_bin, gives_app, fits_given}
use Rattle.theory_typing.specs.Typing.{fits_lam, fits_do, fits_body, runs_ret, runs_step, moves_run, joined_comp}
use Rattle.theory_typing.specs.Typing.{assembled_end, assembled_part}
use Rattle.theory_items.specs.Items.{derives_val}
use Rattle.theory_logic_rules.specs.Sequents.{putting}
use Rattle.theory_logic_rules.specs.Rules.{Proves, infers_hyp, infers_first, infers_second, proves_rewrite_term, proves_inferred, proves_block, block_end}
use Rattle.theory_logic_rules.specs.Rules.{block_intro, block_open_term, block_open_heap}
use Rattle.theory_file_derived.specs.Derived.{DerivesAll, derives_none, derives_more, given_for, IsDerived}
use Rattle.theory_file_calls.specs.Parts.{whole_heap}
use Rattle.theory_file_derived.specs.Examples.{second_part}
use Rattle.theory_file_calls.specs.Takers.{takers, taker_proofs, taker_rows, taker_env, both_known, both_goal, same_known, same_goal, ComputationTaken}
use Rattle.theory_file_calls.proofs.Entries.{word_fits, literal_fits}
use Rattle.theory_file_calls.proofs.Rows.{derived_by}
use Rattle.theory_file_calls.proofs.Runs.{no_zero, some_heap_is_empty, run_is_used, has_whole_heap, value_put}
use Rattle.theory_file_calls.proofs.Calls.{gives_formed, returns_proved}

takers_owe : DerivesAll none takers taker_env taker_rows
unfolding lift lifts rename_mono rename_ty rename_triple rename_term rename_formula rename_comp rename_step past at_heaps at_heap at_result
    start owed after some_values within ending finish last skeleton contractum expansion closing plain_ty plain_triple plain_formula plain_term
takers_owe =
    derives_more (derives_val (gives_formed (omega arith)) tt (fits_do (fits_body (runs_ret (literal_fits (omega arith))) assembled_end)))
    (derives_more (derives_val (forms_fun (gives_formed (omega arith)) (gives_formed (omega arith))) tt
    (fits_lam (fits_do (fits_body
    (runs_step (moves_run (gives_var type_here))
    (runs_step (moves_run (gives_var (type_there type_here)))
    (runs_ret (fits_given tt
    (gives_bin (word_fits 1 refl) (word_fits 0 refl)) refl))))
    (assembled_part (assembled_part assembled_end
    (joined_comp (b_step (b_ret (u_ret (u_bin (u_kept (k_var (λ q. no_zero (sym q)))) (u_reduced (r_var refl))))))))
    (joined_comp (b_step (b_ret (u_step (u_run (k_var (λ q. no_zero (sym q))))
    (u_ret (u_bin (u_reduced (r_var refl)) (u_kept (k_var (λ q. no_zero q))))))))))))))
    (derives_more (derives_val (gives_formed (omega arith)) tt
    (fits_do (fits_body
    (runs_step (moves_run (gives_app (gives_val refl) (fits_given tt (gives_val refl) refl)
    (u_y_hoare (u_triple u_f_tt (u_f_eq (u_kept (k_var (λ q. omega (arith, q)))) u_word)))
    (u_do (u_step (u_run (k_app k_val value_put)) (u_ret (u_kept (k_var (λ q. no_zero q))))))))
    (runs_ret (word_fits 0 refl)))
    (assembled_part assembled_end (joined_comp (b_step (b_ret (u_ret (u_reduced (r_var refl))))))))))
    derives_none))

both_proved : Proves taker_env both_goal.context [] both_known both_goal.goal
unfolding lift rename_mono rename_ty rename_term rename_formula expansion contractum closing plain_ty plain_formula plain_term putting
both_proved =
    proves_block (block_intro (block_open_term (infers_hyp refl) (block_open_term (infers_hyp refl)
    (block_open_heap (infers_first (infers_hyp refl)) (block_open_heap some_heap_is_empty
    (block_open_heap (run_is_used (heap_there heap_here) heap_here (infers_hyp refl) (infers_hyp refl))
    (block_open_heap (infers_first (infers_hyp refl))
    (block_open_heap (run_is_used heap_here (heap_there (heap_there heap_here)) (infers_hyp refl) (infers_hyp refl))
    (block_end (proves_rewrite_term (infers_second (infers_hyp refl))
    (forms_eq forms_word (word_fits 10 refl)
    (fits_given tt (gives_bin (literal_fits (omega arith)) (word_fits 0 refl)) refl))
    (u_f_eq (u_kept (k_var (λ q. no_zero (sym q)))) (u_bin u_word (u_reduced (r_var refl)))) refl
    (u_f_eq (u_kept (k_var (λ q. no_zero (sym q)))) (u_bin u_word (u_reduced (r_var refl))))
    (proves_rewrite_term (infers_second (infers_hyp refl))
    (forms_eq forms_word (word_fits 10 refl)
    (fits_given tt (gives_bin (word_fits 0 refl) (word_fits 6 refl)) refl))
    (u_f_eq (u_kept (k_var (λ q. no_zero (sym q)))) (u_bin (u_reduced (r_var refl)) (u_kept (k_var (λ q. no_zero (sym q)))))) refl
    (u_f_eq (u_kept (k_var (λ q. no_zero (sym q)))) (u_bin (u_reduced (r_var refl)) (u_kept (k_var (λ q. no_zero (sym q))))))
    (proves_inferred (infers_second (infers_hyp refl)) refl))))))))))))

same_proved : Proves taker_env same_goal.context [] same_known same_goal.goal
unfolding lift rename_mono rename_ty rename_term rename_formula expansion contractum closing plain_ty plain_formula plain_term putting
same_proved =
    proves_block (block_intro (block_open_term (infers_hyp refl) (block_open_heap (infers_first (infers_hyp refl))
    (block_open_heap some_heap_is_empty
    (block_open_heap (run_is_used (heap_there heap_here) heap_here (infers_hyp refl) (infers_hyp refl))
    (block_end (proves_rewrite_term (infers_second (infers_hyp refl))
    (forms_eq forms_word
    (word_fits 7 refl)
    (word_fits 0 refl))
    (u_f_eq (u_kept (k_var (λ q. no_zero (sym q)))) (u_reduced (r_var refl))) refl
    (u_f_eq (u_kept (k_var (λ q. no_zero (sym q)))) (u_reduced (r_var refl)))
    (proves_inferred (infers_second (infers_hyp refl)) refl))))))))

takers_derived : IsDerived takers taker_proofs taker_env
unfolding given_for
takers_derived =
    derived_by taker_rows takers_owe (
      (record { proof = second_part; only = refl; proves = returns_proved }, tt),
      (
        (
          record { proof = whole_heap; only = refl; proves = has_whole_heap },
          (
            record { proof = whole_heap; only = refl; proves = has_whole_heap },
            (record { proof = both_known; only = refl; proves = both_proved }, tt),
          ),
        ),
        (
          (
            record { proof = whole_heap; only = refl; proves = has_whole_heap },
            (record { proof = same_known; only = refl; proves = same_proved }, tt),
          ),
          tt,
        ),
      ),
    )
    ((_, refl), ((_, refl), ((_, refl), ((_, refl), ((_, refl), ((_, refl), tt))))))

pub taken : ComputationTaken
taken = record { owes = takers_owe; derived = takers_derived }
