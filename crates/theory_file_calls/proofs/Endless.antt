-- A value that never ends, of which the proof of an earlier value speaks.
use Rattle.std.proofs.Common.{ℕ, zero, suc, [], ◌∷◌, Some, refl, sym, arith}
use Rattle.htt_syntax.specs.Trees.{m_word, y_mono, t_var, t_val, t_app, t_do, c_ret, c_step, s_run}
use Rattle.theory_renaming.specs.Renaming.{lift, lifts, rename_mono, rename_ty, rename_triple, rename_term, rename_fix, rename_formula, rename_comp}
use Rattle.theory_renaming.specs.Renaming.{rename_step}
use Rattle.theory_states.specs.States.{past, at_heaps, at_heap, at_result, start, owed, after, some_values, within, ending, finish, last}
use Rattle.theory_canonical.specs.Skeletons.{sk_c, skeleton}
use Rattle.theory_canonical.specs.Eta.{expansion}
use Rattle.theory_substitution.specs.Closing.{closing}
use Rattle.theory_substitution.specs.Substitution.{SubTerm, k_var, k_val, k_app, k_fix, u_kept, u_reduced, u_word, u_lam, u_do, u_ret, u_step}
use Rattle.theory_substitution.specs.Substitution.{u_run, u_f_tt, u_f_ff, u_f_eq, u_y_mono, u_y_hoare, u_triple, u_x_param, u_x_body, r_var, r_app, applied}
use Rattle.theory_substitution.specs.Substitution.{b_ret, b_step}
use Rattle.theory_typing.specs.Positions.{plain_ty, plain_triple, plain_formula, plain_term}
use Rattle.theory_typing.specs.Contexts.{Context, en_term, type_here, type_there, heap_here, heap_there, forms_word}
use Rattle.theory_typing.specs.Laws.{none}
use Rattle.theory_typing.specs.Typing.{in_formula, Gives, forms_mono, forms_fun, forms_hoare, forms_triple, forms_tt, forms_ff, forms_eq}
use Rattle.theory_typing.specs.Typing.{forms_ex_t, gives_var, gives_val, gives_app, gives_fix, fits_given, fits_lam, fits_do, fits_body, runs_ret}
use Rattle.theory_typing.specs.Typing.{runs_step, moves_run, joined_comp, assembled_end, assembled_part, header_param, header_body, fix_param, fix_body}
use Rattle.theory_items.specs.Items.{derives_val}
use Rattle.theory_logic_rules.specs.Sequents.{putting}
use Rattle.theory_logic_rules.specs.Rules.{Proves, infers_hyp, infers_first, infers_second, proves_give_term, proves_trivial, proves_refl_term, proves_inferred}
use Rattle.theory_logic_rules.specs.Rules.{proves_block, block_end, block_intro, block_have, block_open_term, block_open_heap}
use Rattle.theory_file_derived.specs.Derived.{DerivesAll, derives_none, derives_more, given_for, IsDerived}
use Rattle.theory_file_calls.specs.Parts.{run_of, whole_heap}
use Rattle.theory_file_calls.specs.Endless.{endless, endless_proofs, endless_rows, endless_env, speaks_of_later, end_of_f_goal, never_back, inner_end_goal}
use Rattle.theory_file_calls.specs.Endless.{never_back_behind, outer_end_goal, EndlessValue}
use Rattle.theory_file_calls.proofs.Entries.{word_fits, literal_fits}
use Rattle.theory_file_calls.proofs.Rows.{derived_by}
use Rattle.theory_file_calls.proofs.Runs.{no_zero, some_heap_is_empty, run_is_used, has_whole_heap, value_put}

endless_owes : DerivesAll none endless endless_env endless_rows
unfolding lift lifts rename_mono rename_ty rename_triple rename_term rename_fix rename_formula rename_comp rename_step past at_heaps at_heap
    at_result start owed after some_values within ending finish last skeleton expansion closing plain_ty plain_triple plain_formula plain_term
endless_owes =
    derives_more (derives_val (forms_fun
    (forms_fun (forms_hoare (forms_triple forms_tt forms_word forms_ff)) (forms_mono forms_word))
    (forms_hoare (forms_triple forms_tt forms_word forms_tt))) tt
    (fits_lam (fits_do (fits_body (runs_ret (literal_fits (omega arith))) assembled_end))))
    (derives_more (derives_val (forms_hoare (forms_triple forms_tt forms_word forms_ff)) tt
    (fits_do (fits_body
    (runs_step (moves_run (gives_app (gives_val refl) (fits_lam (literal_fits (omega arith)))
    (u_y_hoare (u_triple u_f_tt u_f_tt))
    (u_do (u_step (u_run (k_app k_val (u_lam (u_reduced (r_app (r_var refl)
    (u_do (u_step (u_run (k_var (λ q. no_zero q))) (u_ret (u_kept (k_var (λ q. no_zero q))))))
    (applied u_word)))))) (u_ret (u_kept (k_var (λ q. no_zero q))))))))
    (runs_step (moves_run (gives_app
    (gives_fix (header_param (forms_mono forms_word) (header_body (forms_triple forms_tt forms_word forms_ff)))
    (fix_param (fix_body (fits_body (runs_step
    (moves_run (gives_app (gives_var type_here) (word_fits 1 refl)
    (u_y_hoare (u_triple u_f_tt u_f_ff))
    (u_do (u_step (u_run (k_app (k_var (λ q. no_zero (sym q))) (u_reduced (r_var refl)))) (u_ret (u_kept (k_var (λ q. no_zero q))))))))
    (runs_ret (word_fits 0 refl)))
    (assembled_part assembled_end (joined_comp (b_step (b_ret (u_ret (u_reduced (r_var refl)))))))))))
    (literal_fits (omega arith))
    (u_y_hoare (u_triple u_f_tt u_f_ff))
    (u_do (u_step (u_run (k_app (k_fix (u_x_param u_y_mono (u_x_body (u_triple u_f_tt u_f_ff)
    (u_step (u_run (k_app (k_var (λ q. no_zero q)) (u_kept (k_var (λ q. omega (arith, q))))))
    (u_ret (u_kept (k_var (λ q. no_zero q)))))))) (u_reduced (r_var refl))))
    (u_ret (u_kept (k_var (λ q. no_zero q))))))))
    (runs_ret (word_fits 0 refl))))
    (assembled_part (assembled_part assembled_end
    (joined_comp (b_step (b_ret (u_ret (u_reduced (r_var refl)))))))
    (joined_comp (b_step (b_ret (u_step
    (u_run (k_app (k_fix (u_x_param u_y_mono (u_x_body (u_triple u_f_tt u_f_ff)
    (u_step (u_run (k_app (k_var (λ q. no_zero q)) (u_kept (k_var (λ q. omega (arith, q))))))
    (u_ret (u_kept (k_var (λ q. no_zero q)))))))) u_word))
    (u_ret (u_kept (k_var (λ q. no_zero q))))))))))))
    derives_none)

-- the context of f.1, and k g under one more variable and without
k_context : Context
k_context = end_of_f_goal.context

k_of_g_put : (n : ℕ)
    → SubTerm (t_do (run_of 1)) sk_c zero (t_app (t_var (suc n)) (t_do (c_step (s_run (t_var 0) (Some m_word)) (c_ret (t_var 0)))))
    (t_app (t_var n) (t_do (run_of 1)))
unfolding closing
k_of_g_put n = u_kept (k_app (k_var (λ q. no_zero (sym q))) value_put)

k_of_g : Gives endless_env in_formula k_context (t_app (t_var 3) (t_val 1)) (y_mono m_word) (t_app (t_var 3) (t_do (run_of 1))) []
unfolding k_context rename_ty rename_triple rename_mono rename_term rename_formula lift expansion plain_ty plain_triple plain_formula skeleton closing
k_of_g = gives_app (gives_var (type_there (type_there (type_there type_here)))) (fits_given tt (gives_val refl) refl) u_y_mono (k_of_g_put 3)

k_of_g_raised :
    Gives endless_env in_formula (en_term (y_mono m_word) ∷ k_context) (t_app (t_var 4) (t_val 1)) (y_mono m_word)
    (t_app (t_var 4) (t_do (run_of 1))) []
unfolding k_context rename_ty rename_triple rename_mono rename_term rename_formula lift expansion plain_ty plain_triple plain_formula skeleton closing
k_of_g_raised =
    gives_app (gives_var (type_there (type_there (type_there (type_there type_here))))) (fits_given tt (gives_val refl) refl) u_y_mono
    (k_of_g_put 4)

later_spoken_of : Proves endless_env end_of_f_goal.context [] speaks_of_later end_of_f_goal.goal
unfolding k_context plain_ty plain_term rename_ty rename_mono rename_term rename_comp expansion closing lift
later_spoken_of =
    proves_block (block_intro (block_have
    (forms_ex_t forms_word (forms_eq forms_word (word_fits 0 refl) (fits_given tt k_of_g_raised refl)))
    (proves_give_term (fits_given tt k_of_g refl)
    (u_f_eq (u_reduced (r_var refl)) (u_kept (k_app (k_var (λ q. no_zero (sym q))) (u_do (u_step (u_run k_val) (u_ret (u_kept (k_var (λ q. no_zero q)))))))))
    (proves_refl_term refl)) (block_end proves_trivial)))

inner_end_proved : Proves endless_env inner_end_goal.context [] never_back inner_end_goal.goal
unfolding lift rename_mono rename_term rename_formula putting
inner_end_proved =
    proves_block (block_intro (block_open_term (infers_hyp refl) (block_open_heap (infers_first (infers_hyp refl))
    (block_open_heap some_heap_is_empty
    (block_open_heap (run_is_used (heap_there heap_here) heap_here (infers_hyp refl) (infers_hyp refl))
    (block_end (proves_inferred (infers_second (infers_hyp refl)) refl)))))))

outer_end_proved : Proves endless_env outer_end_goal.context [] never_back_behind outer_end_goal.goal
unfolding lift rename_mono rename_term rename_formula putting
outer_end_proved =
    proves_block (block_intro (block_open_term (infers_hyp refl) (block_open_term (infers_hyp refl)
    (block_open_heap (infers_first (infers_hyp refl)) (block_open_heap some_heap_is_empty
    (block_open_heap (run_is_used (heap_there heap_here) heap_here (infers_hyp refl) (infers_hyp refl))
    (block_end (proves_inferred (infers_second (infers_hyp refl)) refl))))))))

endless_derived : IsDerived endless endless_proofs endless_env
unfolding given_for
endless_derived =
    derived_by endless_rows endless_owes (
      (record { proof = speaks_of_later; only = refl; proves = later_spoken_of }, tt),
      (
        (
          record { proof = whole_heap; only = refl; proves = has_whole_heap },
          (
            record { proof = whole_heap; only = refl; proves = has_whole_heap },
            (
              record { proof = never_back; only = refl; proves = inner_end_proved },
              (
                record { proof = whole_heap; only = refl; proves = has_whole_heap },
                (record { proof = never_back_behind; only = refl; proves = outer_end_proved }, tt),
              ),
            ),
          ),
        ),
        tt,
      ),
    )
    ((_, refl), ((_, refl), ((_, refl), ((_, refl), ((_, refl), ((_, refl), tt))))))

pub without_harm : EndlessValue
without_harm = record { owes = endless_owes; derived = endless_derived }
