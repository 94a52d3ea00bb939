-- Values that run the one before them.
use Rattle.std.proofs.Common.{ℕ, zero, [], refl, sym, arith}
use Rattle.htt_syntax.specs.declared.mono.Op.TheVariants.{Add}
use Rattle.htt_syntax.specs.Trees.{m_word, t_var, t_word, t_bin, f_eq}
use Rattle.theory_renaming.specs.Renaming.{lift, lifts, rename_mono, rename_ty, rename_term, rename_formula}
use Rattle.theory_values.specs.Values.{IsWord}
use Rattle.theory_states.specs.States.{past, at_heaps, at_heap, at_result, start, owed, after, some_values, within, ending, finish, last}
use Rattle.theory_canonical.specs.Skeletons.{sk_o}
use Rattle.theory_canonical.specs.Folding.{contractum, folding}
use Rattle.theory_canonical.specs.Eta.{expansion}
use Rattle.theory_substitution.specs.Closing.{closing}
use Rattle.theory_substitution.specs.Substitution.{SubFormula, k_var, u_kept, u_reduced, u_word, u_bin, u_ret, u_f_eq, r_var, b_ret, b_step}
use Rattle.theory_typing.specs.Positions.{plain_ty}
use Rattle.theory_typing.specs.Contexts.{Context, Environment, heap_here, heap_there, forms_word}
use Rattle.theory_typing.specs.Laws.{none}
use Rattle.theory_typing.specs.Typing.{FormsTy, forms_hoare, forms_triple, forms_tt, forms_eq, gives_val, gives_bin}
use Rattle.theory_typing.specs.Typing.{fits_given, fits_do, fits_body, runs_ret, runs_step, moves_run, joined_comp}
use Rattle.theory_typing.specs.Typing.{assembled_end, assembled_part}
use Rattle.theory_items.specs.Items.{derives_val}
use Rattle.theory_logic_rules.specs.Sequents.{putting}
use Rattle.theory_logic_rules.specs.Rules.{Proves, infers_hyp, infers_first, infers_second, proves_rewrite_term, proves_inferred, proves_block, block_end}
use Rattle.theory_logic_rules.specs.Rules.{block_intro, block_open_term, block_open_heap}
use Rattle.theory_file_derived.specs.Derived.{DerivesAll, derives_none, derives_more, given_for, IsDerived}
use Rattle.theory_file_derived.specs.Examples.{second_part}
use Rattle.theory_file_calls.specs.Parts.{gives, whole_heap}
use Rattle.theory_file_calls.specs.Calls.{counted, counted_proofs, counted_rows, counted_env, returns_goal, one_more_known, one_more_goal}
use Rattle.theory_file_calls.specs.Calls.{ValuesThatCall}
use Rattle.theory_file_calls.proofs.Entries.{word_fits, literal_fits}
use Rattle.theory_file_calls.proofs.Rows.{derived_by}
use Rattle.theory_file_calls.proofs.Runs.{no_zero, some_heap_is_empty, run_is_used, has_whole_heap}

pub gives_formed : {env : Environment} {g : Context} {n : ℕ} → IsWord n → FormsTy env g (gives n) (gives n)
gives_formed w = forms_hoare (forms_triple forms_tt forms_word (forms_eq forms_word (word_fits 2 refl) (literal_fits w)))

counted_owes : DerivesAll none counted counted_env counted_rows
unfolding lift lifts rename_mono rename_ty rename_term rename_formula past at_heaps at_heap at_result start owed after some_values within ending
    finish last contractum expansion closing plain_ty
counted_owes =
    derives_more (derives_val (gives_formed (omega arith)) tt
    (fits_do (fits_body (runs_ret (literal_fits (omega arith))) assembled_end)))
    (derives_more (derives_val (gives_formed (omega arith)) tt
    (fits_do (fits_body (runs_step (moves_run (gives_val refl))
    (runs_ret (fits_given tt (gives_bin (word_fits 0 refl) (literal_fits (omega arith))) refl)))
    (assembled_part assembled_end (joined_comp (b_step (b_ret (u_ret (u_bin (u_reduced (r_var refl)) u_word)))))))))
    (derives_more (derives_val (gives_formed (omega arith)) tt
    (fits_do (fits_body (runs_step (moves_run (gives_val refl))
    (runs_ret (fits_given tt (gives_bin (word_fits 0 refl) (literal_fits (omega arith))) refl)))
    (assembled_part assembled_end (joined_comp (b_step (b_ret (u_ret (u_bin (u_reduced (r_var refl)) u_word)))))))))
    derives_none))

pub returns_proved : {env : Environment} {n : ℕ} → Proves env (returns_goal n).context [] second_part (returns_goal n).goal
returns_proved = proves_block (block_intro (block_end (proves_inferred (infers_second (infers_hyp refl)) refl)))

one_more_proved : {env : Environment} {n m : ℕ}
    → SubFormula (t_word n) sk_o zero (f_eq m_word (t_var 7) (t_bin Add (t_var 0) (t_word 1))) (f_eq m_word (t_var 6) (t_word m))
    → Proves env (one_more_goal n m).context [] one_more_known (one_more_goal n m).goal
unfolding lift rename_mono rename_term rename_formula rename_ty expansion contractum closing plain_ty putting
one_more_proved counts =
    proves_block (block_intro (block_open_term (infers_hyp refl) (block_open_heap (infers_first (infers_hyp refl))
    (block_open_heap some_heap_is_empty
    (block_open_heap (run_is_used (heap_there heap_here) heap_here (infers_hyp refl) (infers_hyp refl))
    (block_end (proves_rewrite_term (infers_second (infers_hyp refl))
    (forms_eq forms_word
    (word_fits 7 refl)
    (fits_given tt (gives_bin (word_fits 0 refl) (literal_fits (omega arith))) refl)) counts refl
    (u_f_eq (u_kept (k_var (λ q. no_zero (sym q)))) (u_bin (u_reduced (r_var refl)) u_word))
    (proves_inferred (infers_second (infers_hyp refl)) refl))))))))

counts : {n : ℕ}
    → SubFormula (t_word n) sk_o zero (f_eq m_word (t_var 7) (t_bin Add (t_var 0) (t_word 1)))
    (f_eq m_word (t_var 6) (folding (t_bin Add (t_word n) (t_word 1))))
unfolding closing rename_mono
counts = u_f_eq (u_kept (k_var (λ q. no_zero (sym q)))) (u_bin (u_reduced (r_var refl)) u_word)

counted_derived : IsDerived counted counted_proofs counted_env
unfolding given_for contractum
counted_derived =
    derived_by counted_rows counted_owes (
      (record { proof = second_part; only = refl; proves = returns_proved }, tt),
      (
        (
          record { proof = whole_heap; only = refl; proves = has_whole_heap },
          (record { proof = one_more_known; only = refl; proves = one_more_proved counts }, tt),
        ),
        (
          (
            record { proof = whole_heap; only = refl; proves = has_whole_heap },
            (record { proof = one_more_known; only = refl; proves = one_more_proved counts }, tt),
          ),
          tt,
        ),
      ),
    )
    ((_, refl), ((_, refl), ((_, refl), ((_, refl), ((_, refl), tt)))))

pub calls : ValuesThatCall
calls = record { owes = counted_owes; derived = counted_derived }
