-- The predicate, the recursive function and main derive.
use Rattle.std.proofs.Common.{Some, [], ◌∷◌, refl, sym, arith}
use Rattle.htt_syntax.specs.declared.mono.Op.TheVariants.{Add}
use Rattle.htt_syntax.specs.Trees.{FixTree, m_word, y_mono, t_var, t_app, t_fix, t_word, t_bin, t_eq, x_param, x_body, c_ret, c_step, s_run, s_if}
use Rattle.theory_renaming.specs.Renaming.{lift, lifts, rename_mono, rename_ty, rename_triple, rename_term, rename_terms, rename_formula, rename_comp}
use Rattle.theory_renaming.specs.Renaming.{rename_step}
use Rattle.theory_states.specs.States.{past, at_heaps, at_heap, at_result, start, owed, after, branch, some_values, within, ending, finish, merge, last}
use Rattle.theory_canonical.specs.Skeletons.{skeleton}
use Rattle.theory_canonical.specs.Folding.{contractum}
use Rattle.theory_canonical.specs.Eta.{expansion, eta}
use Rattle.theory_substitution.specs.Closing.{closing}
use Rattle.theory_substitution.specs.Substitution.{k_var, k_val, k_app, u_kept, u_reduced, u_word, u_bin, u_do, u_ret, u_step, u_run, u_f_tt, u_f_rec}
use Rattle.theory_substitution.specs.Substitution.{u_no_terms, u_more_terms, u_y_hoare, u_triple, r_var, b_ret, b_step}
use Rattle.theory_typing.specs.Positions.{plain_ty, plain_triple, plain_formula, plain_term, plain_terms}
use Rattle.theory_typing.specs.Contexts.{Context, Environment, en_term, count_of, forms_word, compares_word, heap_here, type_here}
use Rattle.theory_typing.specs.Laws.{none}
use Rattle.theory_typing.specs.Typing.{forms_mono, forms_fun, forms_hoare, forms_triple, forms_tt, forms_rec, fits_none, fits_more, gives_var, gives_val}
use Rattle.theory_typing.specs.Typing.{gives_bin, gives_eq, gives_app, gives_fix, fits_given, fits_do, header_param, header_body, fix_param, fix_body}
use Rattle.theory_typing.specs.Typing.{fits_body, runs_ret, runs_step, moves_run, moves_if, joined_step, joined_comp, FormsTriple, in_program, Gives}
use Rattle.theory_typing.specs.Typing.{assembled_end, assembled_part}
use Rattle.theory_items.specs.Items.{with_rec, derives_val}
use Rattle.theory_items.specs.Examples.{doubles}
use Rattle.theory_items.proofs.Worked as items
use Rattle.theory_file_derived.specs.Derived.{DerivesAll, derives_none, derives_more}
use Rattle.theory_file_calls.proofs.Runs.{no_zero}
use Rattle.theory_file_calls.proofs.Entries.{word_fits, literal_fits}
use Rattle.theory_file_recursion.specs.Proofs.{one_less}
use Rattle.theory_file_recursion.specs.Doubling.{gives_twice, doubles_word, doubling, doubling_file, doubling_env, doubling_rows, again_goal}
use Rattle.theory_file_recursion.specs.Doubling.{is_twice_goal}

-- what stands before the value
abbrev with_doubles : Environment
with_doubles = with_rec none doubles

twice_formed : {g : Context} → FormsTriple with_doubles (en_term (y_mono m_word) ∷ g) gives_twice gives_twice
unfolding count_of
twice_formed =
    forms_triple forms_tt forms_word (forms_rec refl heap_here (word_fits 3 refl) refl (fits_more (word_fits 2 refl) fits_none))

-- the function in canonical form: its run holds its monotype
abbrev long_doubling : FixTree
long_doubling =
    x_param (y_mono m_word) (x_body gives_twice (c_step
    (s_if m_word (t_eq m_word (t_word 0) (t_var 1)) (c_ret (t_word 0))
    (c_step (s_run (t_app (t_var 0) (one_less (t_var 1))) (Some m_word)) (c_ret (t_bin Add (t_var 0) (t_word 2)))))
    (c_ret (t_var 0))))

function_given : Gives with_doubles in_program [] (t_fix 0 doubling) doubles_word (eta (t_fix 0 long_doubling) doubles_word) (again_goal ∷ is_twice_goal ∷ [])
unfolding lift lifts rename_mono rename_ty rename_triple rename_term rename_terms rename_formula rename_comp rename_step past at_heaps at_heap
    at_result start owed after branch some_values within ending finish merge last skeleton contractum expansion closing plain_ty
function_given =
    gives_fix (header_param (forms_mono forms_word) (header_body twice_formed))
    (fix_param (fix_body (fits_body (runs_step
    (moves_if forms_word
    (fits_given tt (gives_eq forms_word compares_word (literal_fits (omega arith)) (word_fits 1 refl)) refl)
    (runs_ret (literal_fits (omega arith))) assembled_end
    (runs_step (moves_run (gives_app (gives_var type_here)
    (fits_given tt (gives_bin (word_fits 1 refl) (literal_fits (omega arith))) refl)
    (u_y_hoare (u_triple u_f_tt (u_f_rec (u_reduced (r_var refl)) (u_more_terms (u_kept (k_var (λ q. omega (arith, q)))) u_no_terms))))
    (u_do (u_step (u_run (k_app (k_var (λ q. no_zero (sym q))) (u_reduced (r_var refl)))) (u_ret (u_kept (k_var (λ q. no_zero q))))))))
    (runs_ret (fits_given tt (gives_bin (word_fits 0 refl) (literal_fits (omega arith))) refl)))
    (assembled_part assembled_end (joined_comp (b_step (b_ret (u_ret (u_bin (u_reduced (r_var refl)) u_word)))))))
    (runs_ret (word_fits 0 refl))) (assembled_part assembled_end joined_step))))

pub doubling_owes : DerivesAll none doubling_file doubling_env doubling_rows
unfolding lift lifts rename_mono rename_ty rename_triple rename_term rename_terms rename_formula rename_comp rename_step past at_heaps at_heap
    at_result start owed after some_values within ending finish last skeleton contractum expansion closing plain_ty plain_triple plain_formula
    plain_term plain_terms count_of
doubling_owes =
    derives_more items.worked.recursive
    (derives_more (derives_val (forms_fun (forms_mono forms_word) (forms_hoare twice_formed)) tt (fits_given tt function_given refl))
    (derives_more (derives_val
    (forms_hoare (forms_triple forms_tt forms_word
    (forms_rec refl heap_here (literal_fits (omega arith)) refl (fits_more (word_fits 2 refl) fits_none)))) tt
    (fits_do (fits_body (runs_step
    (moves_run (gives_app (gives_val refl) (literal_fits (omega arith))
    (u_y_hoare (u_triple u_f_tt (u_f_rec (u_reduced (r_var refl)) (u_more_terms (u_kept (k_var (λ q. omega (arith, q)))) u_no_terms))))
    (u_do (u_step (u_run (k_app k_val (u_reduced (r_var refl)))) (u_ret (u_kept (k_var (λ q. no_zero q))))))))
    (runs_ret (word_fits 0 refl))) (assembled_part assembled_end (joined_comp (b_step (b_ret (u_ret (u_reduced (r_var refl))))))))))
    derives_none))
