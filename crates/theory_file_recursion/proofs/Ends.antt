-- The ends of the recursive function and of main.
use Rattle.std.proofs.Common.{◌≡◌, ℕ, zero, suc, List, [], ◌∷◌, true, Some, slice_get, refl, sym, arith}
use Rattle.htt_syntax.specs.declared.mono.Op.TheVariants.{Add, Sub}
use Rattle.htt_syntax.specs.Trees.{TermTree, FormulaTree, m_word, m_bool, y_mono, t_var, t_word, t_bool, t_bin, t_eq, f_and, f_emp, f_join, f_eq, p_hyp}
use Rattle.htt_syntax.specs.Trees.{p_first, p_second}
use Rattle.theory_values.specs.Values.{IsWord}
use Rattle.theory_canonical.specs.Skeletons.{sk_o}
use Rattle.theory_renaming.specs.Renaming.{lift, lifts, rename_mono, rename_term, rename_terms, rename_formula}
use Rattle.theory_canonical.specs.Folding.{contractum}
use Rattle.theory_substitution.specs.Closing.{closing}
use Rattle.theory_substitution.specs.Substitution.{SubTerm, k_var, u_kept, u_word, u_bin, u_f_eq, u_f_rec, u_no_terms, u_more_terms}
use Rattle.theory_typing.specs.Positions.{plain_ty}
use Rattle.theory_typing.specs.Contexts.{Context, IsHeapEntry, en_heap, en_term, count_of, forms_word, compares_word, heap_here, heap_there}
use Rattle.theory_typing.specs.Typing.{FormsFormula, Fits, in_formula, forms_eq, forms_rec, fits_none, fits_more, gives_bin, fits_given}
use Rattle.theory_logic_axioms.specs.Names.{sub_add, add_sub, eq_yes}
use Rattle.theory_logic_axioms.specs.Table.{argument_sorts, SideCondition, formula_of}
use Rattle.theory_logic_rules.specs.Sequents.{below_greatest, putting, raised_term, terms_of, put_none, put_term_first, put_heap_first, forms_no_monos}
use Rattle.theory_logic_rules.specs.Sequents.{forms_more_monos}
use Rattle.theory_logic_rules.specs.Sequents.{fits_no_args, fits_heap_arg, fits_term_arg}
use Rattle.theory_logic_rules.specs.Rules.{Infers, Proves, infers_hyp, infers_first, infers_second, infers_app, infers_axiom, infers_the, infers_at_zero}
use Rattle.theory_logic_rules.specs.Rules.{infers_at_next}
use Rattle.theory_logic_rules.specs.Rules.{proves_case, proves_refl_term, proves_rewrite_term, proves_rewrite_heap, proves_inferred, proves_block, block_end}
use Rattle.theory_logic_rules.specs.Rules.{block_intro, block_open_term, block_open_heap}
use Rattle.theory_logic_rules.proofs.Examples.{put, kept}
use Rattle.theory_file_calls.proofs.Runs.{no_zero, some_heap_is_empty, run_is_used, heap_is_same}
use Rattle.theory_file_calls.proofs.Entries.{word_fits, literal_fits, heap_entry}
use Rattle.theory_file_recursion.specs.Proofs.{is_twice, twice_two, twice, one_less, has_next, at_zero, two_less, one_before, next_known}
use Rattle.theory_file_recursion.specs.Doubling.{doubling_env, is_twice_goal, twice_two_goal}
use Rattle.theory_file_recursion.proofs.Words.{next_is_had}

-- the atom at a heap, an index and a word of a context is formed
atom_formed : {g : Context} {h : ℕ} {index index' word word' : TermTree}
    → IsHeapEntry g h
    → Fits doubling_env in_formula g index (y_mono m_word) index' []
    → Fits doubling_env in_formula g word (y_mono m_word) word' []
    → FormsFormula doubling_env g (twice h index word) (twice h index' word')
unfolding count_of
atom_formed h index word = forms_rec refl h index refl (fits_more word fits_none)

-- a word less a literal
less_fits : {g : Context} {literal : ℕ} (index : ℕ)
    → slice_get g index ≡ Some (en_term (y_mono m_word))
    → IsWord literal
    → Fits doubling_env in_formula g (t_bin Sub (t_var index) (t_word literal)) (y_mono m_word) (t_bin Sub (t_var index) (t_word literal)) []
unfolding contractum plain_ty
less_fits index entry word = fits_given tt (gives_bin (word_fits index entry) (literal_fits word)) refl

-- a variable behind the innermost one, for which a term is put
behind : {new : TermTree} (n : ℕ) → SubTerm new sk_o zero (t_var (suc n)) (t_var n)
unfolding closing
behind n = u_kept (k_var (λ q. no_zero (sym q)))

-- where the `if` gives b, and in the end behind the run, with m, e, c and s before b
abbrev b_context : Context
b_context = en_term (y_mono m_word) ∷ is_twice_goal.context

abbrev m_context : Context
m_context = en_heap ∷ en_heap ∷ en_heap ∷ en_term (y_mono m_word) ∷ b_context

zero_is_had : {hs : List FormulaTree}
    → Infers doubling_env b_context hs (p_second (p_first (p_hyp 2))) (f_eq m_bool (t_eq m_word (t_word 0) (t_var 5)) (t_bool true))
    → Infers doubling_env b_context hs (p_second (p_hyp 2)) (f_eq m_word (t_var 0) (t_word 0))
    → Infers doubling_env b_context hs (p_second (p_hyp 1)) (f_eq m_word (t_var 3) (t_var 0))
    → Proves doubling_env b_context hs at_zero (twice 1 (t_var 5) (t_var 3))
unfolding contractum closing rename_formula rename_mono lift lifts putting raised_term terms_of argument_sorts SideCondition formula_of
zero_is_had tested is_zero is_result =
    proves_rewrite_term
    (infers_app
    (infers_axiom eq_yes refl (forms_more_monos forms_word forms_no_monos) refl compares_word refl
    (fits_term_arg (literal_fits (omega arith)) (fits_term_arg (word_fits 5 refl) fits_no_args)) refl)
    (proves_inferred tested refl))
    (atom_formed (heap_entry _ 2 refl) (word_fits 0 refl) (word_fits 4 refl))
    (u_f_rec (put 0) (u_more_terms (behind 3) u_no_terms)) refl
    (u_f_rec (put 0) (u_more_terms (behind 3) u_no_terms))
    (proves_inferred (infers_app
    (infers_second (infers_at_zero refl refl (fits_heap_arg (heap_entry _ 1 refl) (fits_term_arg (word_fits 3 refl) fits_no_args))
    (put_term_first (u_f_eq (put 1) u_word) (put_heap_first put_none))))
    (proves_rewrite_term is_zero (forms_eq forms_word (word_fits 4 refl) (word_fits 0 refl)) (u_f_eq (behind 3) (put 0)) refl
    (u_f_eq (behind 3) (put 0)) (proves_inferred is_result refl))) refl)

two_less_had : {hs : List FormulaTree}
    → Infers doubling_env m_context hs (p_second (p_hyp 3)) (f_eq m_word (t_var 4) (t_bin Add (t_var 3) (t_word 2)))
    → Infers doubling_env m_context hs (p_second (p_hyp 1)) (f_eq m_word (t_var 7) (t_var 4))
    → Proves doubling_env m_context hs two_less (f_eq m_word (t_var 3) (t_bin Sub (t_var 7) (t_word 2)))
unfolding contractum closing rename_mono plain_ty argument_sorts SideCondition formula_of
two_less_had is_sum is_result =
    proves_rewrite_term
    (infers_axiom add_sub refl forms_no_monos refl tt refl
    (fits_term_arg (word_fits 3 refl) (fits_term_arg (literal_fits (omega arith)) fits_no_args)) refl)
    (forms_eq forms_word (word_fits 0 refl) (less_fits 8 refl (omega arith)))
    (u_f_eq (put 0) (u_bin (behind 7) u_word)) refl (u_f_eq (put 0) (u_bin (behind 7) u_word))
    (proves_rewrite_term is_sum (forms_eq forms_word (less_fits 0 refl (omega arith)) (less_fits 8 refl (omega arith)))
    (u_f_eq (u_bin (put 0) u_word) (u_bin (behind 7) u_word)) refl (u_f_eq (u_bin (put 0) u_word) (u_bin (behind 7) u_word))
    (proves_rewrite_term is_result (forms_eq forms_word (less_fits 0 refl (omega arith)) (less_fits 8 refl (omega arith)))
    (u_f_eq (u_bin (put 0) u_word) (u_bin (behind 7) u_word)) refl (u_f_eq (u_bin (put 0) u_word) (u_bin (behind 7) u_word))
    (proves_refl_term refl)))

one_before_had : {hs : List FormulaTree}
    → Infers doubling_env m_context hs (p_hyp 5) (f_emp 1)
    → Infers doubling_env m_context hs (p_hyp 6) (f_and (f_join 5 0 1) (twice 0 (one_less (t_var 9)) (t_var 3)))
    → Proves doubling_env m_context hs one_before (twice 5 (one_less (t_var 9)) (t_var 3))
unfolding rename_formula rename_term rename_terms putting
one_before_had empty known =
    proves_rewrite_heap (heap_is_same heap_here (heap_entry _ 5 refl) (heap_there heap_here) empty (infers_first known))
    (atom_formed heap_here (less_fits 10 refl (omega arith)) (word_fits 4 refl)) refl (proves_inferred (infers_second known) refl)

next_is_twice : {hs : List FormulaTree}
    → Proves doubling_env m_context hs (has_next 9 7 (p_second (p_first (p_hyp 4)))) (below_greatest (one_less (t_var 9)))
    → Proves doubling_env m_context hs two_less (f_eq m_word (t_var 3) (t_bin Sub (t_var 7) (t_word 2)))
    → Proves doubling_env m_context hs one_before (twice 5 (one_less (t_var 9)) (t_var 3))
    → Proves doubling_env m_context hs next_known (twice 5 (t_var 9) (t_var 7))
unfolding contractum closing rename_formula rename_mono lift lifts putting raised_term terms_of plain_ty argument_sorts SideCondition formula_of
next_is_twice below two_less_of before =
    proves_rewrite_term
    (infers_axiom sub_add refl forms_no_monos refl tt refl
    (fits_term_arg (word_fits 9 refl) (fits_term_arg (literal_fits (omega arith)) fits_no_args)) refl)
    (atom_formed (heap_entry _ 6 refl) (word_fits 0 refl) (word_fits 8 refl))
    (u_f_rec (put 0) (u_more_terms (behind 7) u_no_terms)) refl
    (u_f_rec (put 0) (u_more_terms (behind 7) u_no_terms))
    (proves_inferred (infers_app
    (infers_second (infers_app
    (infers_at_next refl refl
    (fits_heap_arg (heap_entry _ 5 refl) (fits_term_arg (less_fits 9 refl (omega arith)) (fits_term_arg (word_fits 7 refl) fits_no_args)))
    (put_term_first (u_f_rec (put 2) (u_more_terms (u_bin (kept 2 1 (λ e. omega (arith, e))) u_word) u_no_terms))
    (put_term_first (u_f_rec (u_bin (kept 1 11 (λ e. omega (arith, e))) u_word) (u_more_terms (u_bin (put 1) u_word) u_no_terms))
    (put_heap_first put_none)))) below))
    (proves_rewrite_term (infers_the (forms_eq forms_word (word_fits 3 refl) (less_fits 7 refl (omega arith))) two_less_of)
    (atom_formed (heap_entry _ 6 refl) (less_fits 10 refl (omega arith)) (word_fits 0 refl))
    (u_f_rec (u_bin (behind 9) u_word) (u_more_terms (put 0) u_no_terms)) refl
    (u_f_rec (u_bin (behind 9) u_word) (u_more_terms (put 0) u_no_terms)) before)) refl)

pub is_twice_proved : Proves doubling_env is_twice_goal.context [] is_twice is_twice_goal.goal
unfolding lift rename_formula rename_term rename_terms rename_mono putting
is_twice_proved =
    proves_block (block_intro (block_open_term (infers_hyp refl)
    (block_end (proves_case (infers_first (infers_hyp refl))
    (zero_is_had (infers_second (infers_first (infers_hyp refl))) (infers_second (infers_hyp refl)) (infers_second (infers_hyp refl)))
    (proves_block (block_open_term (infers_hyp refl) (block_open_heap (infers_first (infers_hyp refl)) (block_open_heap some_heap_is_empty
    (block_open_heap (run_is_used (heap_there heap_here) heap_here (infers_hyp refl) (infers_hyp refl))
    (block_end (next_is_twice
    (next_is_had refl (λ A. refl) (λ A B. refl) (λ A B. infers_second (infers_first (infers_hyp refl))))
    (two_less_had (infers_second (infers_hyp refl)) (infers_second (infers_hyp refl)))
    (one_before_had (infers_hyp refl) (infers_hyp refl)))))))))))))

pub twice_two_proved : Proves doubling_env twice_two_goal.context [] twice_two twice_two_goal.goal
unfolding lift rename_formula rename_term rename_terms rename_mono putting contractum closing
twice_two_proved =
    proves_block (block_intro (block_open_term (infers_hyp refl) (block_open_heap (infers_first (infers_hyp refl))
    (block_open_heap some_heap_is_empty
    (block_open_heap (run_is_used (heap_there heap_here) heap_here (infers_hyp refl) (infers_hyp refl))
    (block_end (proves_rewrite_term
    (infers_the (forms_eq forms_word (word_fits 3 refl) (word_fits 6 refl))
    (proves_rewrite_term (infers_second (infers_hyp refl)) (forms_eq forms_word (word_fits 0 refl) (word_fits 7 refl))
    (u_f_eq (put 0) (behind 6)) refl (u_f_eq (put 0) (behind 6)) (proves_refl_term refl)))
    (atom_formed (heap_entry _ 5 refl) (literal_fits (omega arith)) (word_fits 0 refl))
    (u_f_rec u_word (u_more_terms (put 0) u_no_terms)) refl (u_f_rec u_word (u_more_terms (put 0) u_no_terms))
    (proves_rewrite_heap (heap_is_same heap_here (heap_entry _ 4 refl) (heap_there heap_here) (infers_hyp refl) (infers_first (infers_hyp refl)))
    (atom_formed heap_here (literal_fits (omega arith)) (word_fits 4 refl)) refl
    (proves_inferred (infers_second (infers_hyp refl)) refl)))))))))
