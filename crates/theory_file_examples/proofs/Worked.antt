-- The worked files are derived.
use Rattle.std.proofs.Common.{◌≡◌, ℕ, zero, suc, [], ◌∷◌, Some, None, slice_get, refl, sym, subst, arith}
use Rattle.std.proofs.lemmas.Option.{same_Some}
use Rattle.htt_syntax.specs.Trees.{FormulaTree, CompTree, m_word, y_mono, y_fun, triple, t_var, t_val, t_app, t_do, t_word, c_ret, c_step, s_run, f_tt, f_ff}
use Rattle.htt_syntax.specs.Trees.{f_and, f_imp, f_same, f_eq, f_ex_t, p_hyp, p_first, p_block, d_intro, b_then, b_end}
use Rattle.theory_renaming.specs.Renaming.{lift, lifts, rename_mono, rename_ty, rename_triple, rename_term, rename_formula, rename_comp}
use Rattle.theory_states.specs.States.{past, at_heap, start, some_values, within, ending, finish, last}
use Rattle.theory_canonical.specs.Skeletons.{sk_o, sk_c, skeleton}
use Rattle.theory_canonical.specs.Eta.{expansion}
use Rattle.theory_substitution.specs.Closing.{closing}
use Rattle.theory_substitution.specs.Substitution.{SubTerm, SubFormula, k_var, k_val, k_app, u_kept, u_do, u_y_mono, u_spliced, u_step, u_run, r_var, b_step}
use Rattle.theory_substitution.specs.Substitution.{b_ret, u_ret, u_reduced, u_f_eq}
use Rattle.theory_typing.specs.Positions.{plain_ty, plain_term, plain_formula}
use Rattle.theory_typing.specs.Contexts.{Context, Obligation, en_heap, en_term, type_here, type_there, forms_word}
use Rattle.theory_typing.specs.Laws.{none, sum_goal}
use Rattle.theory_typing.specs.Typing.{in_formula, FormsFormula, Gives, forms_mono, forms_fun, forms_hoare, forms_triple, forms_tt, forms_ff, forms_eq}
use Rattle.theory_typing.specs.Typing.{forms_ex_t, gives_var, gives_val, gives_def, gives_word, gives_app, fits_given, fits_lam, fits_do, fits_body, runs_ret}
use Rattle.theory_typing.specs.Typing.{assembled_end}
use Rattle.theory_items.specs.Items.{derives_def, derives_val}
use Rattle.theory_items.proofs.Worked as items
use Rattle.theory_logic_rules.specs.Rules.{Proves, infers_hyp, infers_first, infers_second, proves_give_term, proves_trivial, proves_refl_term, proves_inferred}
use Rattle.theory_logic_rules.specs.Rules.{proves_block, block_end, block_intro, block_have}
use Rattle.theory_file_derived.specs.Derived.{ProofItem, DerivesAll, derives_none, derives_more, owed_at, given_for, IsProvedOnce, IsDerived}
use Rattle.theory_file_sound.proofs.Sound.{derived_sound}
use Rattle.theory_file_examples.specs.Examples.{with_five, five_used, five_env, never, circle, with_later, circle_proofs, circle_env, WorkedFiles}

no_element : {A : Type 0} {x : A} → None ≡ Some x → ⊥
no_element q = cc

five_derives : DerivesAll none with_five five_env ((sum_goal ∷ []) ∷ [] ∷ [])
unfolding plain_ty
five_derives = derives_more items.worked.val (derives_more (derives_def (forms_mono forms_word) (fits_given tt (gives_word (omega arith)) refl)) derives_none)

five_proved : (item number : ℕ) (o : Obligation)
    → owed_at ((sum_goal ∷ []) ∷ [] ∷ []) (Some item) number ≡ Some o
    → IsProvedOnce five_env five_used item number o
unfolding given_for plain_ty plain_term plain_formula
five_proved zero zero o q = absurd (no_element q)
five_proved zero (suc zero) o q =
    subst (IsProvedOnce five_env five_used 0 1) (same_Some sum_goal o q) (record {
      proof = _;
      only = refl;
      proves =
          proves_block (block_intro
          (block_have (forms_eq forms_word (fits_given tt (gives_def refl) refl) (fits_given tt (gives_word (omega arith)) refl))
          (proves_refl_term refl) (block_end (proves_inferred (infers_second (infers_hyp refl)) refl))));
    })
five_proved zero (suc (suc n)) o q = absurd (no_element q)
five_proved (suc zero) zero o q = absurd (no_element q)
five_proved (suc zero) (suc n) o q = absurd (no_element q)
five_proved (suc (suc item)) number o q = absurd (no_element q)

five_aimed : (n : ℕ) (proof : ProofItem)
    → slice_get five_used n ≡ Some proof
    → (o : Obligation) × (owed_at ((sum_goal ∷ []) ∷ [] ∷ []) proof.item proof.number ≡ Some o)
five_aimed zero proof q =
    subst (λ (p : ProofItem). (o : Obligation) × (owed_at ((sum_goal ∷ []) ∷ [] ∷ []) p.item p.number ≡ Some o)) (same_Some _ proof q)
    (sum_goal, refl)
five_aimed (suc n) proof q = absurd (no_element q)

five_derived : IsDerived with_five five_used five_env
five_derived = record { rows = (sum_goal ∷ []) ∷ [] ∷ []; derives = five_derives; proved = five_proved; aimed = five_aimed }

-- a function variable applied to the later value
f_goal : Obligation
f_goal = record {
  context = en_heap ∷ en_heap ∷ en_term (y_mono m_word) ∷ en_term (y_fun never (y_mono m_word)) ∷ [];
  goal = f_imp (f_and (f_and f_tt (f_same 0 1)) (f_eq m_word (t_var 2) (t_word 0))) f_tt;
}

g_goal : Obligation
g_goal = record {
  context = en_heap ∷ en_heap ∷ en_term (y_mono m_word) ∷ [];
  goal = f_imp (f_and (f_and f_ff (f_same 0 1)) (f_eq m_word (t_var 2) (t_word 0))) f_ff;
}

circle_derives : DerivesAll none circle circle_env ((f_goal ∷ []) ∷ (g_goal ∷ []) ∷ [])
unfolding f_goal g_goal plain_ty lift lifts rename_mono rename_term rename_formula past at_heap start some_values within ending finish last
circle_derives =
    derives_more (derives_val
    (forms_fun (forms_fun (forms_hoare (forms_triple forms_ff forms_word forms_ff)) (forms_mono forms_word))
    (forms_hoare (forms_triple forms_tt forms_word forms_tt))) tt
    (fits_lam (fits_do (fits_body (runs_ret (fits_given tt (gives_word (omega arith)) refl)) assembled_end))))
    (derives_more (derives_val (forms_hoare (forms_triple forms_ff forms_word forms_ff)) tt
    (fits_do (fits_body (runs_ret (fits_given tt (gives_word (omega arith)) refl)) assembled_end))) derives_none)

-- g as it is run
run_g : CompTree
run_g = c_step (s_run (t_val 1) (Some m_word)) (c_ret (t_var 0))

no_zero : {n : ℕ} → zero ≡ suc n → ⊥
no_zero q = omega (arith, q)

k_context : Context
k_context = f_goal.context

-- the argument, put for the variable c of the expanded function variable
argument_put : SubTerm (t_do run_g) sk_c zero (t_do (c_step (s_run (t_var 0) (Some m_word)) (c_ret (t_var 0)))) (t_do run_g)
unfolding run_g lift rename_comp closing
argument_put = u_do (u_spliced (r_var refl) (u_ret (u_kept (k_var (λ q. no_zero q)))) (b_step (b_ret (u_ret (u_reduced (r_var refl))))))

-- k g, under one more variable and without
applied : (n : ℕ)
    → SubTerm (t_do run_g) sk_c zero (t_app (t_var (suc n)) (t_do (c_step (s_run (t_var 0) (Some m_word)) (c_ret (t_var 0)))))
    (t_app (t_var n) (t_do run_g))
unfolding closing
applied n = u_kept (k_app (k_var (λ q. no_zero (sym q))) argument_put)

k_of_g : Gives circle_env in_formula k_context (t_app (t_var 3) (t_val 1)) (y_mono m_word) (t_app (t_var 3) (t_do run_g)) []
unfolding k_context f_goal run_g rename_ty rename_triple rename_mono rename_term rename_formula lift expansion plain_ty skeleton closing
k_of_g = gives_app (gives_var (type_there (type_there (type_there type_here)))) (fits_given tt (gives_val refl) refl) u_y_mono (applied 3)

k_of_g_raised : Gives circle_env in_formula (en_term (y_mono m_word) ∷ k_context) (t_app (t_var 4) (t_val 1)) (y_mono m_word) (t_app (t_var 4) (t_do run_g)) []
unfolding k_context f_goal run_g rename_ty rename_triple rename_mono rename_term rename_formula lift expansion plain_ty skeleton closing
k_of_g_raised = gives_app (gives_var (type_there (type_there (type_there (type_there type_here))))) (fits_given tt (gives_val refl) refl) u_y_mono (applied 4)

some_value : FormulaTree
some_value = f_ex_t m_word (f_eq m_word (t_var 0) (t_app (t_var 4) (t_do run_g)))

formed : FormsFormula circle_env k_context (f_ex_t m_word (f_eq m_word (t_var 0) (t_app (t_var 4) (t_val 1)))) some_value
unfolding some_value plain_ty rename_ty rename_mono expansion
formed = forms_ex_t forms_word (forms_eq forms_word (fits_given tt (gives_var type_here) refl) (fits_given tt k_of_g_raised refl))

put_in :
    SubFormula (t_app (t_var 3) (t_do run_g)) sk_o zero (f_eq m_word (t_var 0) (t_app (t_var 4) (t_do run_g)))
    (f_eq m_word (t_app (t_var 3) (t_do run_g)) (t_app (t_var 3) (t_do run_g)))
unfolding run_g rename_mono closing lift rename_term rename_comp
put_in = u_f_eq (u_reduced (r_var refl)) (u_kept (k_app (k_var (λ q. no_zero (sym q))) (u_do (u_step (u_run k_val) (u_ret (u_kept (k_var (λ q. no_zero q))))))))

f_proved : Proves circle_env k_context [] with_later f_goal.goal
unfolding some_value f_goal plain_ty plain_term
f_proved =
    proves_block (block_intro
    (block_have formed (proves_give_term (fits_given tt k_of_g refl) put_in (proves_refl_term refl)) (block_end proves_trivial)))

g_proved : Proves circle_env g_goal.context [] (p_block (b_then d_intro (b_end (p_first (p_first (p_hyp 0)))))) g_goal.goal
unfolding g_goal plain_formula
g_proved = proves_block (block_intro (block_end (proves_inferred (infers_first (infers_first (infers_hyp refl))) refl)))

circle_proved : (item number : ℕ) (o : Obligation)
    → owed_at ((f_goal ∷ []) ∷ (g_goal ∷ []) ∷ []) (Some item) number ≡ Some o
    → IsProvedOnce circle_env circle_proofs item number o
unfolding given_for f_goal k_context
circle_proved zero zero o q = absurd (no_element q)
circle_proved zero (suc zero) o q =
    subst (IsProvedOnce circle_env circle_proofs 0 1) (same_Some f_goal o q) (record { proof = with_later; only = refl; proves = f_proved })
circle_proved zero (suc (suc n)) o q = absurd (no_element q)
circle_proved (suc zero) zero o q = absurd (no_element q)
circle_proved (suc zero) (suc zero) o q =
    subst (IsProvedOnce circle_env circle_proofs 1 1) (same_Some g_goal o q)
    (record { proof = p_block (b_then d_intro (b_end (p_first (p_first (p_hyp 0))))); only = refl; proves = g_proved })
circle_proved (suc zero) (suc (suc n)) o q = absurd (no_element q)
circle_proved (suc (suc item)) number o q = absurd (no_element q)

circle_aimed : (n : ℕ) (proof : ProofItem)
    → slice_get circle_proofs n ≡ Some proof
    → (o : Obligation) × (owed_at ((f_goal ∷ []) ∷ (g_goal ∷ []) ∷ []) proof.item proof.number ≡ Some o)
circle_aimed zero proof q =
    subst (λ (p : ProofItem). (o : Obligation) × (owed_at ((f_goal ∷ []) ∷ (g_goal ∷ []) ∷ []) p.item p.number ≡ Some o))
    (same_Some _ proof q) (f_goal, refl)
circle_aimed (suc zero) proof q =
    subst (λ (p : ProofItem). (o : Obligation) × (owed_at ((f_goal ∷ []) ∷ (g_goal ∷ []) ∷ []) p.item p.number ≡ Some o))
    (same_Some _ proof q) (g_goal, refl)
circle_aimed (suc (suc n)) proof q = absurd (no_element q)

pub worked : WorkedFiles
worked = record {
  definition_behind = five_derived;
  five_is_met = λ fuel cs words h k.
      derived_sound.triples with_five five_used five_env five_derived 0 (triple f_tt m_word (f_eq m_word (t_var 2) (t_word 5))) refl fuel cs
      words h k;
  later_value = record { rows = (f_goal ∷ []) ∷ (g_goal ∷ []) ∷ []; derives = circle_derives; proved = circle_proved; aimed = circle_aimed };
}
