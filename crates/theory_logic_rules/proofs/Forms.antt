-- The derivations of the examples with one form of proof each.
use Rattle.std.proofs.Common.{◌≡◌, ℕ, List, [], ◌∷◌, Some, slice_get, refl, ap, ◌∙◌, sym, arith}
use Rattle.htt_syntax.specs.declared.mono.Op.TheVariants.{Add}
use Rattle.htt_syntax.specs.Trees.{FormulaTree, BlockTree, m_word, y_mono, t_var, t_word, t_bin, f_tt, f_eq, f_imp, f_ex_t, a_heap, p_hyp, p_app, p_refl}
use Rattle.htt_syntax.specs.Trees.{p_give, p_block}
use Rattle.theory_renaming.specs.Renaming.{rename_formula, rename_mono, lift}
use Rattle.theory_canonical.specs.Folding.{contractum}
use Rattle.theory_canonical.specs.Eta.{expansion}
use Rattle.theory_substitution.specs.Closing.{closing}
use Rattle.theory_substitution.specs.Substitution.{u_f_tt, u_f_eq, u_f_or, u_word, u_bool}
use Rattle.theory_typing.specs.Positions.{plain_formula, plain_term}
use Rattle.theory_typing.specs.Contexts.{Context, forms_word, forms_bool, heap_here, heap_there, type_here}
use Rattle.theory_typing.specs.Typing.{FormsFormula, Fits, in_formula, forms_tt, forms_eq, forms_or, forms_emp, fits_given, gives_var, gives_word, gives_bool}
use Rattle.theory_typing.specs.Typing.{gives_bin}
use Rattle.theory_logic_rules.specs.Sequents.{putting}
use Rattle.theory_logic_rules.specs.Rules.{Infers, Proves, infers_hyp, infers_app, infers_inst_term, infers_inst_heap, infers_lem, infers_the, proves_both}
use Rattle.theory_logic_rules.specs.Rules.{proves_left, proves_right, proves_give_term, proves_trivial, proves_refl_term, proves_refl_heap, proves_absurd}
use Rattle.theory_logic_rules.specs.Rules.{proves_rewrite_heap, proves_induct, proves_split, proves_inferred, proves_block, block_end, block_gen_heap}
use Rattle.theory_logic_rules.specs.Rules.{block_have, block_open_term}
use Rattle.theory_logic_rules.specs.Examples.{env, with_word, with_heaps, is_five, five_is_five, TheInferences, TheGoals}
use Rattle.theory_logic_rules.proofs.Examples.{put, kept, hyp_of}

pub by_hyp : {g : Context} {hs : List FormulaTree} {number : ℕ} {F : FormulaTree} → slice_get hs number ≡ Some F → Proves env g hs (p_hyp number) F
by_hyp e = proves_inferred (infers_hyp e) refl

sum_fits : {g : Context} → Fits env in_formula g (t_bin Add (t_word 2) (t_word 3)) (y_mono m_word) (t_word 5) []
unfolding contractum
sum_fits = fits_given tt (gives_bin (fits_given tt (gives_word (omega arith)) refl) (fits_given tt (gives_word (omega arith)) refl)) refl

sum_formed : FormsFormula env with_word (f_eq m_word (t_bin Add (t_word 2) (t_word 3)) (t_word 5)) five_is_five
sum_formed = forms_eq forms_word sum_fits (fits_given tt (gives_word (omega arith)) refl)

five_formed : FormsFormula env with_word is_five is_five
unfolding expansion rename_formula rename_mono
five_formed = forms_eq forms_word (fits_given tt (gives_var type_here) refl) (fits_given tt (gives_word (omega arith)) refl)

imp_left : {A B C D : FormulaTree} → Some (f_imp A B) ≡ Some (f_imp C D) → A ≡ C
imp_left e = cc

found : {A B : FormulaTree} → Some A ≡ Some B → A ≡ B
found e = cc

different : f_imp is_five f_tt ≡ is_five → ⊥
different e = cc

other_word : is_five ≡ f_eq m_word (t_word 5) (t_word 5) → ⊥
other_word e = cc

not_applied : (F : FormulaTree) → Infers env with_word (f_imp is_five f_tt ∷ is_five ∷ []) (p_app (p_hyp 0) (p_hyp 0)) F → ⊥
unfolding plain_formula
not_applied F (infers_app (infers_hyp e) d) = let h = hyp_of d in different (ap plain_formula (found h.1) ∙ h.2 ∙ sym (ap plain_formula (imp_left e)))

no_hypothesis : (F : FormulaTree) → Infers env with_word (is_five ∷ []) (p_hyp 1) F → ⊥
no_hypothesis F (infers_hyp e) = cc

no_block : (block : BlockTree) (F : FormulaTree) → Infers env with_word (is_five ∷ []) (p_block block) F → ⊥
no_block block F d = elim d [ ]

no_heap_given : Proves env with_heaps [] (p_give (a_heap 0) p_refl) (f_ex_t m_word (f_eq m_word (t_var 0) (t_var 0))) → ⊥
no_heap_given (proves_inferred d s) = elim d [ ]

other_terms : t_var 0 ≡ t_word 5 → ⊥
other_terms e = cc

no_reflexivity : Proves env with_word [] p_refl is_five → ⊥
unfolding plain_term
no_reflexivity (proves_refl_term e) = other_terms e
no_reflexivity (proves_inferred d s) = elim d [ ]

pub inferences : TheInferences
unfolding plain_formula rename_formula rename_mono lift closing putting
inferences = record {
  applied = infers_app (infers_hyp refl) (by_hyp refl);
  not_applied = not_applied;
  at_a_term = infers_inst_term (infers_hyp refl) (fits_given tt (gives_word (omega arith)) refl) (u_f_eq (put 0) (kept 0 1 (λ e. omega (arith, e))));
  at_a_heap = infers_inst_heap (infers_hyp refl) (heap_there heap_here);
  excluded_middle = infers_lem five_formed;
  stated = infers_the sum_formed (proves_refl_term refl);
  no_hypothesis = no_hypothesis;
  no_block = no_block;
}

pub goals : TheGoals
unfolding plain_formula rename_formula rename_mono lift closing putting expansion
goals = record {
  two_parts = proves_both proves_trivial (proves_refl_term refl);
  given = proves_give_term sum_fits (u_f_eq (put 0) u_word) (proves_refl_term refl);
  no_heap_given = no_heap_given;
  from_falsity = proves_absurd (by_hyp refl);
  no_reflexivity = no_reflexivity;
  heap_exchanged = proves_rewrite_heap (infers_hyp refl) (forms_emp heap_here) refl (by_hyp refl);
  by_cases =
      proves_split (forms_or (forms_eq forms_bool (fits_given tt (gives_var type_here) refl) (fits_given tt gives_bool refl))
      (forms_eq forms_bool (fits_given tt (gives_var type_here) refl) (fits_given tt gives_bool refl)))
      (fits_given tt (gives_var type_here) refl) (u_f_or (u_f_eq (put 0) u_bool) (u_f_eq (put 0) u_bool)) refl
      (u_f_or (u_f_eq (put 0) u_bool) (u_f_eq (put 0) u_bool)) (proves_left (proves_refl_term refl))
      (u_f_or (u_f_eq (put 0) u_bool) (u_f_eq (put 0) u_bool)) (proves_right (proves_refl_term refl));
  induction_hypothesis = proves_induct forms_tt (fits_given tt (gives_var type_here) refl) u_f_tt refl u_f_tt proves_trivial u_f_tt (by_hyp refl);
  had = proves_block (block_have sum_formed (proves_refl_term refl) (block_end (by_hyp refl)));
  for_each_heap = proves_block (block_gen_heap (block_end proves_refl_heap));
  opened_word =
      proves_block (block_open_term (infers_hyp refl)
      (block_end (proves_give_term (fits_given tt (gives_var type_here) refl) (u_f_eq (put 0) u_word) (by_hyp refl))));
}
