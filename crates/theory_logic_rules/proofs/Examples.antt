-- The derivations of the examples.
use Rattle.std.proofs.Common.{◌≡◌, ℕ, List, [], ◌∷◌, ◌++◌, Some, codes, slice_get, refl, ap, ◌∙◌, sym, arith}
use Rattle.htt_syntax.specs.Trees.{TermTree, FormulaTree, ProofTree, BlockTree, t_var, t_word, f_tt, f_and, f_or, f_imp, a_term, p_hyp, p_first, p_right}
use Rattle.htt_syntax.specs.Trees.{p_case, p_axiom, p_block, d_intro, b_then, b_end}
use Rattle.theory_renaming.specs.Renaming.{rename_formula, rename_mono, lift, lifts}
use Rattle.theory_canonical.specs.Folding.{contractum}
use Rattle.theory_canonical.specs.Skeletons.{sk_o}
use Rattle.theory_canonical.specs.Eta.{expansion}
use Rattle.theory_substitution.specs.Closing.{closing}
use Rattle.theory_substitution.specs.Substitution.{SubTerm, u_f_eq, u_f_rec, u_no_terms, u_more_terms, u_word, u_bin, u_kept, u_reduced, k_var, r_var}
use Rattle.theory_typing.specs.Positions.{plain_formula}
use Rattle.theory_typing.specs.Contexts.{Context, forms_word, heap_here, type_here, type_there}
use Rattle.theory_typing.specs.Typing.{forms_eq, fits_given, gives_var, gives_word}
use Rattle.theory_logic_axioms.specs.Names.{AxiomName, emp_some, lt_zero, text_of}
use Rattle.theory_logic_axioms.specs.Table.{argument_sorts, SideCondition, formula_of}
use Rattle.theory_logic_rules.specs.Sequents.{SameFormula, putting, raised_term, terms_of, put_none, put_term_first, put_heap_first, forms_no_monos}
use Rattle.theory_logic_rules.specs.Sequents.{fits_no_args, fits_heap_arg, fits_term_arg}
use Rattle.theory_logic_rules.specs.Rules.{Infers, Proves, ProvesBlock, infers_hyp, infers_first, infers_second, infers_axiom, infers_at_zero, infers_at_next}
use Rattle.theory_logic_rules.specs.Rules.{infers_at, proves_left, proves_right, proves_give_heap, proves_refl_term, proves_case, proves_rewrite_term}
use Rattle.theory_logic_rules.specs.Rules.{proves_induct, proves_inferred, proves_block, proves_at, block_end, block_intro, block_gen_term, block_open_heap}
use Rattle.theory_logic_rules.specs.Rules.{block_at}
use Rattle.theory_logic_rules.specs.Examples.{env, with_word, is_five, TheStatements, TheForms, TheUnfoldings}

pub kept : {new : TermTree} (x n : ℕ) → (n ≡ x → ⊥) → SubTerm new sk_o x (t_var n) (t_var (closing x n))
kept x n e = u_kept (k_var e)

pub put : {new : TermTree} (x : ℕ) → SubTerm new sk_o x (t_var x) new
put x = u_reduced (r_var refl)

different : f_tt ≡ is_five → ⊥
different e = cc

module _ {g : Context} {hs : List FormulaTree} where
  pub hyp_of : {number : ℕ} {G : FormulaTree} → Proves env g hs (p_hyp number) G → (F : FormulaTree) × (slice_get hs number ≡ Some F) × SameFormula F G
  hyp_of (proves_inferred (infers_hyp {F = F} e) s) = (F, e, s)

  first_of_hyp : {number : ℕ} {G : FormulaTree}
      → Proves env g hs (p_first (p_hyp number)) G
      → (A : FormulaTree) × (B : FormulaTree) × (slice_get hs number ≡ Some (f_and A B)) × SameFormula A G
  first_of_hyp (proves_inferred (infers_first {A = A} {B = B} (infers_hyp e)) s) = (A, B, e, s)

  right_of : {p : ProofTree} {A B : FormulaTree} → Proves env g hs (p_right p) (f_or A B) → Proves env g hs p B
  right_of (proves_right d) = d
  right_of (proves_inferred d s) = elim d [ ]

  block_of : {block : BlockTree} {G : FormulaTree} → Proves env g hs (p_block block) G → ProvesBlock env g hs block G
  block_of (proves_block d) = d
  block_of (proves_inferred d s) = elim d [ ]

  intro_of : {p : ProofTree} {A B : FormulaTree} → ProvesBlock env g hs (b_then d_intro (b_end p)) (f_imp A B) → Proves env g (hs ++ A ∷ []) p B
  intro_of (block_intro (block_end d)) = d

and_left : {A B C D : FormulaTree} → Some (f_and A B) ≡ Some (f_and C D) → A ≡ C
and_left e = cc

or_right : {A B C D : FormulaTree} → Some (f_or A B) ≡ Some (f_or C D) → B ≡ D
or_right e = cc

found : {A B : FormulaTree} → Some A ≡ Some B → A ≡ B
found e = cc

not_first : Proves env with_word [] (p_block (b_then d_intro (b_end (p_first (p_hyp 0))))) (f_imp (f_and f_tt is_five) is_five) → ⊥
unfolding plain_formula
not_first d = let h = first_of_hyp (intro_of (block_of d)) in different (ap plain_formula (and_left h.2) ∙ h.3)

not_crossed : Proves env with_word (f_or f_tt is_five ∷ []) (p_case (p_hyp 0) (p_right (p_hyp 1)) (p_right (p_hyp 1))) (f_or is_five f_tt) → ⊥
unfolding plain_formula
not_crossed (proves_case (infers_hyp e) l r) = let h = hyp_of (right_of r) in different (sym (ap plain_formula (or_right e ∙ found h.1) ∙ h.2))
not_crossed (proves_inferred d s) = elim d [ ]

no_name : (c : AxiomName) → text_of c ≡ codes "lt" → ⊥
no_name emp_some e = cc
no_name _ e = cc

no_lt : (F : FormulaTree) → Infers env with_word [] (p_axiom (codes "lt") [] (a_term (t_word 3) ∷ [])) F → ⊥
no_lt F (infers_axiom c n ms s w k a f) = no_name c n

pub statements : TheStatements
unfolding plain_formula rename_formula rename_mono lift putting formula_of argument_sorts SideCondition
statements = record {
  second_part = proves_block (block_intro (block_end (proves_inferred (infers_second (infers_hyp refl)) refl)));
  not_first_part = not_first;
  with_positions =
      proves_at
      (proves_block (block_at (block_intro (block_end (proves_at (proves_inferred (infers_second (infers_at (infers_hyp refl))) refl))))));
  opened =
      proves_block (block_open_heap (infers_axiom emp_some refl forms_no_monos refl tt refl fits_no_args refl)
      (block_end (proves_give_heap heap_here (proves_inferred (infers_hyp refl) refl))));
  raised_past = proves_block (block_gen_term (block_intro (block_end (proves_inferred (infers_hyp refl) refl))));
}

pub forms : TheForms
unfolding plain_formula rename_formula rename_mono closing lift expansion contractum formula_of argument_sorts SideCondition
forms = record {
  cases = proves_case (infers_hyp refl) (proves_right (proves_inferred (infers_hyp refl) refl)) (proves_left (proves_inferred (infers_hyp refl) refl));
  no_crossing = not_crossed;
  turned =
      proves_rewrite_term (infers_hyp refl)
      (forms_eq forms_word (fits_given tt (gives_var type_here) refl) (fits_given tt (gives_var (type_there type_here)) refl))
      (u_f_eq (put 0) (kept 0 1 (λ e. omega (arith, e)))) refl (u_f_eq (put 0) (kept 0 1 (λ e. omega (arith, e)))) (proves_refl_term refl);
  by_induction =
      proves_induct (forms_eq forms_word (fits_given tt (gives_var type_here) refl) (fits_given tt (gives_var type_here) refl))
      (fits_given tt (gives_var type_here) refl) (u_f_eq (put 0) (put 0)) refl (u_f_eq (put 0) (put 0)) (proves_refl_term refl)
      (u_f_eq (put 0) (put 0)) (proves_refl_term refl);
  of_an_axiom = infers_axiom lt_zero refl forms_no_monos refl tt refl (fits_term_arg (fits_given tt (gives_word (omega arith)) refl) fits_no_args) refl;
  no_axiom = no_lt;
}

pub unfoldings : TheUnfoldings
unfolding contractum closing rename_formula rename_mono lift lifts putting raised_term terms_of
unfoldings = record {
  at_zero =
      infers_at_zero refl refl (fits_heap_arg heap_here (fits_term_arg (fits_given tt (gives_word (omega arith)) refl) fits_no_args))
      (put_term_first (u_f_eq (put 1) u_word) (put_heap_first put_none));
  at_next =
      infers_at_next refl refl (fits_heap_arg heap_here
      (fits_term_arg (fits_given tt (gives_word (omega arith)) refl)
      (fits_term_arg (fits_given tt (gives_word (omega arith)) refl) fits_no_args)))
      (put_term_first (u_f_rec (put 2) (u_more_terms (u_bin (kept 2 1 (λ e. omega (arith, e))) u_word) u_no_terms))
      (put_term_first (u_f_rec u_word (u_more_terms (u_bin (put 1) u_word) u_no_terms)) (put_heap_first put_none)));
}
