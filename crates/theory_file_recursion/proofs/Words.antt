-- Where 0 isn't the word n, n - 1 is below the greatest word.
use Rattle.std.proofs.Common.{◌≡◌, ℕ, suc, List, [], ◌∷◌, ◌++◌, false, Some, slice_get, refl, sym, arith}
use Rattle.htt_syntax.specs.Trees.{FormulaTree, ProofTree, m_word, m_bool, y_mono, t_var, t_word, t_bool, t_eq, f_eq}
use Rattle.theory_renaming.specs.Renaming.{rename_mono, rename_ty}
use Rattle.theory_canonical.specs.Folding.{contractum}
use Rattle.theory_canonical.specs.Eta.{expansion}
use Rattle.theory_substitution.specs.Closing.{closing}
use Rattle.theory_substitution.specs.Substitution.{k_var, u_kept, u_reduced, u_word, u_bool, u_bin, u_f_eq, r_var}
use Rattle.theory_typing.specs.Positions.{plain_ty}
use Rattle.theory_typing.specs.Contexts.{Context, Environment, en_term, forms_word, forms_bool, compares_word, type_here}
use Rattle.theory_typing.specs.Typing.{Fits, in_formula, forms_eq, gives_var, gives_bool, gives_bin, fits_given}
use Rattle.theory_logic_axioms.specs.Names.{sub_add, lt_total, lt_step, eq_no, bool_ne}
use Rattle.theory_logic_axioms.specs.Table.{argument_sorts, SideCondition, formula_of}
use Rattle.theory_logic_rules.specs.Sequents.{below_greatest, forms_no_monos, forms_more_monos, fits_no_args, fits_term_arg}
use Rattle.theory_logic_rules.specs.Rules.{Infers, Proves, infers_hyp, infers_app, infers_axiom, proves_case, proves_absurd, proves_refl_term}
use Rattle.theory_logic_rules.specs.Rules.{proves_rewrite_term, proves_inferred}
use Rattle.theory_file_calls.proofs.Runs.{no_zero}
use Rattle.theory_file_calls.proofs.Entries.{word_fits, literal_fits}
use Rattle.theory_file_recursion.specs.Proofs.{one_less, has_next}

less : {env : Environment} {g : Context} {n : ℕ}
    → slice_get g n ≡ Some (en_term (y_mono m_word))
    → Fits env in_formula g (one_less (t_var n)) (y_mono m_word) (one_less (t_var n)) []
unfolding contractum
less {n = n} entry = fits_given tt (gives_bin (word_fits n entry) (literal_fits (omega arith))) refl

module _ {env : Environment} {g : Context} {n count : ℕ} {z : ProofTree} {hs : List FormulaTree} where
  pub next_is_had : slice_get g n ≡ Some (en_term (y_mono m_word))
      → ((A : FormulaTree) → slice_get (hs ++ A ∷ []) count ≡ Some A)
      → ((A B : FormulaTree) → slice_get ((hs ++ A ∷ []) ++ B ∷ []) (suc count) ≡ Some B)
      → ((A B : FormulaTree) → Infers env g ((hs ++ A ∷ []) ++ B ∷ []) z (f_eq m_bool (t_eq m_word (t_word 0) (t_var n)) (t_bool false)))
      → Proves env g hs (has_next n count z) (below_greatest (one_less (t_var n)))
  unfolding contractum closing rename_mono rename_ty expansion plain_ty argument_sorts SideCondition formula_of
  next_is_had entry first second differs =
      proves_case
      (infers_axiom lt_total refl forms_no_monos refl tt refl (fits_term_arg (less entry) (fits_term_arg (literal_fits (omega arith)) fits_no_args)) refl)
      (proves_inferred (infers_hyp (first _)) refl)
      (proves_case (infers_hyp (first _))
      (proves_absurd (proves_inferred (infers_app (infers_axiom bool_ne refl forms_no_monos refl tt refl fits_no_args refl)
      (proves_rewrite_term
      (infers_app
      (infers_axiom eq_no refl (forms_more_monos forms_word forms_no_monos) refl compares_word refl
      (fits_term_arg (literal_fits (omega arith)) (fits_term_arg (word_fits n entry) fits_no_args)) refl)
      (proves_rewrite_term (infers_hyp (second _ _))
      (forms_eq forms_word (fits_given tt (gives_bin (word_fits 0 refl) (literal_fits (omega arith))) refl) (word_fits (suc n) entry))
      (u_f_eq (u_bin (u_reduced (r_var refl)) u_word) (u_kept (k_var (λ q. no_zero (sym q))))) refl
      (u_f_eq (u_bin (u_reduced (r_var refl)) u_word) (u_kept (k_var (λ q. no_zero (sym q)))))
      (proves_inferred
      (infers_axiom sub_add refl forms_no_monos refl tt refl (fits_term_arg (word_fits n entry) (fits_term_arg (literal_fits (omega arith)) fits_no_args)) refl)
      refl)))
      (forms_eq forms_bool (fits_given tt (gives_var type_here) refl) (fits_given tt gives_bool refl))
      (u_f_eq (u_reduced (r_var refl)) u_bool) refl (u_f_eq (u_reduced (r_var refl)) u_bool)
      (proves_inferred (differs _ _) refl))) refl))
      (proves_absurd (proves_inferred (infers_app (infers_axiom bool_ne refl forms_no_monos refl tt refl fits_no_args refl)
      (proves_rewrite_term
      (infers_app
      (infers_axiom lt_step refl forms_no_monos refl tt refl (fits_term_arg (literal_fits (omega arith)) (fits_term_arg (less entry) fits_no_args)) refl)
      (proves_inferred (infers_hyp (second _ _)) refl))
      (forms_eq forms_bool (fits_given tt (gives_var type_here) refl) (fits_given tt gives_bool refl))
      (u_f_eq (u_reduced (r_var refl)) u_bool) refl (u_f_eq (u_reduced (r_var refl)) u_bool)
      (proves_refl_term refl))) refl)))
