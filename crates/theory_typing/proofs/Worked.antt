-- Small derivations, and phrases that have none.
use Rattle.std.proofs.Common.{List, [], refl, arith}
use Rattle.htt_syntax.specs.Trees.{TyTree, TermTree, CompTree, m_word, m_pair, t_lam, t_pair, t_var, t_word, t_do, t_eq}
use Rattle.theory_renaming.specs.Renaming.{lift, lifts, rename_mono, rename_term}
use Rattle.theory_states.specs.States.{past, at_heap, start, some_values, within, ending, finish, last}
use Rattle.theory_canonical.specs.Skeletons.{skeleton}
use Rattle.theory_canonical.specs.Folding.{contractum}
use Rattle.theory_canonical.specs.Eta.{expansion}
use Rattle.theory_substitution.specs.Closing.{closing}
use Rattle.theory_substitution.specs.Substitution.{u_y_mono, u_bin, u_reduced, u_word, r_var}
use Rattle.theory_typing.specs.Positions.{plain_ty}
use Rattle.theory_typing.specs.Contexts.{Obligation, type_here, forms_word, IsComparable}
use Rattle.theory_typing.specs.Typing.{in_program, in_formula, Gives, Fits, forms_mono, forms_fun, forms_formula_at, forms_ex_t, forms_eq, gives_var}
use Rattle.theory_typing.specs.Typing.{gives_word, gives_bool, gives_app, gives_ann, gives_bin, gives_eq, fits_lam, fits_given, fits_at, fits_body, runs_ret}
use Rattle.theory_typing.specs.Typing.{assembled_end}
use Rattle.theory_typing.specs.Laws.{WorkedTyping, none, word_to_word}

no_comparison_of_pairs : IsComparable (m_pair m_word m_word) → ⊥
no_comparison_of_pairs c = elim c [ ]

no_synthesis_of_functions : (A : TyTree) (N : TermTree) (o : List Obligation) → Gives none in_program [] (t_lam (t_var 0)) A N o → ⊥
no_synthesis_of_functions A N o d = elim d [ ]

no_pair_as_function : (N : TermTree) (o : List Obligation) → Fits none in_program [] (t_pair (t_word 1) (t_word 2)) word_to_word N o → ⊥
no_pair_as_function N o (fits_given i d e) = i

no_do_in_formula : (E : CompTree) (A : TyTree) (N : TermTree) (o : List Obligation) → Fits none in_formula [] (t_do E) A N o → ⊥
no_do_in_formula E A N o (fits_given i d e) = i

no_equation_of_pairs : (M N R : TermTree) (A : TyTree) (o : List Obligation) → Gives none in_program [] (t_eq (m_pair m_word m_word) M N) A R o → ⊥
no_equation_of_pairs M N R A o (gives_eq f c a b) = no_comparison_of_pairs c

pub worked : WorkedTyping
unfolding lift lifts rename_mono rename_term past at_heap start some_values within ending finish last skeleton contractum expansion closing plain_ty
worked = record {
  sum = fits_body (runs_ret (fits_given tt (gives_bin (fits_given tt (gives_word (omega arith)) refl) (fits_given tt (gives_word (omega arith)) refl)) refl))
      assembled_end;
  placed = fits_at (fits_given tt gives_bool refl);
  successor = fits_lam (fits_given tt (gives_bin (fits_given tt (gives_var type_here) refl) (fits_given tt (gives_word (omega arith)) refl)) refl);
  expanded = gives_var type_here;
  applied =
      gives_app (gives_ann (forms_fun (forms_mono forms_word) (forms_mono forms_word))
      (fits_lam
      (fits_given tt (gives_bin (fits_given tt (gives_var type_here) refl) (fits_given tt (gives_word (omega arith)) refl)) refl)))
      (fits_given tt (gives_word (omega arith)) refl) u_y_mono (u_bin (u_reduced (r_var refl)) u_word);
  compared = gives_bin (fits_given tt (gives_word (omega arith)) refl) (fits_given tt (gives_word (omega arith)) refl);
  formed = forms_formula_at (forms_ex_t forms_word (forms_eq forms_word (fits_given tt (gives_var type_here) refl) (fits_given tt (gives_var type_here) refl)));
  no_synthesis = no_synthesis_of_functions;
  no_function = no_pair_as_function;
  no_do = no_do_in_formula;
  no_comparison = no_equation_of_pairs;
}
