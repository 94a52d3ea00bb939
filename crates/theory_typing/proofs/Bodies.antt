-- The derivations of the worked bodies and items.
use Rattle.std.proofs.Common.{◌≡◌, List, [], ◌∷◌, true, Option, Some, None, refl, ap, arith}
use Rattle.htt_syntax.specs.Trees.{MonoTree, TyTree, TermTree, CompTree, FormulaTree, TermTrees, m_word, y_mono, triple, t_var, t_def, t_inst, t_fix, t_word}
use Rattle.htt_syntax.specs.Trees.{t_bool, c_ret, c_step, s_run, f_tt, f_emp, f_rec, no_terms}
use Rattle.theory_renaming.specs.Renaming.{lift, lifts, rename_mono, rename_term}
use Rattle.theory_truth.specs.Predicates.{RecTree}
use Rattle.theory_states.specs.States.{past, at_heaps, at_heap, at_result, start, owes_block, owed, after, branch, some_values, within, ending, finish, merge}
use Rattle.theory_states.specs.States.{last}
use Rattle.theory_canonical.specs.Skeletons.{skeleton}
use Rattle.theory_canonical.specs.Folding.{contractum}
use Rattle.theory_canonical.specs.Eta.{expansion}
use Rattle.theory_substitution.specs.Closing.{closing}
use Rattle.theory_substitution.specs.Monotypes.{fill_term, fill_mono, next_filling, put_mono}
use Rattle.theory_substitution.specs.Substitution.{u_y_mono, u_bin, u_reduced, u_word, u_ret, r_var, b_ret, b_step}
use Rattle.theory_typing.specs.Positions.{plain_ty}
use Rattle.theory_typing.specs.Contexts.{count_of, Obligation, en_term, en_heap, type_here, type_there, heap_here, forms_word}
use Rattle.theory_typing.specs.Typing.{in_formula, FormsFormula, Gives, FitsBody, FitsAll, forms_mono, forms_tt, forms_emp, forms_eq, forms_rec, forms_triple}
use Rattle.theory_typing.specs.Typing.{fits_none, fits_more, gives_var, gives_val, gives_def, gives_word, gives_bool, gives_app, gives_inst, gives_bin}
use Rattle.theory_typing.specs.Typing.{gives_fix, fits_given, header_param, header_body, fix_param, fix_body, fits_body, runs_ret, runs_step, moves_alloc}
use Rattle.theory_typing.specs.Typing.{moves_get, moves_free, moves_run, moves_if, moves_claim, joined_step, joined_comp, joined_unit}
use Rattle.theory_typing.specs.Typing.{assembled_end, assembled_part}
use Rattle.theory_typing.specs.Laws.{none}
use Rattle.theory_typing.specs.Examples.{file, returns_own, TheItems, TheBodies}

no_instance_of_a_word : (A : TyTree) (N : TermTree) (o : List Obligation) → Gives file in_formula [] (t_inst (t_word 3) m_word) A N o → ⊥
no_instance_of_a_word A N o (gives_inst d m) = elim d [ ]

no_second_definition : (A : TyTree) (N : TermTree) (o : List Obligation) → Gives file in_formula [] (t_def 1) A N o → ⊥
no_second_definition A N o (gives_def e) = cc

-- one parameter has no empty list of arguments
no_arguments : {ms : List MonoTree} {r : TermTrees} → m_word ∷ [] ≡ ms → FitsAll file (en_heap ∷ []) no_terms ms r → ⊥
no_arguments e fits_none = cc

abbrev params_of : Option RecTree → List MonoTree
params_of (Some r) = r.params
params_of None = []

lacks_an_argument : (F : FormulaTree) → FormsFormula file (en_heap ∷ []) (f_rec 0 0 (t_word 5) no_terms) F → ⊥
lacks_an_argument F (forms_rec e h n l a) = no_arguments (ap params_of e) a

no_second_predicate : (F : FormulaTree) → FormsFormula file (en_heap ∷ []) (f_rec 1 0 (t_word 5) no_terms) F → ⊥
no_second_predicate F (forms_rec e h n l a) = cc

no_heap_entry : (F : FormulaTree) → FormsFormula file (en_term (y_mono m_word) ∷ []) (f_emp 0) F → ⊥
no_heap_entry F (forms_emp h) = elim h [ ]

pub items : TheItems
unfolding lift rename_mono rename_term skeleton contractum expansion closing fill_term fill_mono next_filling put_mono plain_ty count_of
items = record {
  value = gives_val refl;
  definition = gives_def refl;
  instance = gives_inst (gives_def refl) forms_word;
  applied = gives_app (gives_inst (gives_def refl) forms_word) (fits_given tt (gives_word (omega arith)) refl) u_y_mono (u_reduced (r_var refl));
  no_instance = no_instance_of_a_word;
  no_definition = no_second_definition;
  atom =
      forms_rec refl heap_here
      (fits_given tt (gives_bin (fits_given tt (gives_word (omega arith)) refl) (fits_given tt (gives_word (omega arith)) refl)) refl) refl
      (fits_more (fits_given tt (gives_word (omega arith)) refl) fits_none);
  atom_without_argument = lacks_an_argument;
  no_predicate = no_second_predicate;
  no_heap = no_heap_entry;
}

no_recursion : (A : TyTree) (N : TermTree) (o : List Obligation) → Gives none in_formula [] (t_fix 9 returns_own) A N o → ⊥
no_recursion A N o d = elim d [ ]

no_truth : (E : CompTree) (o : List Obligation) → FitsBody none [] (c_ret (t_bool true)) (triple f_tt m_word f_tt) E o → ⊥
unfolding plain_ty
no_truth E o (fits_body (runs_ret (fits_given i gives_bool e)) a) = cc

no_run : (E : CompTree) (o : List Obligation) → FitsBody none [] (c_step (s_run (t_word 3) None) (c_ret (t_var 0))) (triple f_tt m_word f_tt) E o → ⊥
no_run E o (fits_body (runs_step (moves_run d) r) a) = elim d [ ]

pub bodies : TheBodies
unfolding lift lifts rename_mono rename_term past at_heaps at_heap at_result start owes_block owed after branch some_values within ending
    finish merge last skeleton contractum expansion closing plain_ty
bodies = record {
  cell_used =
      fits_body (runs_step (moves_alloc forms_word (fits_given tt (gives_word (omega arith)) refl))
      (runs_step (moves_get forms_word (fits_given tt (gives_var type_here) refl))
      (runs_step (moves_free forms_word (fits_given tt (gives_var (type_there type_here)) refl))
      (runs_ret (fits_given tt (gives_var (type_there type_here)) refl)))))
      (assembled_part (assembled_part (assembled_part assembled_end joined_step) joined_step) joined_step);
  value_run =
      fits_body (runs_step (moves_run (gives_val refl))
      (runs_ret (fits_given tt (gives_bin (fits_given tt (gives_var type_here) refl) (fits_given tt (gives_word (omega arith)) refl)) refl)))
      (assembled_part assembled_end (joined_comp (b_step (b_ret (u_ret (u_bin (u_reduced (r_var refl)) u_word))))));
  claimed =
      fits_body (runs_step
      (moves_claim (forms_eq forms_word (fits_given tt (gives_word (omega arith)) refl) (fits_given tt (gives_word (omega arith)) refl)))
      (runs_ret (fits_given tt (gives_var type_here) refl))) (assembled_part assembled_end (joined_unit (u_ret (u_reduced (r_var refl)))));
  branched =
      fits_body (runs_step (moves_if forms_word (fits_given tt gives_bool refl) (runs_ret (fits_given tt (gives_word (omega arith)) refl))
      assembled_end (runs_ret (fits_given tt (gives_word (omega arith)) refl)) assembled_end)
      (runs_ret (fits_given tt (gives_var type_here) refl))) (assembled_part assembled_end joined_step);
  recursion =
      gives_fix (header_param (forms_mono forms_word)
      (header_body (forms_triple forms_tt forms_word
      (forms_eq forms_word (fits_given tt (gives_var (type_there (type_there type_here))) refl)
      (fits_given tt (gives_var (type_there (type_there (type_there type_here)))) refl)))))
      (fix_param (fix_body (fits_body (runs_ret (fits_given tt (gives_var (type_there type_here)) refl)) assembled_end)));
  no_recursion_in_formula = no_recursion;
  no_truth_returned = no_truth;
  no_run_of_a_word = no_run;
}
