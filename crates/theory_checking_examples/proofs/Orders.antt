-- The cases of order hold: each by its premises up to the one that stops it.
use Rattle.std.proofs.Common.{◌≡◌, ℕ, zero, suc, ◌+◌, [], Err, refl, arith}
use Rattle.htt_syntax.specs.Trees.{MonoTree, m_pair, m_var}
use Rattle.theory_renaming.specs.Renaming.{rename_mono, rename_ty, rename_term}
use Rattle.theory_counts.specs.Nodes.{nodes_mono, nodes_ty, nodes_term, nodes_formula}
use Rattle.theory_counts.specs.Depth.{depth_mono, depth_term, depth_formula}
use Rattle.theory_counts.proofs.NodesKept.{nodes_formula_kept}
use Rattle.theory_counts.proofs.DepthKept.{depth_formula_kept}
use Rattle.theory_counts_monotypes.specs.Monotypes.{greatest_in_ty}
use Rattle.theory_states.specs.States.{past, at_heap, start, branch}
use Rattle.theory_canonical.specs.Eta.{expansion}
use Rattle.theory_substitution.specs.Monotypes.{fill_mono, fill_ty, put_mono}
use Rattle.theory_typing.specs.Positions.{plain_ty}
use Rattle.theory_typing.specs.Contexts.{FormsMono, forms_pair, forms_var, heap_here, type_here, count_of}
use Rattle.htt_syntax_words.specs.declared.words.Which.TheVariants.{Depth}
use Rattle.theory_checking.specs.Stops.{passed, stops, goes_on, comes, holds, fails, finds, makes}
use Rattle.theory_checking.specs.Limits.{StateIsWithin}
use Rattle.theory_checking.specs.Checking.{TripleComesTo, FormulaComesTo, TermsComeTo, TermComesTo, RunsTo, StepComesTo}
use Rattle.theory_checking_examples.specs.Orders.{deep, TermsInOrder, FormulasInOrder, StepsInOrder, WithinLimits}
use Rattle.theory_checking_examples.proofs.Examples.{wide_formed, nodes_of_wide, too_wide, word_mono}

no_variable : {t : MonoTree} → FormsMono [] (m_pair (m_var 0) t) → ⊥
no_variable (forms_pair (forms_var i) d) = elim i [ ]

deep_nodes : (n : ℕ) → nodes_formula (deep n) ≡ suc (n + n)
unfolding deep nodes_formula
deep_nodes zero = refl
deep_nodes (suc n) = let e = deep_nodes n in omega (arith, e)

deep_depth : (n : ℕ) → depth_formula (deep n) ≡ suc n
unfolding deep depth_formula
deep_depth zero = refl
deep_depth (suc n) = let e = deep_depth n in omega (arith, e)

start_too_deep : StateIsWithin (start (deep 999)) (Err (passed Depth))
unfolding start nodes_formula depth_formula
start_too_deep =
    goes_on (holds (let k = nodes_formula_kept (at_heap 1 2) (deep 999) in let e = deep_nodes 999 in omega (arith, k, e)))
    (fails (λ p. let k = depth_formula_kept (at_heap 1 2) (deep 999) in let e = deep_depth 999 in omega (arith, k, e, p)))

pub terms : TermsInOrder
unfolding TermComesTo plain_ty nodes_mono nodes_ty greatest_in_ty fill_ty fill_mono put_mono rename_ty rename_mono expansion
terms = record {
  sort_before_width = stops (fails no_variable);
  argument = stops (goes_on (goes_on (goes_on (finds refl) comes) comes) (goes_on (finds refl) (stops (goes_on comes (stops (fails (λ e. cc)))))));
  wide_result =
      stops (goes_on (goes_on (goes_on (finds refl) comes) comes) (goes_on (finds refl)
      (goes_on (goes_on (holds (wide_formed 16)) (holds (let e = nodes_of_wide 16 in omega (arith, e))))
      (stops (goes_on (holds (let e = nodes_of_wide 16 in omega (arith, e))) (fails (λ p. let e = nodes_of_wide 16 in omega (arith, e, p))))))));
  under_a_function =
      goes_on (holds (omega arith)) (goes_on (goes_on (holds (omega arith))
      (goes_on (goes_on (goes_on (finds type_here) comes) (goes_on (holds refl) comes)) comes)) comes);
}

pub formulas : FormulasInOrder
unfolding TripleComesTo FormulaComesTo TermComesTo TermsComeTo plain_ty count_of
formulas = record {
  heap_before_place = goes_on word_mono (stops (fails (λ h. elim h [ ])));
  place_before_value = goes_on word_mono (goes_on (holds heap_here) (stops (goes_on comes (stops (fails (λ e. cc))))));
  index_before_count = goes_on (finds refl) (goes_on (holds heap_here) (stops (goes_on comes (stops (fails (λ e. cc))))));
  count_before_arguments =
      goes_on (finds refl) (goes_on (holds heap_here) (goes_on (goes_on (goes_on (makes (omega arith)) comes) (goes_on (holds refl) comes))
      (stops (fails (λ e. omega (arith, e))))));
  arguments =
      goes_on (finds refl) (goes_on (holds heap_here) (goes_on (goes_on (goes_on (makes (omega arith)) comes) (goes_on (holds refl) comes))
      (goes_on (holds refl) (stops (stops (goes_on comes (stops (fails (λ e. cc)))))))));
  mono_before_post = goes_on (holds (omega arith)) (goes_on comes (stops too_wide));
}

pub steps : StepsInOrder
unfolding TermComesTo RunsTo StepComesTo plain_ty branch nodes_formula nodes_term nodes_mono depth_formula depth_term depth_mono rename_term past
steps = record {
  mono_before_place = stops too_wide;
  place_before_value = goes_on word_mono (stops (goes_on comes (stops (fails (λ e. cc)))));
  test_before_branches = goes_on word_mono (stops (goes_on (goes_on (makes (omega arith)) comes) (stops (fails (λ e. cc)))));
  first_branch_first =
      goes_on word_mono (goes_on (goes_on comes (goes_on (holds refl) comes))
      (stops (goes_on (goes_on (holds (omega arith)) (holds (omega arith))) (stops (stops (goes_on comes (stops (fails (λ e. cc)))))))));
  start_before_result = stops (goes_on (holds (omega arith)) (stops start_too_deep));
}

pub within_limits : WithinLimits
unfolding FormulaComesTo
within_limits = record {
  last_entry = λ g e. goes_on (holds (omega (arith, e))) (goes_on comes comes);
  widest = goes_on (goes_on (holds (wide_formed 31)) (holds (let e = nodes_of_wide 31 in omega (arith, e)))) comes;
}
