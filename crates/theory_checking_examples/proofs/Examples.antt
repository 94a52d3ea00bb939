-- The worked cases hold: each by its premises up to the one that stops it.
use Rattle.std.proofs.Common.{◌≡◌, ℕ, zero, suc, ◌+◌, Ok, Err, refl, arith}
use Rattle.htt_syntax.specs.Trees.{m_word, m_bool}
use Rattle.theory_renaming.specs.Renaming.{lift, lifts, rename_mono, rename_ty, rename_term}
use Rattle.theory_counts.specs.Nodes.{nodes_mono, nodes_formula, nodes_term}
use Rattle.theory_counts.specs.Depth.{depth_mono, depth_formula, depth_term}
use Rattle.theory_states.specs.States.{past, at_heap, start, some_values, within, ending, finish, last}
use Rattle.theory_canonical.specs.Folding.{contractum}
use Rattle.theory_canonical.specs.Eta.{expansion}
use Rattle.theory_typing.specs.Positions.{plain_ty}
use Rattle.theory_typing.specs.Contexts.{Context, FormsMono, forms_word, forms_bool, forms_unit, forms_pair, heap_here, type_here, type_there}
use Rattle.theory_typing.specs.Contexts.{count_of}
use Rattle.htt_syntax_words.specs.declared.words.Which.TheVariants.{Mono}
use Rattle.theory_checking.specs.Stops.{passed, stops, goes_on, comes, refuses, holds, fails, finds, finds_none, makes}
use Rattle.theory_checking.specs.Limits.{MonoComesTo}
use Rattle.theory_checking.specs.Results.{AssemblesTo}
use Rattle.theory_checking.specs.Checking.{TyComesTo, FormulaComesTo, TermComesTo, RunsTo, StepComesTo}
use Rattle.theory_checking_items.specs.Items.{ClosedComeTo, IndexComesTo}
use Rattle.theory_checking_examples.specs.Examples.{wide, RefusedTerms, RefusedFormulas, RefusedItems, CheckedItems}

-- the wide monotype

pub wide_formed : {g : Context} (n : ℕ) → FormsMono g (wide n)
unfolding wide
wide_formed zero = forms_word
wide_formed (suc n) = forms_pair forms_word (wide_formed n)

pub nodes_of_wide : (n : ℕ) → nodes_mono (wide n) ≡ suc (n + n)
unfolding wide nodes_mono
nodes_of_wide zero = refl
nodes_of_wide (suc n) = let e = nodes_of_wide n in omega (arith, e)

pub too_wide : {g : Context} {at : ℕ} → MonoComesTo g at (wide 32) (Err (passed Mono))
too_wide = goes_on (holds (wide_formed 32)) (fails (λ p. let e = nodes_of_wide 32 in omega (arith, e, p)))

-- small monotypes

pub word_mono : {g : Context} {at : ℕ} → MonoComesTo g at m_word (Ok tt)
unfolding nodes_mono
word_mono = goes_on (holds forms_word) (holds (omega arith))

bool_mono : {g : Context} {at : ℕ} → MonoComesTo g at m_bool (Ok tt)
unfolding nodes_mono
bool_mono = goes_on (holds forms_bool) (holds (omega arith))

pub terms : RefusedTerms
unfolding TyComesTo TermComesTo plain_ty nodes_mono
terms = record {
  function_for_a_head = goes_on (goes_on word_mono comes) (stops (stops (stops refuses)));
  function_for_a_word = goes_on (goes_on word_mono comes) (stops refuses);
  pair_for_a_word = goes_on (goes_on word_mono comes) (stops refuses);
  do_for_a_word = goes_on (goes_on word_mono comes) (stops refuses);
  truth_for_a_word = goes_on (goes_on word_mono comes) (stops (goes_on comes (stops (fails (λ e. cc)))));
  truth_annotated = goes_on (goes_on word_mono comes) (stops (stops (goes_on (goes_on word_mono comes) (stops (goes_on comes (stops (fails (λ e. cc))))))));
  word_for_a_truth =
      goes_on (goes_on bool_mono comes)
      (stops (goes_on (goes_on (goes_on word_mono comes) (goes_on (goes_on (goes_on (makes (omega arith)) comes) (goes_on (holds refl) comes)) comes)) (stops (fails (λ e. cc)))));
  head_first = goes_on (goes_on word_mono comes) (stops (stops (goes_on (goes_on (goes_on (makes (omega arith)) comes) comes) (stops (finds_none (λ f e. cc))))));
  part_of_a_word = goes_on (goes_on word_mono comes) (stops (stops (goes_on (goes_on (goes_on (makes (omega arith)) comes) comes) (stops (finds_none (λ f e. cc))))));
  function_in_a_pair =
      goes_on (goes_on word_mono comes) (stops (stops (stops (goes_on (goes_on (goes_on (finds refl) comes) comes) (stops (finds_none (λ t e. cc)))))));
  instance_of_a_word = goes_on (goes_on word_mono comes) (stops (stops (goes_on (goes_on (goes_on (makes (omega arith)) comes) comes) (stops (finds_none (λ ty e. cc))))));
  wide_comparison = goes_on (goes_on word_mono comes) (stops (stops (stops too_wide)));
  comparison_of_units =
      goes_on (goes_on word_mono comes) (stops (stops (goes_on (goes_on (holds forms_unit) (holds (omega arith))) (stops (fails (λ c. elim c [ ]))))));
  no_entry = stops (stops (finds_none (λ ty d. elim d [ ])));
  no_item = stops (stops (finds_none (λ d e. cc)));
  made_function = refuses;
}

pub formulas : RefusedFormulas
unfolding FormulaComesTo TermComesTo nodes_mono
formulas = record {
  wide_equation = stops too_wide;
  head_before_do =
      goes_on word_mono
      (stops (stops (goes_on (goes_on (goes_on (makes (omega arith)) comes) comes) (stops (finds_none (λ f e. cc))))));
  do_in_a_formula = goes_on word_mono (stops refuses);
  word_for_a_heap = stops (fails (λ h. elim h [ ]));
  no_predicate = stops (finds_none (λ r e. cc));
  no_room = λ g e. stops (fails (λ p. omega (arith, e, p)));
}

pub items : RefusedItems
unfolding TyComesTo FormulaComesTo TermComesTo RunsTo StepComesTo ClosedComeTo IndexComesTo plain_ty nodes_mono nodes_formula nodes_term
    depth_mono depth_formula depth_term rename_ty rename_mono rename_term lift past at_heap start contractum expansion count_of
items = record {
  no_ending = λ M. goes_on (goes_on (goes_on word_mono comes) (goes_on (holds (omega arith)) (goes_on (goes_on word_mono comes) comes))) (stops (fails (λ x. x)));
  type_first = λ M. stops (stops (stops (goes_on (holds (omega arith)) (stops (goes_on word_mono (stops (goes_on comes (stops (fails (λ e. cc))))))))));
  run_of_a_word =
      goes_on (goes_on (goes_on (holds (omega arith)) (goes_on comes (goes_on word_mono
      (goes_on (holds (omega arith)) (goes_on comes comes))))) comes)
      (goes_on (holds tt) (stops (stops (goes_on (holds (omega arith)) (goes_on (goes_on (holds (omega arith)) (holds (omega arith)))
      (stops (stops (goes_on (goes_on (goes_on (makes (omega arith)) comes) comes) (stops (finds_none (λ spec e. cc)))))))))));
  no_room = λ g e. stops (stops (fails (λ p. omega (arith, e, p))));
  wide_abbreviation = stops too_wide;
  other_index =
      goes_on comes (goes_on (holds (omega arith)) (goes_on comes (goes_on (holds (omega arith))
      (goes_on (goes_on (finds refl) (goes_on (holds heap_here)
      (goes_on (goes_on (goes_on (goes_on (goes_on (finds (type_there type_here)) comes) (goes_on (holds refl) comes))
      (goes_on (goes_on (goes_on (makes (omega arith)) comes) (goes_on (holds refl) comes)) comes)) (goes_on (holds refl) comes)) (goes_on (holds refl) (goes_on comes comes)))))
      (stops (fails (λ f. let e = f refl in cc)))))));
  not_folded =
      goes_on comes (goes_on (holds (omega arith)) (goes_on comes (goes_on (holds (omega arith))
      (goes_on (goes_on (finds refl) (goes_on (holds heap_here)
      (goes_on (goes_on (goes_on (goes_on (goes_on (finds (type_there type_here)) comes) (goes_on (holds refl) comes))
      (goes_on (goes_on (goes_on (makes (omega arith)) comes) (goes_on (holds refl) comes)) comes)) (goes_on (holds refl) comes)) (goes_on (holds refl) (goes_on comes comes)))))
      (stops (fails (λ f. let e = f refl in cc)))))));
}

pub checked_items : CheckedItems
unfolding TyComesTo FormulaComesTo TermComesTo RunsTo StepComesTo ClosedComeTo IndexComesTo AssemblesTo plain_ty nodes_mono nodes_formula nodes_term depth_mono
    depth_formula depth_term rename_ty rename_mono rename_term lift lifts past at_heap start some_values within ending finish last contractum expansion count_of
checked_items = record {
  sum =
      goes_on (goes_on (goes_on (holds (omega arith)) (goes_on comes (goes_on word_mono
      (goes_on (holds (omega arith)) (goes_on
      (goes_on word_mono
      (goes_on (goes_on (goes_on (finds (type_there (type_there type_here))) comes) (goes_on (holds refl) comes)) (goes_on (goes_on (goes_on (makes (omega arith)) comes) (goes_on (holds refl) comes)) comes)))
      comes))))) comes)
      (goes_on (holds tt)
      (goes_on (goes_on (goes_on (holds (omega arith)) (goes_on (goes_on (holds (omega arith)) (holds (omega arith)))
      (goes_on (goes_on (goes_on (goes_on (goes_on (goes_on (makes (omega arith)) comes) (goes_on (holds refl) comes)) (goes_on (goes_on (goes_on (makes (omega arith)) comes) (goes_on (holds refl) comes)) comes)) (goes_on (holds refl) comes)) comes)
      (goes_on (holds (omega arith)) (goes_on (goes_on (holds (omega arith)) (holds (omega arith)))
      (goes_on (goes_on (holds (omega arith)) (holds (omega arith))) (goes_on comes comes))))))) comes) comes));
  folded_index =
      goes_on comes (goes_on (holds (omega arith)) (goes_on comes (goes_on (holds (omega arith))
      (goes_on (goes_on (finds refl) (goes_on (holds heap_here)
      (goes_on (goes_on (goes_on (goes_on (goes_on (goes_on (finds (type_there type_here)) comes) comes)
      (goes_on (finds refl) (goes_on (goes_on (goes_on (makes (omega arith)) comes) comes) (goes_on (finds refl) (goes_on (holds (omega arith)) comes)))))
      (goes_on (finds refl) comes)) (goes_on (holds refl) comes)) (goes_on (holds refl) (goes_on comes comes)))))
      (goes_on (holds (λ p. refl)) comes)))));
}
