-- The worked cases hold: each by its premises up to the one that stops it.
use Rattle.std.proofs.Common.{◌≡◌, [], ◌∷◌, true, Ok, Err, Some, None, refl, arith}
use Rattle.std.proofs.lemmas.List.Elements.{All-nil, All-cons}
use Rattle.htt_syntax.specs.Trees.{m_word}
use Rattle.theory_renaming.specs.Renaming.{rename_mono, rename_ty}
use Rattle.theory_counts.specs.Nodes.{nodes_mono}
use Rattle.theory_canonical.specs.Eta.{expansion}
use Rattle.theory_typing.specs.Positions.{plain_ty, plain_formula}
use Rattle.theory_typing.specs.Contexts.{forms_word, type_here}
use Rattle.theory_logic_axioms.specs.Names.{add_comm}
use Rattle.theory_logic_axioms.specs.Table.{term_sort, argument_sorts, SideCondition}
use Rattle.theory_checking.specs.Stops.{stops, goes_on, comes, refuses, holds, fails, finds, finds_none, makes}
use Rattle.theory_checking.specs.Checking.{FormulaComesTo, TermComesTo}
use Rattle.theory_checking_proofs.specs.Rows.{IsNarrowSort, MonosComeTo, ArgsComeTo}
use Rattle.theory_checking_proofs.specs.Checking.{ProofComesTo, BlockComesTo, StmtComesTo}
use Rattle.theory_checking_proofs.specs.Examples.{RefusedProofs, CheckedProofs}

pub refused_proofs : RefusedProofs
unfolding ProofComesTo BlockComesTo StmtComesTo FormulaComesTo TermComesTo MonosComeTo ArgsComeTo argument_sorts SideCondition plain_ty plain_formula nodes_mono
    rename_ty rename_mono expansion
refused_proofs = record {
  no_synthesis = stops (stops refuses);
  no_conjunction = stops (goes_on (goes_on (goes_on (finds refl) comes) comes) (stops (finds_none (λ f e. cc))));
  goal_first = refuses;
  sort_of_given = refuses;
  given_term = stops (goes_on comes (stops (fails (λ e. cc))));
  no_equation = goes_on (goes_on (goes_on (finds refl) comes) comes) refuses;
  motive =
      goes_on (goes_on (goes_on (finds refl) comes) comes) (goes_on (holds (omega arith))
      (stops (goes_on (goes_on (holds forms_word) (holds (omega arith)))
      (goes_on (goes_on (goes_on (finds type_here) comes) (goes_on (holds refl) comes)) (stops (goes_on comes (stops (fails (λ e. cc)))))))));
  other_goal = goes_on (goes_on (finds refl) comes) (stops (fails (λ e. cc)));
  no_hypothesis = stops (stops (finds_none (λ F e. cc)));
  no_predicate = stops (finds_none (λ r e. cc));
  too_few =
      stops (goes_on (finds {given = add_comm} refl) (goes_on comes (goes_on (finds refl) (goes_on (holds tt)
      (goes_on (holds (All-cons IsNarrowSort (term_sort m_word) (term_sort m_word ∷ []) (omega arith)
      (All-cons IsNarrowSort (term_sort m_word) [] (omega arith) (All-nil IsNarrowSort))))
      (stops (stops (fails (λ e. cc)))))))));
  no_implication = refuses;
}

pub checked_proofs : CheckedProofs
unfolding ProofComesTo BlockComesTo StmtComesTo plain_formula
checked_proofs = record {
  identity = goes_on (goes_on (goes_on (finds refl) comes) (goes_on (holds refl) comes)) comes;
  pair = goes_on (goes_on (goes_on (finds refl) comes) (goes_on (holds refl) comes)) (goes_on comes comes);
}
