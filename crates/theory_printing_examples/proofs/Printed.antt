-- The printed phrases, by computing.
use Rattle.std.specs.Prelude.{⊤}
use Rattle.std.proofs.Common.{refl}
use Rattle.std.specs.Fmt.{digits}
use Rattle.theory_printing.specs.Pieces.{bytes_of}
use Rattle.theory_printing.specs.Names.{count_of, entry_of_sort}
use Rattle.theory_printing.specs.Brackets.{needs_brackets, term_form, formula_form}
use Rattle.theory_printing.specs.Phrases.{mono, literal_place, arguments_of, under_params, term}
use Rattle.theory_printing.specs.Proofs.{more_monos, more_args, after_stmt, proof}
use Rattle.theory_printing_examples.specs.Phrases.{PrintedMonotypes, PrintedTypes, PrintedTerms, PrintedOperands, PrintedSteps, PrintedFormulas}
use Rattle.theory_printing_examples.specs.Phrases.{PrintedConnectives, PrintedHeaps}
use Rattle.theory_printing_examples.specs.Proofs.{PrintedProofs, PrintedBlocks}

-- All that the texts compute with.
computing : Type 0
unfolding digits bytes_of count_of entry_of_sort needs_brackets literal_place term_form formula_form mono arguments_of under_params term
    more_monos more_args after_stmt proof
computing = ⊤

pub printed_monotypes : PrintedMonotypes
unfolding computing
printed_monotypes = record {
  word_ = refl;
  bool_ = refl;
  loc_ = refl;
  unit_ = refl;
  variable = refl;
  pair = refl;
  pair_at_the_left = refl;
  pair_at_the_right = refl;
  no_entry = refl;
}

pub printed_types : PrintedTypes
unfolding computing
printed_types = record {
  monotype = refl;
  function = refl;
  function_of_a_function = refl;
  under_a_monotype = refl;
  computation = refl;
  positions = refl;
}

pub printed_terms : PrintedTerms
unfolding computing
printed_terms = record {
  variable = refl;
  value = refl;
  lambda = refl;
  lambda_of_a_monotype = refl;
  computation = refl;
  recursive = refl;
  word_ = refl;
  true_ = refl;
  false_ = refl;
  no_place = refl;
  a_place = refl;
  unit_ = refl;
  pair = refl;
  annotated = refl;
  equality = refl;
  selection = refl;
  positions = refl;
}

pub printed_operands : PrintedOperands
unfolding computing
printed_operands = record {
  sum = refl;
  difference = refl;
  product = refl;
  conjunction = refl;
  disjunction = refl;
  exclusive = refl;
  left_shift = refl;
  right_shift = refl;
  order = refl;
  at_the_left = refl;
  at_the_right = refl;
  under_a_product = refl;
  first_part = refl;
  second_part = refl;
  negation = refl;
  arguments = refl;
  argument = refl;
  argument_and_monotype = refl;
  function_as_argument = refl;
  head_that_is_a_part = refl;
  head_that_is_a_function = refl;
  head_that_is_recursive = refl;
  no_entry = refl;
  no_value = refl;
  no_text = refl;
}

pub printed_steps : PrintedSteps
unfolding computing
printed_steps = record {
  allocation = refl;
  reading = refl;
  writing = refl;
  freeing = refl;
  branches = refl;
  claim = refl;
  run_of_an_atom = refl;
  run_of_an_application = refl;
  run_of_a_part = refl;
  run_of_an_operation = refl;
  run_of_a_computation = refl;
  in_a_row = refl;
}

pub printed_formulas : PrintedFormulas
unfolding computing
printed_formulas = record {
  truth = refl;
  falsehood = refl;
  conjunction = refl;
  disjunction = refl;
  implication = refl;
  over_terms = refl;
  some_term = refl;
  over_heaps = refl;
  cell = refl;
  block = refl;
  join = refl;
  same = refl;
  recursive = refl;
  recursive_with_terms = refl;
  bare_sides = refl;
  bound_sides = refl;
  positions = refl;
  no_predicate = refl;
}

pub printed_connectives : PrintedConnectives
unfolding computing
printed_connectives = record {
  quantifier_at_the_left = refl;
  quantifier_at_the_right = refl;
  conjunction_at_the_right = refl;
  conjunction_at_the_left = refl;
  disjunction_at_the_left = refl;
  implication_at_the_right = refl;
  implication_at_the_left = refl;
  body_is_bare = refl;
}

pub printed_heaps : PrintedHeaps
unfolding computing
printed_heaps = record {
  outer_ones = refl;
  inner_ones = refl;
  past_a_precondition = refl;
  in_a_claim = refl;
}

pub printed_proofs : PrintedProofs
unfolding computing
printed_proofs = record {
  hypothesis = refl;
  trivial_ = refl;
  reflexivity = refl;
  first_ = refl;
  second_ = refl;
  left_ = refl;
  right_ = refl;
  absurd_ = refl;
  both_ = refl;
  give_a_term = refl;
  give_a_heap = refl;
  application = refl;
  instance_of_a_term = refl;
  instance_of_a_heap = refl;
  cases = refl;
  rewriting = refl;
  motive_of_a_heap = refl;
  induction = refl;
  splitting = refl;
  axiom_ = refl;
  axiom_alone = refl;
  unfolding_ = refl;
  excluded_middle = refl;
  the_ = refl;
  positions = refl;
}

pub printed_blocks : PrintedBlocks
unfolding computing
printed_blocks = record {
  introduction = refl;
  generalisation = refl;
  opening = refl;
  having = refl;
  within_a_proof = refl;
}
