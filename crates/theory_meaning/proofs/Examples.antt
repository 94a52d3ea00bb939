-- The worked examples compute.
use Rattle.std.proofs.Common.{refl}
use Rattle.theory_meaning.specs.Examples.{WorkedExamples}

pub worked : WorkedExamples
worked = record {
  sum_takes_no_fuel = refl;
  body_takes_fuel = refl;
  body_with_fuel = refl;
  closure_keeps_its_environment = refl;
  no_function_before_no_fuel = refl;
  argument_before_no_function = refl;
  monotype_is_closed = refl;
  other_monotype = refl;
  no_pair_of_closures = refl;
  no_such_value = refl;
  use_takes_fuel = refl;
  use_with_fuel = refl;
  definition_is_applied = refl;
  all_parts_of_a_choice = refl;
  cell_is_used = refl;
  no_choice = refl;
  zero_is_no_choice = refl;
  used_is_no_choice = refl;
  two_is_no_bool = refl;
  one_is_true = refl;
  other_width = refl;
  width_alone_counts = refl;
  free_of_another_width = refl;
  use_after_free = refl;
  nothing_to_free = refl;
  branch_takes_no_fuel = refl;
  claim_does_nothing = refl;
  run_takes_fuel = refl;
  use_and_run = refl;
  counted_down = refl;
  counting_takes_fuel = refl;
  arguments_in_order = refl;
  lacks_an_argument = refl;
  too_many_arguments = refl;
  three_choices = refl;
  chosen_by_a_literal = refl;
  no_choice_by_a_word = refl;
  first_part_tells = refl;
  second_part_tells = refl;
  repeated_twice = refl;
  repeated_lacks_fuel = refl;
  blocks_differ = refl;
  location_is_taken = refl;
  pair_is_read = refl;
  first_step_tells = refl;
}
