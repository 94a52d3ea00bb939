-- The worked examples compute.
use Rattle.std.proofs.Common.{◌≡◌, ℕ, refl, arith}
use Rattle.theory_values.specs.Values.{v_word}
use Rattle.theory_canonical.specs.Skeletons.{skeleton}
use Rattle.theory_denotation.specs.Denotation.{term_den, fix_skeleton}
use Rattle.theory_denotation.specs.Satisfaction.{Satisfies}
use Rattle.theory_denotation.specs.Examples.{WorkedExamples}

four_is_not_five : v_word 4 ≡ v_word 5 → ⊥
four_is_not_five e = let f : ◌≡◌ {A = ℕ} 4 5 = cc in omega (arith, f)

pub worked : WorkedExamples
unfolding term_den fix_skeleton skeleton Satisfies
worked = record {
  sum_of_literals = refl;
  function_at_four = refl;
  functional_at_a_function = refl;
  family_at_words = refl;
  family_at_places = refl;
  no_value_of_a_function = refl;
  variable_is_applied = refl;
  instance_of_a_variable = refl;
  cell_is_used = refl;
  no_choice = refl;
  used_is_no_choice = refl;
  two_is_no_bool = refl;
  other_width = refl;
  nothing_to_free = refl;
  branch_takes_no_fuel = refl;
  claim_does_nothing = refl;
  value_takes_no_fuel = refl;
  value_knows_earlier_ones = refl;
  recursion_in_a_value = refl;
  recursion_in_a_value_takes_fuel = refl;
  no_such_value = refl;
  counted_down = refl;
  more_fuel_is_no_harm = refl;
  counting_takes_fuel = refl;
  arguments_in_order = refl;
  lacks_an_argument = refl;
  computation_variable = refl;
  function_in_a_formula = λ v typed. refl;
  other_value = λ e. four_is_not_five e;
}
