-- The worked examples compute.
use Rattle.std.proofs.Common.{refl}
use Rattle.theory_values.specs.Examples.{WorkedExamples}

pub worked : WorkedExamples
worked = record {
  pair_width = refl;
  pair_encoding = refl;
  pair_decoded = refl;
  unit_decoded = refl;
  two_is_no_bool = refl;
  one_word_too_many = refl;
  one_word_too_few = refl;
  words_end = refl;
  last_word = refl;
  sum_wraps = refl;
  difference_wraps = refl;
  difference_of_same = refl;
  difference = refl;
  product_wraps = refl;
  bits_in_both = refl;
  bits_in_one = refl;
  bits_in_exactly_one = refl;
  count_of_65_is_one = refl;
  high_bit_lost = refl;
  count_of_64_is_none = refl;
  right_shift = refl;
  unsigned_order = refl;
  strict_order = refl;
  no_sum_of_places = refl;
  equal_places = refl;
  other_bools = refl;
  both_false = refl;
  no_eq_of_units = refl;
  no_eq_of_a_word_and_a_place = refl;
  first_of_pair = refl;
  second_is_chosen = refl;
  empty_has_nothing = refl;
  single_here = refl;
  single_elsewhere = refl;
  last_writing_counts = refl;
  others_stay = refl;
  removed_is_gone = refl;
}
