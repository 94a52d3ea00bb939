-- Values and heaps that were worked out by hand.
use Rattle.std.specs.Prelude.{◌≡◌, [], ◌∷◌, true, false, Some, None}
use Rattle.htt_syntax.specs.declared.mono.Op.TheVariants.{Add, Sub, Mul, And, Or, Xor, Shl, Shr, Lt}
use Rattle.htt_syntax.specs.Trees.{m_word, m_bool, m_loc, m_unit, m_pair}
use Rattle.theory_values.specs.Values.{v_word, v_bool, v_loc, v_unit, v_pair, width, encoding, value_of_words, op_value}
use Rattle.theory_values.specs.Values.{value_of_op, value_of_eq, value_of_sel, value_of_fst}
use Rattle.theory_values.specs.Heaps.{empty_heap, single_block, with_block, without_block}

pub record WorkedExamples : Type 0 where
  pub pair_width : width (m_pair (m_pair m_word m_unit) (m_pair m_bool m_loc)) ≡ 3
  pub pair_encoding : encoding (v_pair (v_pair (v_word 7) v_unit) (v_pair (v_bool true) (v_loc 9))) ≡ 7 ∷ 1 ∷ 9 ∷ []
  pub pair_decoded : value_of_words (m_pair (m_pair m_word m_unit) (m_pair m_bool m_loc)) (7 ∷ 1 ∷ 9 ∷ [])
      ≡ Some (v_pair (v_pair (v_word 7) v_unit) (v_pair (v_bool true) (v_loc 9)))
  pub unit_decoded : value_of_words m_unit [] ≡ Some v_unit
  pub two_is_no_bool : value_of_words m_bool (2 ∷ []) ≡ None
  pub one_word_too_many : value_of_words m_word (1 ∷ 2 ∷ []) ≡ None
  pub one_word_too_few : value_of_words (m_pair m_word m_word) (1 ∷ []) ≡ None
  pub words_end : value_of_words m_loc (18446744073709551616 ∷ []) ≡ None
  pub last_word : value_of_words m_loc (18446744073709551615 ∷ []) ≡ Some (v_loc 18446744073709551615)
  pub sum_wraps : op_value Add 18446744073709551615 3 ≡ v_word 2
  pub difference_wraps : op_value Sub 2 5 ≡ v_word 18446744073709551613
  pub difference_of_same : op_value Sub 5 5 ≡ v_word 0
  pub difference : op_value Sub 5 2 ≡ v_word 3
  pub product_wraps : op_value Mul 18446744073709551615 2 ≡ v_word 18446744073709551614
  pub bits_in_both : op_value And 12 10 ≡ v_word 8
  pub bits_in_one : op_value Or 12 10 ≡ v_word 14
  pub bits_in_exactly_one : op_value Xor 12 10 ≡ v_word 6
  pub count_of_65_is_one : op_value Shl 3 65 ≡ v_word 6
  pub high_bit_lost : op_value Shl 9223372036854775809 1 ≡ v_word 2
  pub count_of_64_is_none : op_value Shr 3 64 ≡ v_word 3
  pub right_shift : op_value Shr 9223372036854775809 63 ≡ v_word 1
  pub unsigned_order : op_value Lt 1 18446744073709551615 ≡ v_bool true
  pub strict_order : op_value Lt 4 4 ≡ v_bool false
  pub no_sum_of_places : value_of_op Add (v_loc 1) (v_loc 2) ≡ None
  pub equal_places : value_of_eq m_loc (v_loc 4) (v_loc 4) ≡ Some (v_bool true)
  pub other_bools : value_of_eq m_bool (v_bool false) (v_bool true) ≡ Some (v_bool false)
  pub both_false : value_of_eq m_bool (v_bool false) (v_bool false) ≡ Some (v_bool true)
  pub no_eq_of_units : value_of_eq m_unit v_unit v_unit ≡ None
  pub no_eq_of_a_word_and_a_place : value_of_eq m_word (v_word 4) (v_loc 4) ≡ None
  pub first_of_pair : value_of_fst (v_pair (v_word 1) (v_word 2)) ≡ Some (v_word 1)
  pub second_is_chosen : value_of_sel (v_bool false) (v_word 1) (v_word 2) ≡ Some (v_word 2)
  pub empty_has_nothing : empty_heap 5 ≡ None
  pub single_here : single_block 5 (1 ∷ 2 ∷ []) 5 ≡ Some (1 ∷ 2 ∷ [])
  pub single_elsewhere : single_block 5 (1 ∷ 2 ∷ []) 6 ≡ None
  pub last_writing_counts : with_block (with_block empty_heap 5 (1 ∷ [])) 5 [] 5 ≡ Some []
  pub others_stay : without_block (with_block (single_block 5 (1 ∷ [])) 6 (2 ∷ [])) 5 6 ≡ Some (2 ∷ [])
  pub removed_is_gone : without_block (single_block 5 (1 ∷ [])) 5 5 ≡ None
