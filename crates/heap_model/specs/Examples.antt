-- Texts that were worked out by hand.
use Rattle.std.specs.Prelude.{◌≡◌, true, codes}
use Rattle.theory_values.specs.Values.{v_word, v_bool, v_loc, v_unit, v_pair}
use Rattle.heap_model.specs.ValueText.{value_text}

pub record WorkedExamples : Type 0 where
  pub number : value_text (v_word 0) ≡ codes "0"
  pub truth : value_text (v_bool true) ≡ codes "true"
  pub unit : value_text v_unit ≡ codes "()"
  pub place : value_text (v_loc 5) ≡ codes "place 5"
  pub null_in_pair : value_text (v_pair (v_loc 0) (v_word 1)) ≡ codes "(null, 1)"
  pub pairs :
      value_text (v_pair (v_pair (v_word 3) (v_word 3))
      (v_pair (v_pair (v_word 4) (v_bool true)) (v_pair (v_word 4) (v_bool true))))
      ≡ codes "((3, 3), ((4, true), (4, true)))"
