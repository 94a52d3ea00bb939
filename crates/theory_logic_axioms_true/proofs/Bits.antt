-- Bits and shifts.
use Rattle.std.proofs.Common.{◌+◌, ◌*◌, ap, arith}
use Rattle.std.proofs.Math.Nat.{div-one}
use Rattle.std.specs.Int.Bits.{and_zero_r, or_zero_r, xor_zero_r, and_self, or_self, xor_self}
use Rattle.theory_values.specs.Values.{v_word}
use Rattle.theory_logic_axioms_true.proofs.Sums.{word_mod, word_kept}
use Rattle.theory_logic_axioms_true.specs.WordLaws.{BitsAndShifts}

pub bits : BitsAndShifts
bits = record {
  and_zero = λ x. ap v_word (and_zero_r x);
  or_zero = λ x. ap v_word (or_zero_r x);
  xor_zero = λ x. ap v_word (xor_zero_r x);
  and_itself = λ x. ap v_word (and_self x);
  or_itself = λ x. ap v_word (or_self x);
  xor_itself = λ x. ap v_word (xor_self x);
  left_by_zero = λ x p. word_kept (x * 1) x p (omega arith);
  right_by_zero = λ x. ap v_word (div-one x);
  left_by_one = λ x. word_mod (x * 2) (x + x) (omega arith);
}
