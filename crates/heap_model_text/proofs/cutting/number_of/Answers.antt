use Rattle.std.proofs.Common.{◌≡◌, length, take, get_or, sym, ap, ◌∙◌, arith}
use Rattle.std.proofs.Math.Seq.{take-length}
use Rattle.std.specs.Fmt.{decimal}
use Rattle.std.specs.Str.Parse.{AllDigits, digits_value}
use Rattle.std.proofs.lemmas.Int.Digits.{digits_value_more, digits_more}
use Rattle.heap_model_text.proofs.DecimalLemmas.{nothing_is_no_decimal, zero_in_front, too_large, written_so}
use Rattle.heap_model_text.proofs.cutting.number_of.Goals as goal
use Rattle.heap_model_text.proofs.cutting.number_of.Goals.{else-digits-gt1-via-then-digits-gt1+else-digits-eq48, else-digits-gt1-via-else-digits-gt1}

pub returns-then-is_empty : goal.returns-then-is_empty
returns-then-is_empty c = λ n h e. nothing_is_no_decimal c.args.digits.now n (grind arith) h e

pub returns-then-digits-eq48 : goal.returns-then-digits-eq48
returns-then-digits-eq48 c = λ n h e. zero_in_front c.args.digits.now n (grind arith) (grind arith) h e

pub returns-in_err-number : goal.returns-in_err-number
returns-in_err-number c =
    rw c.from_residual.ensures (λ n h e.
    too_large c.args.digits.now c.loop-digit.digit-index c.loop-digit.number n (omega arith) c.loop-digit.invariant.value
    c.in_err-number.ensures h e)

pub loop-digit-preserved : goal.loop-digit-preserved
loop-digit-preserved c =
    let ds = c.args.digits.now in
    let i = c.loop-digit.digit-index in
    record {
      value = omega (arith, c.in_ok-number.ensures.1, c.loop-digit.invariant.value, digits_value_more 10 ds i (omega arith));
      digits = digits_more 10 ds i (omega arith) c.loop-digit.invariant.digits c.in_ok-number.ensures.0;
      fits = c.in_ok-number.ensures.2;
    }

pub returns : goal.returns
returns c =
    let ds = c.args.digits.now in
    let n : c.loop-digit.digit-index ≡ length ds = omega arith in
    let all : take c.loop-digit.digit-index ds ≡ ds = ap (λ k. take k ds) n ∙ take-length ds in
    let value : c.loop-digit.number ≡ digits_value 10 ds = c.loop-digit.invariant.value ∙ ap (digits_value 10) all in
    let a : AllDigits 10 ds = rw all at c.loop-digit.invariant.digits in
    let single : get_or ds 0 0 ≡ 48 → length ds ≡ 1 = λ z. elim c.else-digits-gt1.branch [
      | else-digits-gt1-via-then-digits-gt1+else-digits-eq48 w ↦ grind arith
      | else-digits-gt1-via-else-digits-gt1 w ↦ grind arith
    ] in
    written_so ds a (grind arith) single (omega (arith, value, c.loop-digit.invariant.fits)) ∙ ap decimal (sym value)
