use Rattle.std.proofs.Common.{◌+◌, ◌*◌, sym, ap, ◌∙◌, arith}
use Rattle.std.specs.Char.{digit_value}
use Rattle.std.proofs.Common.{get_or}
use Rattle.std.proofs.lemmas.Int.Digits.{digits_value_more}
use Rattle.htt_lexer.proofs.Runs.{number_of-too_large, limited-some}
use Rattle.htt_lexer.proofs.pieces.number_of.Goals as goal

pub returns-in_err-number : goal.returns-in_err-number
returns-in_err-number c =
    c.from_residual.ensures
    ∙ sym (number_of-too_large c.args.digits.now c.loop-digit.digit-index c.loop-digit.number (omega arith) c.loop-digit.invariant.value
    (sym c.with_digit.ensures ∙ c.in_err-number.was))

pub loop-digit-preserved : goal.loop-digit-preserved
loop-digit-preserved c =
    let digits = c.args.digits.now in
    let i = c.loop-digit.digit-index in
    let word = limited-some (c.loop-digit.number * 10 + digit_value (get_or digits i 0)) _ (sym c.with_digit.ensures ∙ c.in_ok-number.was) in
    record {
      value = sym word.0 ∙ ap (λ n. n * 10 + digit_value (get_or digits i 0)) c.loop-digit.invariant.value ∙ sym (digits_value_more 10 digits i (omega arith));
      fits = omega (arith, word.0, word.1);
    }
