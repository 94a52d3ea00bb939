-- Which words are a number of steps.
use Rattle.std.proofs.Common.{◌≡◌, zero, suc, ◌≤◌, ◌<◌, ◌^◌, ℕ, List, length, get_or, Result, Ok, Err, Some, refl, sym, ap, subst, ◌∙◌, arith}
use Rattle.std.specs.Fmt.{decimal}
use Rattle.std.specs.Result.{result_ok}
use Rattle.std.specs.Str.Parse.{AllDigits, digits_value, ParsesUnsigned}
use Rattle.std.proofs.lemmas.Fmt.{decimal_nonempty, first_decimal, decimal_digit, decimal-digits_value, parse-decimal}
use Rattle.std.proofs.lemmas.Str.Parse.{IsNumeralModel, without_leading_plus_none}
use Rattle.htt_top_words.specs.Forms.{IsStepCount}

small : (n : ℕ) → IsStepCount n → n < 2 ^ 64
small n p = omega (arith, p.most)

-- a word that is empty, or that begins before the digit 1
pub no_count : (word : List ℕ) → (0 < length word → get_or word 0 0 < 49) → (n : ℕ) → IsStepCount n → word ≡ decimal n → ⊥
no_count word h n p e =
    let z : 0 < length word = subst (λ w. 0 < length w) (sym e) (decimal_nonempty n (small n p)) in
    omega (arith, h z, first_decimal n (omega (arith, p.some)) (small n p), ap (λ w. get_or w 0 0) e)

-- what the decimal of a number is read as
pub read_count : {E : Type 0} (word : List ℕ) (r : Result ℕ E) → ParsesUnsigned 64 10 word r → (n : ℕ) → IsStepCount n → word ≡ decimal n → result_ok r ≡ Some n
read_count word r h n p e = ap result_ok (parse-decimal 64 n word r (small n p) (small n p) e h)

model : IsNumeralModel (AllDigits 10) (digits_value 10)
model = record { to = λ ds a. a; from = λ ds a. a; same = λ ds a. refl }

-- what is read without a sign or a zero in front is the decimal of its number
pub count_read : {E : Type 0} (word : List ℕ) (r : Result ℕ E) (n : ℕ)
    → ParsesUnsigned 64 10 word r
    → result_ok r ≡ Some n
    → 49 ≤ get_or word 0 0
    → word ≡ decimal n
count_read word (Err e) n h v f = cc
count_read word (Ok x) n h v f =
    let plain = without_leading_plus_none word (λ p. omega arith) in
    let a : AllDigits 10 word = subst (AllDigits 10) plain h.0.0.1 in
    let z : 0 < length word = subst (λ w. 0 < length w) plain h.0.0.0 in
    let value : digits_value 10 word ≡ n = ap (digits_value 10) (sym plain) ∙ sym h.1 ∙ cc in
    let fits : digits_value 10 word < 2 ^ 64 = subst (λ w. digits_value 10 w < 2 ^ 64) plain h.0.1 in
    sym (decimal-digits_value model word a z (λ p. absurd (omega arith)) fits) ∙ ap decimal value

-- a decimal that begins with another digit than 0 isn't that of 0
pub some_steps : (word : List ℕ) (n : ℕ) → word ≡ decimal n → 49 ≤ get_or word 0 0 → 1 ≤ n
some_steps word zero e f = absurd (omega (arith, ap (λ w. get_or w 0 0) (e ∙ decimal_digit 0 (omega arith))))
some_steps word (suc n) e f = omega arith
