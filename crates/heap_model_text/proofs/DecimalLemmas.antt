-- The bytes of a decimal, and the number that digits write.
use Rattle.std.proofs.Common.{◌≡◌, ℕ, ◌+◌, ◌*◌, ◌<◌, ◌≤◌, ◌^◌, zero, suc, List, [], ◌∷◌, length, take, get_or, refl, sym, ap, ◌∙◌, arith, ◌⊎◌, ⊎_elim}
use Rattle.std.proofs.lemmas.Bool.{cases_lt}
use Rattle.std.proofs.lemmas.Bool.Decides.{nat_tests}
use Rattle.std.specs.Char.{digit_value}
use Rattle.std.specs.Fmt.{decimal}
use Rattle.std.specs.Str.Parse.{AllDigits, digits_value}
use Rattle.std.proofs.lemmas.Fmt.{decimal_is_IsNumeral, decimal_digit, decimal_nonempty, first_decimal, decimal-digits_value}
use Rattle.std.proofs.lemmas.Int.Digits.{digits_value_more}
use Rattle.std.proofs.lemmas.Str.Parse.{IsNumeralModel, digits_value-take-le}
use Rattle.heap_model_text.proofs.CutLemmas.{IsFree}

-- a digit is a byte from 48 to 57
digit_bytes : (c : ℕ) → digit_value c < 10 → (48 ≤ c) × (c ≤ 57)
digit_bytes c h = (grind (arith, nat_tests), grind (arith, nat_tests))

digits_free : (m : ℕ) (ds : List ℕ) → (m < 48) ⊎ (57 < m) → AllDigits 10 ds → IsFree m ds
digits_free m [] o a = tt
digits_free m (c ∷ cs) o a =
    let b = digit_bytes c a.0 in
    (λ (e : c ≡ m). ⊎_elim (λ (l : m < 48). omega (arith, b.0)) (λ (l : 57 < m). omega (arith, b.1)) o, digits_free m cs o a.1)

pub decimal_free : (m n : ℕ) → (m < 48) ⊎ (57 < m) → n < 2 ^ 64 → IsFree m (decimal n)
decimal_free m n o h = digits_free m (decimal n) o (decimal_is_IsNumeral n h).0.1

-- ---- bytes that are no decimal, and bytes that are one

pub nothing_is_no_decimal : (ds : List ℕ) (n : ℕ) → length ds ≡ 0 → n < 2 ^ 64 → ds ≡ decimal n → ⊥
nothing_is_no_decimal ds n z h e = omega (arith, z, ap length e, decimal_nonempty n h)

pub zero_in_front : (ds : List ℕ) (n : ℕ) → 1 < length ds → get_or ds 0 0 ≡ 48 → n < 2 ^ 64 → ds ≡ decimal n → ⊥
zero_in_front ds n l z h e =
    ⊎_elim (λ (d : 0 < n). omega (arith, first_decimal n d h, z, ap (λ xs. get_or xs 0 0) e))
    (λ (d : n ≤ 0). omega (arith, l, ap length (e ∙ ap decimal (zero_of n d) ∙ decimal_digit 0 (omega arith)))) (cases_lt 0 n)
  where
    zero_of : (n : ℕ) → n ≤ 0 → n ≡ 0
    zero_of n d = omega arith

digit_at : (ds : List ℕ) (i : ℕ) → AllDigits 10 ds → i < length ds → digit_value (get_or ds i 0) < 10
digit_at [] i a l = absurd (omega (arith, l))
digit_at (d ∷ ds) zero a l = a.0
digit_at (d ∷ ds) (suc i) a l = digit_at ds i a.1 (omega (arith, l))

pub too_large : (ds : List ℕ) (i number n : ℕ)
    → i < length ds
    → number ≡ digits_value 10 (take i ds)
    → (digit_value (get_or ds i 0) < 10 → 2 ^ 64 ≤ number * 10 + digit_value (get_or ds i 0))
    → n < 2 ^ 64
    → ds ≡ decimal n
    → ⊥
too_large ds i number n l v f h e =
    let m = decimal_is_IsNumeral n h in
    let a : AllDigits 10 ds = rw e m.0.1 in
    let w = f (digit_at ds i a l) in
    omega (arith, w, v, digits_value_more 10 ds i l, digits_value-take-le 10 ds (i + 1) (omega arith), ap (digits_value 10) e, m.1, h)

model : IsNumeralModel (AllDigits 10) (digits_value 10)
model = record { to = λ ds a. a; from = λ ds a. a; same = λ ds a. refl }

pub written_so : (ds : List ℕ)
    → AllDigits 10 ds
    → 0 < length ds
    → (get_or ds 0 0 ≡ 48 → length ds ≡ 1)
    → digits_value 10 ds < 2 ^ 64
    → ds ≡ decimal (digits_value 10 ds)
written_so ds a l z h = sym (decimal-digits_value model ds a l z h)
