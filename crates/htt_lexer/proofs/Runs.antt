-- Runs that can't be longer, and the numbers that runs of digits write.
use Rattle.std.proofs.Common.{◌≡◌, ℕ, suc, ◌+◌, ◌*◌, ◌^◌, ◌<◌, ◌≤◌, List, [], ◌∷◌, ◌++◌, length, take, drop, Bool, true, false, refl, subst, arith, nat_lt}
use Rattle.std.proofs.Common.{lt-ltb, lit≤, get_or}
use Rattle.std.specs.Prelude.{Some, None}
use Rattle.std.specs.List.{AllPass, prefix_len, take_while, list_all}
use Rattle.std.specs.Char.{digit_value}
use Rattle.std.specs.Str.Parse.{digits_value}
use Rattle.std.proofs.lemmas.Int.Digits.{digits_value_more}
use Rattle.std.proofs.lemmas.Str.Parse.{digits_value-take-le}
use Rattle.std.proofs.lemmas.Bool.Decides.{nat_tests}
use Rattle.std.proofs.lemmas.List.Sums.{AllPass-from_list_all}
use Rattle.htt_lexer.specs.Tokens.{Stops, IsLongest}
use Rattle.htt_lexer.specs.Pieces.{limited, number_of}
use Rattle.htt_lexer.proofs.Rows.{by_cond, both_true}

-- ---- runs

-- a run that can't be longer is what passes at the front
pub prefix_len-run : (p : ℕ → Bool) (run rest : List ℕ) → list_all p run ≡ true → Stops p rest → prefix_len p (run ++ rest) ≡ length run
prefix_len-run p [] [] passes stops = refl
prefix_len-run p [] (b ∷ rest) passes stops = rw stops refl
prefix_len-run p (b ∷ run) rest passes stops =
    let h = both_true (p b) (list_all p run) passes in
    rw h.0 (omega (arith, prefix_len-run p run rest h.1 stops))

pub longest_run : (p : ℕ → Bool) (text : List ℕ) → IsLongest p (take (prefix_len p text) text) (drop (prefix_len p text) text)
longest_run p [] = record { passes = refl; stops = tt }
longest_run p (b ∷ text) =
    by_cond (λ n. IsLongest p (take n (b ∷ text)) (drop n (b ∷ text))) (p b) (1 + prefix_len p text) 0
    (λ passes. let rest = longest_run p text in
    let e : suc (prefix_len p text) ≡ 1 + prefix_len p text = omega arith in
    subst (λ n. IsLongest p (take n (b ∷ text)) (drop n (b ∷ text))) e (record { passes = rw passes rest.passes; stops = rest.stops }))
    (λ stops. record { passes = refl; stops = stops })

-- what passes at the front passes
pub take_while-passes : (p : ℕ → Bool) (text : List ℕ) (n : ℕ) → n ≡ prefix_len p text → AllPass p (take n text)
take_while-passes p text n e = rw e (AllPass-from_list_all p (take_while p text) (longest_run p text).passes)

-- ---- numbers

pub limited-small : (n : ℕ) → n < 2 ^ 64 → limited n ≡ Some n
limited-small n h = rw (lt-ltb n (2 ^ 64) h) refl

pub below : (n : ℕ) → nat_lt n (2 ^ 64) ≡ true → n < 2 ^ 64
below n h = grind (arith, nat_tests)

pub above : (n : ℕ) → nat_lt n (2 ^ 64) ≡ false → 2 ^ 64 ≤ n
above n h = grind (arith, nat_tests)

pub limited-some : (n m : ℕ) → limited n ≡ Some m → (n ≡ m) × (n < 2 ^ 64)
limited-some n m = by_cond (λ o. o ≡ Some m → (n ≡ m) × (n < 2 ^ 64)) (nat_lt n (2 ^ 64)) _ _ (λ h e. (cc, below n h)) (λ _ e. cc)

pub limited-none : (n : ℕ) → 2 ^ 64 ≤ n → limited n ≡ None
limited-none n h = by_cond (λ o. o ≡ None) (nat_lt n (2 ^ 64)) _ _ (λ small. absurd (omega (arith, below n small))) (λ _. refl)

past : (n : ℕ) → limited n ≡ None → 2 ^ 64 ≤ n
past n = by_cond (λ o. o ≡ None → 2 ^ 64 ≤ n) (nat_lt n (2 ^ 64)) _ _ (λ _ e. cc) (λ h _. above n h)

-- digits that make a number too large make the whole too large
pub number_of-too_large : (digits : List ℕ) (i n : ℕ)
    → i < length digits
    → n ≡ digits_value 10 (take i digits)
    → limited (n * 10 + digit_value (get_or digits i 0)) ≡ None
    → number_of digits ≡ None
number_of-too_large digits i n h e none =
    limited-none (digits_value 10 digits) (omega (arith, past _ none, digits_value_more 10 digits i h, digits_value-take-le 10 digits (i + 1) (lit≤ tt), e))
