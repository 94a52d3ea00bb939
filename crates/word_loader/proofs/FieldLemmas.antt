-- Numbers of some bytes.
use Rattle.std.proofs.Common.{◌≡◌, ℕ, zero, suc, ◌+◌, ◌-◌, ◌*◌, ◌/◌, ◌%◌, ◌^◌, ◌<◌, ◌≤◌, List, [], ◌∷◌, ◌++◌, length, get_or, take, drop, min, refl, sym, ap}
use Rattle.std.proofs.Common.{◌∙◌, arith, append_assoc}
use Rattle.std.proofs.lemmas.List.{take_all, take_rest, take_min, drop_min, length-take, length-drop}
use Rattle.word_loader_format.specs.Numbers.{little_endian, number_written, number_in_file}

-- seven bytes write no more than 2 ^ 56
pub seven_bytes : (k n : ℕ) → k ≤ 7 → n < 256 ^ k → n < 2 ^ 56
seven_bytes zero n h lt = omega (arith, lt)
seven_bytes (suc zero) n h lt = omega (arith, lt)
seven_bytes (suc (suc zero)) n h lt = omega (arith, lt)
seven_bytes (suc (suc (suc zero))) n h lt = omega (arith, lt)
seven_bytes (suc (suc (suc (suc zero)))) n h lt = omega (arith, lt)
seven_bytes (suc (suc (suc (suc (suc zero))))) n h lt = omega (arith, lt)
seven_bytes (suc (suc (suc (suc (suc (suc zero)))))) n h lt = omega (arith, lt)
seven_bytes (suc (suc (suc (suc (suc (suc (suc zero))))))) n h lt = omega (arith, lt)
seven_bytes (suc (suc (suc (suc (suc (suc (suc (suc k)))))))) n h lt = absurd (omega (arith, h))

pub little_endian-next : (w n : ℕ) → 0 < w → little_endian w n ≡ n % 256 ∷ little_endian (w - 1) (n / 256)
unfolding little_endian
little_endian-next zero n h = absurd (omega (arith, h))
little_endian-next (suc w) n h = ap (λ v. n % 256 ∷ little_endian v (n / 256)) (omega arith)

pub little_endian-none : (w n : ℕ) → w ≡ 0 → little_endian w n ≡ []
unfolding little_endian
little_endian-none zero n e = refl
little_endian-none (suc w) n e = absurd (omega (arith, e))

pub rest_small : (xs : List ℕ) (r : ℕ) → length xs ≤ 8 → r < 256 ^ length (take (length xs - 1) (drop 1 xs)) → r < 2 ^ 56
rest_small xs r h lt =
    seven_bytes (length (take (length xs - 1) (drop 1 xs))) r (omega (arith, h, length-take (length xs - 1) (drop 1 xs), length-drop 1 xs))
    lt

pub number-none : (xs : List ℕ) → length xs < 1 → 0 ≡ number_written xs
unfolding number_written
number-none [] h = refl
number-none (x ∷ xs) h = absurd (omega (arith, h))

pub number-cells : (xs : List ℕ) (b r : ℕ)
    → 1 ≤ length xs
    → b ≡ get_or xs 0 0
    → r ≡ number_written (take (length xs - 1) (drop 1 xs))
    → b + 256 * r ≡ number_written xs
unfolding number_written
number-cells [] b r h e f = absurd (omega (arith, h))
number-cells (x ∷ xs) b r h e f =
    let whole : take (length (x ∷ xs) - 1) xs ≡ xs = take_all (length (x ∷ xs) - 1) xs (omega arith) in
    rw (e, f, whole) refl

-- what a file has at a place, cut at its end
pub number_at-cut : (file : List ℕ) (at width k m : ℕ)
    → k ≡ min at (length file)
    → m ≡ min width (length (take (length file - k) (drop k file)))
    → number_written (take m (take (length file - k) (drop k file))) ≡ number_in_file file at width
unfolding number_in_file
number_at-cut file at width k m e f =
    let rest : take (length file - k) (drop k file) ≡ drop at file = take_rest file k ∙ ap (λ i. drop i file) e ∙ drop_min at file in
    ap (λ i. number_written (take i (take (length file - k) (drop k file)))) f
    ∙ ap number_written (take_min width (take (length file - k) (drop k file))) ∙ ap (λ t. number_written (take width t)) rest

-- one more byte of a number that is put
pub put_next : (out new : List ℕ) (width counter rest : ℕ)
    → counter < width
    → new ≡ out ++ rest % 256 ∷ []
    → new ++ little_endian (width - (counter + 1)) (rest / 256) ≡ out ++ little_endian (width - counter) rest
put_next out new width counter rest h e =
    ap (λ t. t ++ little_endian (width - (counter + 1)) (rest / 256)) e
    ∙ append_assoc out (rest % 256 ∷ []) (little_endian (width - (counter + 1)) (rest / 256))
    ∙ ap (λ w. out ++ rest % 256 ∷ little_endian w (rest / 256)) (omega (arith, h))
    ∙ ap (λ t. out ++ t) (sym (little_endian-next (width - counter) rest (omega (arith, h))))
