-- A number is read as it was written, and bytes are written as they were read.
use Rattle.std.proofs.Common.{◌≡◌, ℕ, zero, suc, ◌+◌, ◌*◌, ◌/◌, ◌%◌, ◌^◌, ◌<◌, List, [], ◌∷◌, length, take, drop, refl, ap, arith, inl, inr}
use Rattle.std.proofs.lemmas.Bool.{cases_lt}
use Rattle.std.proofs.lemmas.List.{length-take, get_or-drop, get_or-take, get_or_past}
use Rattle.std.proofs.lemmas.Nat.{div-add-mod', div_below}
use Rattle.word_loader_format.specs.Numbers.{little_endian, number_written, number_in_file}
use Rattle.word_loader_format.specs.Laws.{AreBytes}

pub AreBytes-drop : (n : ℕ) (b : List ℕ) → AreBytes b → AreBytes (drop n b)
AreBytes-drop n b h i = rw get_or-drop (h (n + i))

pub AreBytes-take : (n : ℕ) (b : List ℕ) → AreBytes b → AreBytes (take n b)
AreBytes-take n b h i =
    elim (cases_lt i n) [
      | inl lt ↦ rw (get_or-take n b i 0 lt) (h i)
      | inr le ↦ rw (get_or_past (take n b) i 0 (omega (arith, length-take n b))) (omega arith)
    ]

pub length-little_endian : (width n : ℕ) → length (little_endian width n) ≡ width
unfolding little_endian
length-little_endian zero n = refl
length-little_endian (suc width) n = ap suc (length-little_endian width (n / 256))

-- what was written is read again
pub number-little_endian : (width n : ℕ) → n < 256 ^ width → number_written (little_endian width n) ≡ n
unfolding little_endian number_written
number-little_endian zero n h = omega (arith, h)
number-little_endian (suc width) n h =
    let below : n / 256 < 256 ^ width = div_below n 256 (256 ^ width) (omega arith) (omega (arith, h)) in
    omega (arith, number-little_endian width (n / 256) below, div-add-mod' n 256)

-- what was read is written again
pub little_endian-number : (bytes : List ℕ) → AreBytes bytes → little_endian (length bytes) (number_written bytes) ≡ bytes
unfolding little_endian number_written
little_endian-number [] h = refl
little_endian-number (b ∷ bytes) h =
    let first : (b + 256 * number_written bytes) % 256 ≡ b = omega (arith, h 0) in
    let others : (b + 256 * number_written bytes) / 256 ≡ number_written bytes = omega (arith, h 0) in
    rw (first, others) (ap (λ t. b ∷ t) (little_endian-number bytes (λ i. h (suc i))))

pub number-below : (width : ℕ) (bytes : List ℕ) → AreBytes bytes → number_written (take width bytes) < 256 ^ width
unfolding number_written
number-below zero bytes h = omega arith
number-below (suc width) [] h = omega (arith, number-below width [] h)
number-below (suc width) (b ∷ bytes) h = omega (arith, number-below width bytes (λ i. h (suc i)), h 0)

pub number_at-below : (file : List ℕ) (at width : ℕ) → AreBytes file → number_in_file file at width < 256 ^ width
unfolding number_in_file
number_at-below file at width h = number-below width (drop at file) (AreBytes-drop at file h)
