-- Each text has tokens or a cause for which it is refused.
use Rattle.std.proofs.Common.{◌≡◌, ℕ, zero, suc, ◌+◌, ◌-◌, ◌<◌, ◌≤◌, List, [], length, take, drop, false, nat_lt, refl, ◌∙◌, ap, subst, arith, inl, inr}
use Rattle.std.specs.Prelude.{IsUtf8}
use Rattle.std.specs.Str.{is_utf8, IsValidUpTo}
use Rattle.std.specs.Str.Lossy.{valid_len_up_to}
use Rattle.std.proofs.Math.Seq.{take-length}
use Rattle.std.proofs.lemmas.List.{length-drop, take_all}
use Rattle.std.proofs.lemmas.Str.{IsUtf8-nil, IsUtf8-from_is_utf8, is_utf8-from_IsUtf8}
use Rattle.std.proofs.lemmas.Bool.Decides.{nat_tests}
use Rattle.htt_lexer.specs.declared.pieces.Piece.{Piece}
use Rattle.htt_lexer.specs.declared.pieces.Piece.TheVariants.{End, Gap, Token, NoToken, TooLarge}
use Rattle.htt_lexer.specs.declared.lexer.LexStop.TheVariants.{NotUtf8, BadChar, LiteralTooLarge}
use Rattle.htt_lexer.specs.Tokens.{IsGap, IsToken, Reads}
use Rattle.htt_lexer.specs.Pieces.{piece_of}
use Rattle.htt_lexer.specs.Laws.{HasAnswer}
use Rattle.htt_lexer.proofs.Rows.{by_cond, by_test}
use Rattle.htt_lexer.proofs.Fronts.{nothing}
use Rattle.htt_lexer.proofs.Cutting.{Tokens, Cutting, cutting_begun, cut_at, cut_within, cutting_gap, cutting_token}

-- ---- the longest front that is UTF-8

front_valid : (bytes : List ℕ) (n : ℕ) → IsUtf8 (take (valid_len_up_to bytes n) bytes)
front_valid bytes zero = IsUtf8-nil
front_valid bytes (suc n) =
    by_cond (λ m. IsUtf8 (take m bytes)) (is_utf8 (take (suc n) bytes)) (suc n) (valid_len_up_to bytes n)
    (λ valid. IsUtf8-from_is_utf8 (take (suc n) bytes) valid)
    (λ _. front_valid bytes n)

valid_within : (bytes : List ℕ) (n : ℕ) → valid_len_up_to bytes n ≤ n
valid_within bytes zero = omega arith
valid_within bytes (suc n) =
    by_cond (λ m. m ≤ suc n) (is_utf8 (take (suc n) bytes)) (suc n) (valid_len_up_to bytes n)
    (λ _. omega arith) (λ _. omega (arith, valid_within bytes n))

one_more : (bytes : List ℕ) (n m : ℕ)
    → is_utf8 (take (suc n) bytes) ≡ false
    → (m ≤ n → is_utf8 (take m bytes) ≡ false)
    → m ≤ suc n
    → is_utf8 (take m bytes) ≡ false
one_more bytes n m invalid below high =
    by_test (nat_lt m (suc n))
    (λ less. below (grind (arith, nat_tests)))
    (λ more. let same : m ≡ suc n = grind (arith, nat_tests) in ap (λ k. is_utf8 (take k bytes)) same ∙ invalid)

not_valid : (bytes : List ℕ) (n m : ℕ) → valid_len_up_to bytes n < m → m ≤ n → is_utf8 (take m bytes) ≡ false
not_valid bytes zero m = λ low high. absurd (omega (arith, low, high))
not_valid bytes (suc n) m =
    by_cond (λ k. k < m → m ≤ suc n → is_utf8 (take m bytes) ≡ false) (is_utf8 (take (suc n) bytes)) (suc n) (valid_len_up_to bytes n)
    (λ _ low high. absurd (omega (arith, low, high)))
    (λ invalid low high. one_more bytes n m invalid (not_valid bytes n m low) high)

strictly : (bytes : List ℕ) (n k : ℕ) → k ≤ n → IsUtf8 (take k bytes) → is_utf8 (take n bytes) ≡ false → k < n
strictly bytes n k within valid invalid =
    by_test (nat_lt k n)
    (λ less. grind (arith, nat_tests))
    (λ more.
    let same : k ≡ n = grind (arith, nat_tests) in
    let told = is_utf8-from_IsUtf8 (take k bytes) valid in
    let both = ap (λ m. is_utf8 (take m bytes)) same in
    cc)

longer : (bytes : List ℕ) (m : ℕ) → is_utf8 bytes ≡ false → (m ≤ length bytes → is_utf8 (take m bytes) ≡ false) → ¬ (IsUtf8 (take m bytes))
longer bytes m invalid within u =
    let told = is_utf8-from_IsUtf8 (take m bytes) u in
    by_test (nat_lt (length bytes) m)
    (λ less. let whole = ap is_utf8 (take_all m bytes (grind (arith, nat_tests))) in cc)
    (λ more. let none = within (grind (arith, nat_tests)) in cc)

stops_there : (bytes : List ℕ) → is_utf8 bytes ≡ false → IsValidUpTo bytes (valid_len_up_to bytes (length bytes))
stops_there bytes invalid =
    let whole : is_utf8 (take (length bytes) bytes) ≡ false = ap is_utf8 (take-length bytes) ∙ invalid in
    record {
      short = strictly bytes (length bytes) (valid_len_up_to bytes (length bytes)) (valid_within bytes (length bytes)) (front_valid bytes (length bytes)) whole;
      front = front_valid bytes (length bytes);
      longest = λ m low u. longer bytes m invalid (not_valid bytes (length bytes) m low) u;
    }

-- ---- the tokens, one piece after the other

abbrev Onward : List ℕ → ℕ → Type 0
Onward text fuel = (at : ℕ) (out : Tokens) → Cutting text at out → length text - at < fuel → HasAnswer text

step : (text : List ℕ) (fuel at : ℕ) (out : Tokens) (piece : Piece)
    → IsUtf8 text
    → Onward text fuel
    → Cutting text at out
    → length text - at < suc fuel
    → piece_of (drop at text) ≡ piece
    → HasAnswer text
step text fuel at out End u onward cutting small told =
    let empty : drop at text ≡ [] = cut_at text at out End cutting told in
    let place : at ≡ length text = omega (arith, cutting.within, length-drop at text, ap length empty) in
    inl (out, record { utf8 = u; reads = subst (λ n. Reads 0 text out n []) place (subst (λ l. Reads 0 text out at l) empty cutting.reads) })
step text fuel at out (Gap n) u onward cutting small told =
    let cut = cut_at text at out (Gap n) cutting told in
    onward (at + n) out (cutting_gap text at n out cutting cut) (omega (arith, small, cut_within IsGap text at n cutting.within cut))
step text fuel at out (Token kind n) u onward cutting small told =
    let cut = cut_at text at out (Token kind n) cutting told in
    onward (at + n) _ (cutting_token text at n kind out cutting cut)
    (omega (arith, small, cut_within (λ piece rest. IsToken piece rest kind) text at n cutting.within cut))
step text fuel at out NoToken u onward cutting small told =
    inr (BadChar at, tt, (u, record { tokens = out; left = drop at text; reads = cutting.reads; fault = nothing (drop at text) cutting.utf8 told }))
step text fuel at out TooLarge u onward cutting small told =
    inr (LiteralTooLarge at, tt, (u, record { tokens = out; left = drop at text; reads = cutting.reads; fault = cut_at text at out TooLarge cutting told }))

read_on : (text : List ℕ) → IsUtf8 text → (fuel : ℕ) → Onward text fuel
read_on text u zero at out cutting small = absurd (omega (arith, small))
read_on text u (suc fuel) at out cutting small = step text fuel at out (piece_of (drop at text)) u (read_on text u fuel) cutting small refl

of_utf8 : (text : List ℕ) → IsUtf8 text → HasAnswer text
of_utf8 text u = read_on text u (suc (length text)) 0 [] (cutting_begun text u) (omega arith)

pub some_answer : (text : List ℕ) → HasAnswer text
some_answer text =
    by_test (is_utf8 text)
    (λ valid. of_utf8 text (IsUtf8-from_is_utf8 text valid))
    (λ invalid. inr (NotUtf8 _, tt, stops_there text invalid))
