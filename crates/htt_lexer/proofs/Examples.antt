-- The worked examples, piece by piece.
use Rattle.std.proofs.Common.{◌≡◌, ℕ, zero, suc, ◌+◌, ◌<◌, List, [], ◌∷◌, ◌++◌, length, take, drop, true, false, refl, ap, subst, arith}
use Rattle.std.specs.Prelude.{IsUtf8, codes}
use Rattle.std.specs.Char.{encode_utf8}
use Rattle.std.specs.Str.{is_utf8, chars}
use Rattle.std.proofs.Math.Seq.{take-nil}
use Rattle.std.proofs.lemmas.List.{length-drop}
use Rattle.std.proofs.lemmas.Str.{IsUtf8-from_is_utf8, is_utf8-from_IsUtf8}
use Rattle.unicode_ident.proofs.Computing.{unicode_ident}
use Rattle.htt_lexer_tokens.specs.declared.tokens.Keyword.TheVariants as words
use Rattle.htt_lexer_tokens.specs.declared.tokens.Sign.TheVariants as signs
use Rattle.htt_lexer_tokens.specs.declared.tokens.Kind.{Kind}
use Rattle.htt_lexer_tokens.specs.declared.tokens.Kind.TheVariants.{Name, Number, Keyword, Sign}
use Rattle.htt_lexer.specs.declared.pieces.Piece.TheVariants.{End, Gap, Token, NoToken, TooLarge}
use Rattle.htt_lexer.specs.declared.lexer.LexStop.TheVariants.{NotUtf8, BadChar, LiteralTooLarge}
use Rattle.htt_lexer.specs.Tables.{keyword_table, sign_table}
use Rattle.htt_lexer.specs.Tokens.{AreTokens, Reads}
use Rattle.htt_lexer.specs.Refusals.{RefusesText}
use Rattle.htt_lexer.specs.Pieces.{piece_of}
use Rattle.htt_lexer.specs.Examples.{WorkedExamples, a}
use Rattle.htt_lexer.proofs.Fronts.{nothing}
use Rattle.htt_lexer.proofs.Cutting.{Tokens, Cutting, cutting_begun, cut_at, cutting_gap, cutting_token}

begun : (text : List ℕ) → is_utf8 text ≡ true → Cutting text 0 []
begun text u = cutting_begun text (IsUtf8-from_is_utf8 text u)

next_gap : {text : List ℕ} {at : ℕ} {out : Tokens} (n : ℕ) → Cutting text at out → piece_of (drop at text) ≡ Gap n → Cutting text (at + n) out
next_gap {text = text} {at = at} {out = out} n cutting e = cutting_gap text at n out cutting (cut_at text at out (Gap n) cutting e)

next : {text : List ℕ} {at : ℕ} {out : Tokens} (kind : Kind) (n : ℕ)
    → Cutting text at out
    → piece_of (drop at text) ≡ Token kind n
    → Cutting text (at + n) (out ++ a kind at (at + n) ∷ [])
next {text = text} {at = at} {out = out} kind n cutting e = cutting_token text at n kind out cutting (cut_at text at out (Token kind n) cutting e)

all_read : (text : List ℕ) (at : ℕ) (out : Tokens) → is_utf8 text ≡ true → Cutting text at out → piece_of (drop at text) ≡ End → AreTokens text out
all_read text at out u cutting e =
    let empty : drop at text ≡ [] = cut_at text at out End cutting e in
    let place : at ≡ length text = omega (arith, cutting.within, length-drop at text, ap length empty) in
    record { utf8 = IsUtf8-from_is_utf8 text u; reads = subst (λ n. Reads 0 text out n []) place (subst (λ l. Reads 0 text out at l) empty cutting.reads) }

bad_char : (text : List ℕ) (at : ℕ) (out : Tokens)
    → is_utf8 text ≡ true
    → Cutting text at out
    → piece_of (drop at text) ≡ NoToken
    → RefusesText text (BadChar at)
bad_char text at out u cutting e =
    (IsUtf8-from_is_utf8 text u, record { tokens = out; left = drop at text; reads = cutting.reads; fault = nothing (drop at text) cutting.utf8 e })

too_large : (text : List ℕ) (at : ℕ) (out : Tokens)
    → is_utf8 text ≡ true
    → Cutting text at out
    → piece_of (drop at text) ≡ TooLarge
    → RefusesText text (LiteralTooLarge at)
too_large text at out u cutting e =
    (IsUtf8-from_is_utf8 text u, record { tokens = out; left = drop at text; reads = cutting.reads; fault = cut_at text at out TooLarge cutting e })

empty : AreTokens [] []
unfolding is_utf8 chars encode_utf8
empty = all_read [] 0 [] refl (begun [] refl) refl

number_then_name : AreTokens (codes "1a") (a (Number 1) 0 1 ∷ a Name 1 2 ∷ [])
unfolding is_utf8 chars encode_utf8 unicode_ident keyword_table
number_then_name = all_read (codes "1a") 2 _ refl (next Name 1 (next (Number 1) 1 (begun (codes "1a") refl) refl) refl) refl

leading_zeros : AreTokens (codes "007") (a (Number 7) 0 3 ∷ [])
unfolding is_utf8 chars encode_utf8
leading_zeros = all_read (codes "007") 3 _ refl (next (Number 7) 3 (begun (codes "007") refl) refl) refl

longest_sign : AreTokens (codes "<--") (a (Sign signs.LeftArrowSign) 0 2 ∷ a (Sign signs.MinusSign) 2 3 ∷ [])
unfolding is_utf8 chars encode_utf8 unicode_ident sign_table
longest_sign = all_read (codes "<--") 3 _ refl (next (Sign signs.MinusSign) 1 (next (Sign signs.LeftArrowSign) 2 (begun (codes "<--") refl) refl) refl) refl

comment_of_three : AreTokens (codes "-->") []
unfolding is_utf8 chars encode_utf8
comment_of_three = all_read (codes "-->") 3 _ refl (next_gap 3 (begun (codes "-->") refl) refl) refl

sign_then_comment : AreTokens (codes "|--") (a (Sign signs.BarSign) 0 1 ∷ [])
unfolding is_utf8 chars encode_utf8 unicode_ident sign_table
sign_then_comment = all_read (codes "|--") 3 _ refl (next_gap 2 (next (Sign signs.BarSign) 1 (begun (codes "|--") refl) refl) refl) refl

line_feed_ends_comment : AreTokens (45 ∷ 45 ∷ 13 ∷ 49 ∷ 10 ∷ 50 ∷ []) (a (Number 2) 5 6 ∷ [])
unfolding is_utf8 chars encode_utf8
line_feed_ends_comment =
    let text = 45 ∷ 45 ∷ 13 ∷ 49 ∷ 10 ∷ 50 ∷ [] in
    all_read text 6 _ refl (next (Number 2) 1 (next_gap 1 (next_gap 4 (begun text refl) refl) refl) refl) refl

two_names_and_a_sign : AreTokens (codes "__ _1 _") (a Name 0 2 ∷ a Name 3 5 ∷ a (Sign signs.UnderscoreSign) 6 7 ∷ [])
unfolding is_utf8 chars encode_utf8 unicode_ident keyword_table
two_names_and_a_sign =
    let text = codes "__ _1 _" in
    all_read text 7 _ refl
    (next (Sign signs.UnderscoreSign) 1 (next_gap 1 (next Name 2 (next_gap 1 (next Name 2 (begun text refl) refl) refl) refl) refl) refl)
    refl

case_tells_keywords : AreTokens (codes "emp Emp EMP") (a (Keyword words.EmpWord) 0 3 ∷ a (Keyword words.CapitalEmpWord) 4 7 ∷ a Name 8 11 ∷ [])
unfolding is_utf8 chars encode_utf8 unicode_ident keyword_table
case_tells_keywords =
    let text = codes "emp Emp EMP" in
    all_read text 11 _ refl
    (next Name 3
    (next_gap 1 (next (Keyword words.CapitalEmpWord) 3 (next_gap 1 (next (Keyword words.EmpWord) 3 (begun text refl) refl) refl) refl) refl)
    refl) refl

name_of_two_bytes : AreTokens (195 ∷ 182 ∷ []) (a Name 0 2 ∷ [])
unfolding is_utf8 chars encode_utf8 unicode_ident keyword_table
name_of_two_bytes = all_read (195 ∷ 182 ∷ []) 2 _ refl (next Name 2 (begun (195 ∷ 182 ∷ []) refl) refl) refl

last_number : AreTokens (codes "18446744073709551615") (a (Number 18446744073709551615) 0 20 ∷ [])
unfolding is_utf8 chars encode_utf8
last_number =
    let text = codes "18446744073709551615" in
    all_read text 20 _ refl (next (Number 18446744073709551615) 20 (begun text refl) refl) refl

sign_before_number : RefusesText (codes "% 18446744073709551616") (BadChar 0)
unfolding is_utf8 chars encode_utf8 unicode_ident sign_table
sign_before_number =
    let text = codes "% 18446744073709551616" in
    bad_char text 0 [] refl (begun text refl) refl

form_feed : RefusesText (49 ∷ 12 ∷ []) (BadChar 1)
unfolding is_utf8 chars encode_utf8 unicode_ident sign_table
form_feed = bad_char (49 ∷ 12 ∷ []) 1 _ refl (next (Number 1) 1 (begun (49 ∷ 12 ∷ []) refl) refl) refl

large : RefusesText (codes "x18446744073709551616 18446744073709551616") (LiteralTooLarge 22)
unfolding is_utf8 chars encode_utf8 unicode_ident keyword_table
large =
    let text = codes "x18446744073709551616 18446744073709551616" in
    too_large text 22 _ refl (next_gap 1 (next Name 21 (begun text refl) refl) refl) refl

not_text : (bytes : List ℕ) → is_utf8 bytes ≡ false → ¬ (IsUtf8 bytes)
not_text bytes e u = let told = is_utf8-from_IsUtf8 bytes u in cc

no_more : (m : ℕ) → 3 < m → ¬ (IsUtf8 (take m (45 ∷ 45 ∷ 32 ∷ 255 ∷ [])))
unfolding is_utf8 chars encode_utf8
no_more zero h = omega (arith, h)
no_more (suc zero) h = omega (arith, h)
no_more (suc (suc zero)) h = omega (arith, h)
no_more (suc (suc (suc zero))) h = omega (arith, h)
no_more (suc (suc (suc (suc m)))) h =
    not_text (take (suc (suc (suc (suc m)))) (45 ∷ 45 ∷ 32 ∷ 255 ∷ [])) (ap (λ l. is_utf8 (45 ∷ 45 ∷ 32 ∷ 255 ∷ l)) (take-nil m))

byte_in_a_comment : RefusesText (45 ∷ 45 ∷ 32 ∷ 255 ∷ []) (NotUtf8 3)
unfolding is_utf8 chars encode_utf8
byte_in_a_comment = record {
  short = omega arith;
  front = IsUtf8-from_is_utf8 (45 ∷ 45 ∷ 32 ∷ []) refl;
  longest = no_more;
}

pub worked : WorkedExamples
worked = record {
  empty = empty;
  number_then_name = number_then_name;
  leading_zeros = leading_zeros;
  longest_sign = longest_sign;
  comment_of_three = comment_of_three;
  sign_then_comment = sign_then_comment;
  line_feed_ends_comment = line_feed_ends_comment;
  two_names_and_a_sign = two_names_and_a_sign;
  case_tells_keywords = case_tells_keywords;
  name_of_two_bytes = name_of_two_bytes;
  last_number = last_number;
  sign_before_number = sign_before_number;
  form_feed = form_feed;
  large = large;
  byte_in_a_comment = byte_in_a_comment;
}
