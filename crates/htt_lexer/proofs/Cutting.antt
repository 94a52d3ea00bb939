-- The tokens of a text from one piece to the next.
use Rattle.std.proofs.Common.{◌≡◌, ℕ, ◌+◌, ◌<◌, ◌≤◌, List, [], ◌∷◌, ◌++◌, length, take, drop, Bool, true, false, refl, sym, ◌∙◌, ap, subst, arith, nat_lt}
use Rattle.std.proofs.Common.{get_or}
use Rattle.std.specs.Prelude.{IsUtf8, Some}
use Rattle.std.specs.List.{list_all}
use Rattle.std.specs.Char.{is_ascii_digit}
use Rattle.std.proofs.Math.Seq.{drop-append_seam, get_or-append_seam}
use Rattle.std.proofs.lemmas.List.{take-append-drop, length-take-le, drop-drop, length-drop, length-append}
use Rattle.std.proofs.lemmas.Bool.Decides.{nat_tests}
use Rattle.std.proofs.lemmas.Str.{IsUtf8-past_char, IsUtf8-drop, IsUtf8-nil, IsCharBoundary-before_ascii, encode_ascii}
use Rattle.htt_lexer_tokens.specs.declared.tokens.Kind.{Kind}
use Rattle.htt_lexer_tokens.specs.declared.tokens.Sign.{Sign}
use Rattle.htt_lexer_tokens.specs.declared.tokens.Token as tokens
use Rattle.htt_lexer.specs.declared.pieces.Piece.{Piece}
use Rattle.htt_lexer.specs.Tables.{lookup, sign_table}
use Rattle.htt_lexer.specs.Tokens.{Stops, IsGap, blank, comment, IsToken, word, number, sign, is_blank, is_comment, Reads, here, gap, token}
use Rattle.htt_lexer.specs.Pieces.{piece_of}
use Rattle.htt_lexer.proofs.Rows.{both_true, of_row}
use Rattle.htt_lexer.proofs.Words.{rest_utf8}
use Rattle.htt_lexer.proofs.Fronts.{Cut, Cuts, cuts}

abbrev pub Tokens : Type 0
Tokens = List tokens.Token

-- ---- what follows a piece of a UTF-8 text is UTF-8

past_byte : (b : ℕ) (rest : List ℕ) → b < 128 → IsUtf8 (b ∷ rest) → IsUtf8 rest
past_byte b rest small u = IsUtf8-past_char (b ∷ rest) rest b u (ap (λ l. l ++ rest) (sym (encode_ascii b small)))

past_run : (p : ℕ → Bool) → ((b : ℕ) → p b ≡ true → b < 128) → (run rest : List ℕ) → list_all p run ≡ true → IsUtf8 (run ++ rest) → IsUtf8 rest
past_run p small [] rest passes u = u
past_run p small (b ∷ run) rest passes u =
    let h = both_true (p b) (list_all p run) passes in
    past_run p small run rest h.1 (past_byte b (run ++ rest) (small b h.0) u)

blank_small : (b : ℕ) → is_blank b ≡ true → b < 128
blank_small b h = grind (arith, nat_tests)

digit_small : (b : ℕ) → is_ascii_digit b ≡ true → b < 128
digit_small b h = grind (arith, nat_tests)

abbrev is_small : ℕ → Bool
is_small b = nat_lt b 128

small : (b : ℕ) → is_small b ≡ true → b < 128
small b h = grind (arith, nat_tests)

sign_small : (spelling : List ℕ) (s : Sign) → lookup sign_table spelling ≡ Some s → list_all is_small spelling ≡ true
unfolding sign_table
sign_small spelling s = of_row (list_all is_small) sign_table spelling s refl

line_feed : (b : ℕ) → is_comment b ≡ false → b < 128
line_feed b h = grind (arith, nat_tests)

past_comment : (piece rest : List ℕ) → Stops is_comment rest → IsUtf8 (piece ++ rest) → IsUtf8 rest
past_comment piece [] stops u = IsUtf8-nil
past_comment piece (b ∷ rest) stops u =
    let text = piece ++ b ∷ rest in
    let at = length piece in
    let byte : get_or text at 0 ≡ b = get_or-append_seam piece b rest 0 in
    let boundary = IsCharBoundary-before_ascii text at (omega (arith, length-append piece (b ∷ rest))) (omega (arith, byte, line_feed b stops)) in
    subst IsUtf8 (drop-append_seam piece (b ∷ rest)) (IsUtf8-drop text at u boundary)

pub past_gap : {piece rest : List ℕ} → IsGap piece rest → IsUtf8 (piece ++ rest) → IsUtf8 rest
past_gap {rest = rest} (blank {b = b} h) u = past_byte b rest (blank_small b h) u
past_gap {rest = rest} (comment {run = run} h) u = past_comment (45 ∷ 45 ∷ run) rest h.stops u

pub past_token : {piece rest : List ℕ} {kind : Kind} → IsToken piece rest kind → IsUtf8 (piece ++ rest) → IsUtf8 rest
past_token {rest = rest} (word {c = c} {others = others} w) u = rest_utf8 (c ∷ others) rest u
past_token {rest = rest} (number {b = b} {run = run} longest fits) u = past_run is_ascii_digit digit_small (b ∷ run) rest longest.passes u
past_token {rest = rest} (sign {spelling = spelling} {s = s} h) u = past_run is_small small spelling rest (sign_small spelling s h.is) u

-- ---- one more piece

pub read_gap : {at to : ℕ} {text left : List ℕ} {ts : Tokens} (piece rest : List ℕ)
    → Reads at text ts to left
    → left ≡ piece ++ rest
    → IsGap piece rest
    → Reads at text ts (to + length piece) rest
read_gap piece rest (here {at = at}) e is = subst (λ t. Reads at t [] (at + length piece) rest) (sym e) (gap is here)
read_gap piece rest (gap g reads) e is = gap g (read_gap piece rest reads e is)
read_gap piece rest (token t reads) e is = token t (read_gap piece rest reads e is)

pub read_token : {at to : ℕ} {text left : List ℕ} {ts : Tokens} (piece rest : List ℕ) (kind : Kind)
    → Reads at text ts to left
    → left ≡ piece ++ rest
    → IsToken piece rest kind
    → Reads at text (ts ++ record { kind = kind; from = to; to = to + length piece } ∷ []) (to + length piece) rest
read_token piece rest kind (here {at = at}) e is =
    subst (λ t. Reads at t (record { kind = kind; from = at; to = at + length piece } ∷ []) (at + length piece) rest) (sym e) (token is here)
read_token piece rest kind (gap g reads) e is = gap g (read_token piece rest kind reads e is)
read_token piece rest kind (token t reads) e is = token t (read_token piece rest kind reads e is)

-- ---- the loop: out are the tokens before the byte `at`

pub record Cutting (text : List ℕ) (at : ℕ) (out : Tokens) : Type 0 where
  pub within : at ≤ length text
  pub utf8 : IsUtf8 (drop at text)
  pub reads : Reads 0 text out at (drop at text)

pub cutting_begun : (text : List ℕ) → IsUtf8 text → Cutting text 0 []
cutting_begun text u = record { within = omega arith; utf8 = u; reads = here }

pub cut_at : (text : List ℕ) (at : ℕ) (out : Tokens) (piece : Piece) → Cutting text at out → piece_of (drop at text) ≡ piece → Cuts (drop at text) piece
cut_at text at out piece cutting e = subst (Cuts (drop at text)) e (cuts (drop at text) cutting.utf8)

-- a piece has a byte at least, and ends within the text
pub cut_within : (IsPiece : List ℕ → List ℕ → Type 0) (text : List ℕ) (at n : ℕ)
    → at ≤ length text
    → Cut IsPiece (drop at text) n
    → (0 < n) × (at + n ≤ length text)
cut_within IsPiece text at n within cut = (cut.some, omega (arith, cut.within, length-drop at text))

-- the seam after a piece of n bytes
whole_at : (text : List ℕ) (at n : ℕ) → drop at text ≡ take n (drop at text) ++ drop (at + n) text
whole_at text at n = sym (take-append-drop n (drop at text)) ∙ ap (λ l. take n (drop at text) ++ l) (drop-drop n at text)

pub cutting_gap : (text : List ℕ) (at n : ℕ) (out : Tokens) → Cutting text at out → Cut IsGap (drop at text) n → Cutting text (at + n) out
cutting_gap text at n out cutting cut =
    let piece = take n (drop at text) in
    let rest : drop n (drop at text) ≡ drop (at + n) text = drop-drop n at text in
    let is : IsGap piece (drop (at + n) text) = subst (IsGap piece) rest cut.is in
    let size : at + length piece ≡ at + n = ap (λ m. at + m) (length-take-le n (drop at text) cut.within) in
    record {
      within = omega (arith, cut.within, cutting.within, length-drop at text);
      utf8 = past_gap is (subst IsUtf8 (whole_at text at n) cutting.utf8);
      reads = subst (λ m. Reads 0 text out m (drop (at + n) text)) size (read_gap piece (drop (at + n) text) cutting.reads (whole_at text at n) is);
    }

pub cutting_token : (text : List ℕ) (at n : ℕ) (kind : Kind) (out : Tokens)
    → Cutting text at out
    → Cut (λ piece rest. IsToken piece rest kind) (drop at text) n
    → Cutting text (at + n) (out ++ record { kind = kind; from = at; to = at + n } ∷ [])
cutting_token text at n kind out cutting cut =
    let piece = take n (drop at text) in
    let rest : drop n (drop at text) ≡ drop (at + n) text = drop-drop n at text in
    let is : IsToken piece (drop (at + n) text) kind = subst (λ r. IsToken piece r kind) rest cut.is in
    let size : at + length piece ≡ at + n = ap (λ m. at + m) (length-take-le n (drop at text) cut.within) in
    record {
      within = omega (arith, cut.within, cutting.within, length-drop at text);
      utf8 = past_token is (subst IsUtf8 (whole_at text at n) cutting.utf8);
      reads =
          subst (λ m. Reads 0 text (out ++ record { kind = kind; from = at; to = m } ∷ []) m (drop (at + n) text)) size
          (read_token piece (drop (at + n) text) kind cutting.reads (whole_at text at n) is);
    }
