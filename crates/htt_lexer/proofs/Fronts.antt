-- A gap or a token at the front of a text is the piece that the text's first bytes tell, and the piece
-- that is told is one of the grammar.
use Rattle.std.proofs.Common.{◌≡◌, ℕ, suc, ◌+◌, ◌^◌, ◌<◌, ◌≤◌, List, [], ◌∷◌, ◌++◌, length, take, drop, Bool, true, false, cond, refl, sym, ◌∙◌, ap, subst}
use Rattle.std.proofs.Common.{arith, nat_lt}
use Rattle.std.specs.Prelude.{◌==◌, IsUtf8, codes}
use Rattle.std.specs.List.{prefix_len}
use Rattle.std.specs.Char.{encode_utf8, is_ascii_digit}
use Rattle.std.specs.Str.{chars, encode_utf8_all}
use Rattle.std.specs.Str.Parse.{digits_value}
use Rattle.std.proofs.lemmas.Bool.Decides.{nat_tests}
use Rattle.std.proofs.Math.Seq.{take-append_seam, drop-append_seam}
use Rattle.std.proofs.lemmas.List.{take-append-drop, length-append}
use Rattle.std.proofs.lemmas.List.Sums.{prefix_len-le-length}
use Rattle.std.proofs.lemmas.Str.{chars-nil, length-encode, len_utf8_bounds}
use Rattle.htt_lexer_tokens.specs.declared.tokens.Sign.{Sign}
use Rattle.htt_lexer_tokens.specs.declared.tokens.Kind.{Kind}
use Rattle.htt_lexer_tokens.specs.declared.tokens.Kind.TheVariants as kinds
use Rattle.htt_lexer.specs.declared.pieces.Piece.{Piece}
use Rattle.htt_lexer.specs.declared.pieces.Piece.TheVariants.{End, Gap, Token, NoToken, TooLarge}
use Rattle.htt_lexer.specs.Tables.{lookup, sign_table}
use Rattle.htt_lexer.specs.Tokens.{IsLongest, IsLongestSign, IsGap, blank, comment, IsToken, word, number, sign, is_blank, is_comment, word_kind}
use Rattle.htt_lexer.specs.Refusals.{BeginsTooLarge, BeginsNothing}
use Rattle.htt_lexer.specs.Pieces.{number_of, word_piece, piece_of_number, number_piece, sign_piece, starts_word, word_length, begins_comment, comment_piece}
use Rattle.htt_lexer.specs.Pieces.{piece_of}
use Rattle.htt_lexer.proofs.Rows.{by_cond, both_true, not_true, equal, apart, is_plain, begins_plain, sign_begins, long_is_none}
use Rattle.htt_lexer.proofs.Runs.{prefix_len-run, longest_run, limited-small, limited-none, below, above}
use Rattle.htt_lexer.proofs.Words.{is_letter, word_byte, word_found, word_at}
use Rattle.htt_lexer.proofs.Signs as signs

-- ---- the first byte

blank_small : (b : ℕ) → is_blank b ≡ true → b < 128
blank_small b h = grind (arith, nat_tests)

digit_small : (b : ℕ) → is_ascii_digit b ≡ true → b < 128
digit_small b h = grind (arith, nat_tests)

digit_no_letter : (b : ℕ) → is_ascii_digit b ≡ true → is_letter b ≡ false
digit_no_letter b h = grind (arith, nat_tests)

blank_no_letter : (b : ℕ) → is_blank b ≡ true → is_letter b ≡ false
blank_no_letter b h = grind (arith, nat_tests)

digit_no_blank : (b : ℕ) → is_ascii_digit b ≡ true → is_blank b ≡ false
digit_no_blank b h =
    rw
    (apart is_ascii_digit b 32 h refl, apart is_ascii_digit b 9 h refl, apart is_ascii_digit b 13 h refl, apart is_ascii_digit b 10 h refl)
    refl

-- a byte that begins none of a comment, a blank and a number
record IsOther (b : ℕ) (bytes : List ℕ) : Type 0 where
  no_comment : begins_comment b bytes ≡ false
  no_blank : is_blank b ≡ false
  no_digit : is_ascii_digit b ≡ false

other_piece : (b : ℕ) (bytes : List ℕ)
    → IsOther b bytes
    → piece_of (b ∷ bytes) ≡ cond (starts_word (chars (b ∷ bytes))) (word_piece (b ∷ bytes)) (sign_piece (b ∷ bytes))
other_piece b bytes h = rw (h.no_comment, h.no_blank, h.no_digit) refl

-- where a word begins
word_other : (b : ℕ) (bytes : List ℕ) → IsUtf8 (b ∷ bytes) → starts_word (chars (b ∷ bytes)) ≡ true → IsOther b bytes
word_other b bytes u starts = record {
  no_comment = not_true (begins_comment b bytes) (λ e.
      let dash = equal b 45 (both_true (b == 45) _ e).0 in
      let letter = word_byte b bytes u starts (omega (arith, dash)) in
      let none : is_letter b ≡ false = ap is_letter dash in
      cc);
  no_blank = not_true (is_blank b) (λ e. let letter = word_byte b bytes u starts (blank_small b e) in let none = blank_no_letter b e in cc);
  no_digit = not_true (is_ascii_digit b) (λ e. let letter = word_byte b bytes u starts (digit_small b e) in let none = digit_no_letter b e in cc);
}

pub word_text : (text : List ℕ) → IsUtf8 text → starts_word (chars text) ≡ true → piece_of text ≡ word_piece text
word_text [] u starts = let none : starts_word (chars []) ≡ false = ap starts_word chars-nil in cc
word_text (b ∷ bytes) u starts = other_piece b bytes (word_other b bytes u starts) ∙ rw starts refl

-- where a sign begins
record IsPlain (b : ℕ) : Type 0 where
  small : b < 128
  no_blank : is_blank b ≡ false
  no_digit : is_ascii_digit b ≡ false
  no_letter : is_letter b ≡ false

plain : (b : ℕ) → is_plain b ≡ true → IsPlain b
plain b h = record {
  small = grind (arith, nat_tests);
  no_blank = grind (arith, nat_tests);
  no_digit = grind (arith, nat_tests);
  no_letter = grind (arith, nat_tests);
}

plain_text : (b : ℕ) (bytes : List ℕ) → IsUtf8 (b ∷ bytes) → begins_comment b bytes ≡ false → IsPlain b → piece_of (b ∷ bytes) ≡ sign_piece (b ∷ bytes)
plain_text b bytes u no_comment h =
    let no_word : starts_word (chars (b ∷ bytes)) ≡ false =
    not_true (starts_word (chars (b ∷ bytes)))
    (λ starts. let letter = word_byte b bytes u starts h.small in let none = h.no_letter in cc) in
    other_piece b bytes (record { no_comment = no_comment; no_blank = h.no_blank; no_digit = h.no_digit }) ∙ rw no_word refl

-- ---- the signs as a table

short : signs.IsShort (lookup sign_table)
unfolding sign_table
short = record { empty = refl; long = long_is_none }

-- ---- what stands at the front, told from the grammar

pub gap_piece : {piece rest : List ℕ} → IsGap piece rest → piece_of (piece ++ rest) ≡ Gap (length piece)
gap_piece {rest = rest} (blank {b = b} h) = rw (apart is_blank b 45 h refl, h) refl
gap_piece {rest = rest} (comment {run = run} h) = ap Gap (omega (arith, prefix_len-run is_comment run rest h.passes h.stops))

number_text : (b : ℕ) (bytes : List ℕ) → is_ascii_digit b ≡ true → piece_of (b ∷ bytes) ≡ number_piece (b ∷ bytes)
number_text b bytes h = rw (apart is_ascii_digit b 45 h refl, digit_no_blank b h, h) refl

-- a run of digits and what it writes
digits_text : (b : ℕ) (run rest : List ℕ) → IsLongest is_ascii_digit (b ∷ run) rest →
    piece_of ((b ∷ run) ++ rest) ≡ piece_of_number (number_of (b ∷ run)) (length (b ∷ run))
digits_text b run rest longest =
    let n = prefix_len-run is_ascii_digit (b ∷ run) rest longest.passes longest.stops in
    number_text b (run ++ rest) (both_true (is_ascii_digit b) _ longest.passes).0
    ∙ ap (λ m. piece_of_number (number_of (take m (b ∷ (run ++ rest)))) m) n
    ∙ ap (λ w. piece_of_number (number_of w) (length (b ∷ run))) (take-append_seam (b ∷ run) rest)

abbrev begins_dashes : List ℕ → Bool
begins_dashes [] = false
begins_dashes (b ∷ bytes) = begins_comment b bytes

begins_some : (spelling : List ℕ) → begins_plain spelling ≡ true → 0 < length spelling
begins_some [] h = cc
begins_some (b ∷ bytes) h = omega arith

-- the front of a text is no comment where it says so
no_comment_at : (spelling rest : List ℕ) (b : ℕ) (bytes : List ℕ)
    → spelling ++ rest ≡ b ∷ bytes
    → ((after : List ℕ) → spelling ++ rest ≡ codes "--" ++ after → ⊥)
    → begins_comment b bytes ≡ false
no_comment_at spelling rest b [] e absent = not_true (begins_comment b []) (λ h. let none = (both_true (b == 45) false h).1 in cc)
no_comment_at spelling rest b (c ∷ bytes) e absent =
    not_true (begins_comment b (c ∷ bytes)) (λ h.
    let dashes = both_true (b == 45) (c == 45) h in
    let first = equal b 45 dashes.0 in
    let second = equal c 45 dashes.1 in
    absent bytes (e ∙ ap (λ x. x ∷ c ∷ bytes) first ∙ ap (λ y. 45 ∷ y ∷ bytes) second))

sign_text : (spelling rest : List ℕ) (s : Sign)
    → IsUtf8 (spelling ++ rest)
    → IsLongestSign spelling rest s
    → piece_of (spelling ++ rest) ≡ Token (kinds.Sign s) (length spelling)
sign_text [] rest s u h = let none : begins_plain [] ≡ true = sign_begins [] s h.is in cc
sign_text (b ∷ more) rest s u h =
    plain_text b (more ++ rest) u (no_comment_at (b ∷ more) rest b (more ++ rest) refl h.no_comment) (plain b (sign_begins (b ∷ more) s h.is))
    ∙ signs.front-longest (lookup sign_table) (b ∷ more) rest s short h.is h.longest

pub token_piece : {piece rest : List ℕ} {kind : Kind} → IsUtf8 (piece ++ rest) → IsToken piece rest kind → piece_of (piece ++ rest) ≡ Token kind (length piece)
token_piece {rest = rest} u (word {c = c} {others = others} w) =
    let letters = encode_utf8_all (c ∷ others) in
    let found = word_found c others rest w u in
    word_text (letters ++ rest) u found.starts
    ∙ ap (λ m. Token (word_kind (take m (letters ++ rest))) m) found.size
    ∙ ap (λ l. Token (word_kind l) (length letters)) (take-append_seam letters rest)
token_piece {rest = rest} u (number {b = b} {run = run} longest fits) =
    digits_text b run rest longest ∙ ap (λ o. piece_of_number o (length (b ∷ run))) (limited-small (digits_value 10 (b ∷ run)) fits)
token_piece {rest = rest} u (sign {spelling = spelling} {s = s} h) = sign_text spelling rest s u h

large_digits : (text digits rest : List ℕ)
    → text ≡ digits ++ rest
    → IsLongest is_ascii_digit digits rest
    → 2 ^ 64 ≤ digits_value 10 digits
    → piece_of text ≡ TooLarge
large_digits text [] rest whole longest large = absurd (omega (arith, large))
large_digits text (b ∷ run) rest whole longest large =
    ap piece_of whole ∙ digits_text b run rest longest ∙ ap (λ o. piece_of_number o (length (b ∷ run))) (limited-none (digits_value 10 (b ∷ run)) large)

pub large_piece : (text : List ℕ) → BeginsTooLarge text → piece_of text ≡ TooLarge
large_piece text h = large_digits text h.digits h.rest h.whole h.longest h.large

-- ---- the piece that is told is one of the grammar

-- the first n bytes are such a piece before the others
pub record Cut (IsPiece : List ℕ → List ℕ → Type 0) (text : List ℕ) (n : ℕ) : Type 0 where
  pub some : 0 < n
  pub within : n ≤ length text
  pub is : IsPiece (take n text) (drop n text)

abbrev pub Cuts : List ℕ → Piece → Type 0
Cuts text End = text ≡ []
Cuts text (Gap n) = Cut IsGap text n
Cuts text (Token kind n) = Cut (λ piece rest. IsToken piece rest kind) text n
Cuts text NoToken = Unit {0}
Cuts text TooLarge = BeginsTooLarge text

comment_cut : (b : ℕ) (bytes : List ℕ) → begins_comment b bytes ≡ true → Cuts (b ∷ bytes) (comment_piece bytes)
comment_cut b [] h = let e : false ≡ true = (both_true (b == 45) false h).1 in cc
comment_cut b (c ∷ bytes) h =
    let dashes = both_true (b == 45) (c == 45) h in
    let longest = longest_run is_comment bytes in
    let first = equal b 45 dashes.0 in
    let second = equal c 45 dashes.1 in
    let n : suc (suc (prefix_len is_comment bytes)) ≡ 2 + prefix_len is_comment bytes = omega arith in
    subst (λ m. Cut IsGap (b ∷ c ∷ bytes) m) n (record {
      some = omega arith;
      within = omega (arith, prefix_len-le-length is_comment bytes);
      is = rw (first, second) (comment longest);
    })

number_cut : (b : ℕ) (bytes : List ℕ) → is_ascii_digit b ≡ true → Cuts (b ∷ bytes) (number_piece (b ∷ bytes))
number_cut b bytes h =
    let k = prefix_len is_ascii_digit bytes in
    let n : suc k ≡ prefix_len is_ascii_digit (b ∷ bytes) = rw h (omega arith) in
    let rest = longest_run is_ascii_digit bytes in
    let longest : IsLongest is_ascii_digit (b ∷ take k bytes) (drop k bytes) = record { passes = rw h rest.passes; stops = rest.stops } in
    subst (λ m. Cuts (b ∷ bytes) (piece_of_number (number_of (take m (b ∷ bytes))) m)) n
    (by_cond (λ o. Cuts (b ∷ bytes) (piece_of_number o (suc k))) (nat_lt (digits_value 10 (b ∷ take k bytes)) (2 ^ 64)) _ _
    (λ fits. record {
      some = omega arith;
      within = omega (arith, prefix_len-le-length is_ascii_digit bytes);
      is = number longest (below _ fits);
    })
    (λ large. record {
      digits = b ∷ take k bytes;
      rest = drop k bytes;
      whole = ap (λ l. b ∷ l) (sym (take-append-drop k bytes));
      longest = longest;
      large = above _ large;
    }))

-- a piece with its rest cuts the text
seam_cut : (IsPiece : List ℕ → List ℕ → Type 0) (text piece rest : List ℕ) (n : ℕ)
    → text ≡ piece ++ rest
    → n ≡ length piece
    → 0 < length piece
    → IsPiece piece rest
    → Cut IsPiece text n
seam_cut IsPiece text piece rest n whole size some is =
    let P : List ℕ → ℕ → Type 0 = λ t m. Cut IsPiece t m in
    subst (λ t. P t n) (sym whole) (subst (λ m. P (piece ++ rest) m) (sym size) (record {
      some = some;
      within = omega (arith, length-append piece rest);
      is = rw (take-append_seam piece rest, drop-append_seam piece rest) is;
    }))

some_letter : (c : ℕ) (others : List ℕ) → 0 < length (encode_utf8_all (c ∷ others))
some_letter c others = omega (arith, length-append (encode_utf8 c) (encode_utf8_all others), length-encode c, len_utf8_bounds c)

word_cut : (text : List ℕ) → IsUtf8 text → starts_word (chars text) ≡ true → Cuts text (word_piece text)
word_cut text u starts =
    let h = word_at text u starts in
    let letters = encode_utf8_all (h.c ∷ h.others) in
    let n = word_length (chars text) in
    let front : take n text ≡ letters = ap (λ m. take m text) h.size ∙ ap (λ t. take (length letters) t) h.whole ∙ take-append_seam letters h.rest in
    seam_cut (λ piece rest. IsToken piece rest (word_kind (take n text))) text letters h.rest n h.whole h.size (some_letter h.c h.others)
    (rw front (word h.is))

-- the text can't begin with a comment
not_comment : (b : ℕ) (bytes spelling rest : List ℕ)
    → begins_comment b bytes ≡ false
    → b ∷ bytes ≡ spelling ++ rest
    → (after : List ℕ)
    → spelling ++ rest ≡ codes "--" ++ after
    → ⊥
not_comment b bytes spelling rest none whole after e = let dashes = ap begins_dashes (whole ∙ e) in cc

sign_cut : (b : ℕ) (bytes : List ℕ) (piece : Piece)
    → begins_comment b bytes ≡ false
    → signs.Finds (lookup sign_table) (b ∷ bytes) piece
    → signs.OnlySigns piece
    → Cuts (b ∷ bytes) piece
sign_cut b bytes (Token (kinds.Sign s) n) none h only =
    let plain_start = sign_begins h.spelling s h.is in
    seam_cut (λ piece rest. IsToken piece rest (kinds.Sign s)) (b ∷ bytes) h.spelling h.rest n h.whole h.size (begins_some h.spelling plain_start)
    (sign (record { is = h.is; longest = h.longest; no_comment = not_comment b bytes h.spelling h.rest none h.whole }))
sign_cut b bytes NoToken none h only = tt
sign_cut b bytes piece none h only = absurd only

pub cuts : (text : List ℕ) → IsUtf8 text → Cuts text (piece_of text)
cuts [] u = refl
cuts (b ∷ bytes) u =
    let P : Piece → Type 0 = λ piece. Cuts (b ∷ bytes) piece in
    by_cond P (begins_comment b bytes) _ _ (comment_cut b bytes) (λ none.
    by_cond P (is_blank b) _ _ (λ h. record { some = omega arith; within = omega arith; is = blank h }) (λ _.
    by_cond P (is_ascii_digit b) _ _ (number_cut b bytes) (λ _.
    by_cond P (starts_word (chars (b ∷ bytes))) _ _ (word_cut (b ∷ bytes) u) (λ _.
    sign_cut b bytes (sign_piece (b ∷ bytes)) none (signs.finds (lookup sign_table) (b ∷ bytes) short) (signs.only_signs (lookup sign_table) (b ∷ bytes))))))

not_at_end : (text : List ℕ) → piece_of text ≡ NoToken → 0 < length text
not_at_end [] told = cc
not_at_end (b ∷ bytes) told = omega arith

-- where no piece is told, nothing of the grammar begins
pub nothing : (text : List ℕ) → IsUtf8 text → piece_of text ≡ NoToken → BeginsNothing text
nothing text u told = record {
  some = not_at_end text told;
  no_gap = λ piece rest e is. let other = gap_piece is in let same = ap piece_of e in cc;
  no_token = λ piece rest kind e is. let other = token_piece (subst IsUtf8 e u) is in let same = ap piece_of e in cc;
  no_number = λ h. let other = large_piece text h in cc;
}

-- a gap has a byte at least, and so has a token
pub gap_some : {piece rest : List ℕ} → IsGap piece rest → 0 < length piece
gap_some (blank h) = omega arith
gap_some (comment h) = omega arith

pub token_some : {piece rest : List ℕ} {kind : Kind} → IsToken piece rest kind → 0 < length piece
token_some (word {c = c} {others = others} w) = some_letter c others
token_some (number longest fits) = omega arith
token_some (sign {spelling = spelling} {s = s} h) = begins_some spelling (sign_begins spelling s h.is)
