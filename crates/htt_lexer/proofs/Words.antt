-- The word at the front of a text, by its characters and by its bytes.
use Rattle.std.proofs.Common.{◌≡◌, ℕ, suc, ◌+◌, ◌<◌, ◌≤◌, List, [], ◌∷◌, ◌++◌, length, take, drop, Bool, true, false, ◌||◌, refl, sym, ◌∙◌, ap, subst, arith}
use Rattle.std.proofs.Common.{append_assoc}
use Rattle.std.specs.Prelude.{IsUtf8, ◌==◌}
use Rattle.std.specs.List.{prefix_len, take_while, list_all}
use Rattle.std.specs.Char.{encode_utf8, is_ascii_alphabetic}
use Rattle.std.specs.Str.{encode_utf8_all, chars}
use Rattle.std.proofs.Math.Seq.{take-append_seam}
use Rattle.std.proofs.lemmas.List.{take-append-drop, length-append, length-take-le}
use Rattle.std.proofs.lemmas.Str.{chars_past_char, encodes-chars, char_from_byte, cons_from_encodes, encodes-append, IsUtf8-past_char}
use Rattle.unicode_ident.specs.Ident.{is_xid_start, is_xid_continue}
use Rattle.unicode_ident.proofs.IdentLemmas.{is_xid_start-ascii, is_xid_continue-ascii, is_xid_start-is_xid_continue}
use Rattle.htt_lexer.specs.Tokens.{Stops, IsWordToken, begins_word}
use Rattle.htt_lexer.specs.Pieces.{starts_word, word_length}
use Rattle.htt_lexer.proofs.Rows.{either, equal}
use Rattle.htt_lexer.proofs.Runs.{prefix_len-run, longest_run}

-- ---- the characters of a text that begins with some

seam : (c : ℕ) (run rest : List ℕ) → encode_utf8_all (c ∷ run) ++ rest ≡ encode_utf8 c ++ (encode_utf8_all run ++ rest)
seam c run rest = append_assoc (encode_utf8 c) (encode_utf8_all run) rest

pub chars_run : (run rest : List ℕ) → IsUtf8 (encode_utf8_all run ++ rest) → chars (encode_utf8_all run ++ rest) ≡ run ++ chars rest
chars_run [] rest u = refl
chars_run (c ∷ run) rest u =
    let others = encode_utf8_all run ++ rest in
    chars_past_char (encode_utf8_all (c ∷ run) ++ rest) others c u (seam c run rest)
    ∙ ap (λ cs. c ∷ cs) (chars_run run rest (IsUtf8-past_char (encode_utf8_all (c ∷ run) ++ rest) others c u (seam c run rest)))

pub rest_utf8 : (run rest : List ℕ) → IsUtf8 (encode_utf8_all run ++ rest) → IsUtf8 rest
rest_utf8 [] rest u = u
rest_utf8 (c ∷ run) rest u = rest_utf8 run rest (IsUtf8-past_char (encode_utf8_all (c ∷ run) ++ rest) (encode_utf8_all run ++ rest) c u (seam c run rest))

-- ---- where a word stops
abbrev Ends : List ℕ → Type 0
Ends rest = (d : ℕ) (after : List ℕ) → rest ≡ encode_utf8 d ++ after → is_xid_continue d ≡ false

stops-from_ends : (cs : List ℕ) → Ends (encode_utf8_all cs) → Stops is_xid_continue cs
stops-from_ends [] ends = tt
stops-from_ends (d ∷ cs) ends = ends d (encode_utf8_all cs) refl

ends-from_stops : (cs : List ℕ) → Stops is_xid_continue cs → Ends (encode_utf8_all cs)
ends-from_stops [] stops d after e = let first = cons_from_encodes [] after d e in cc
ends-from_stops (c ∷ cs) stops d after e =
    let first = cons_from_encodes (c ∷ cs) after d e in
    let same : c ≡ d = cc in
    ap is_xid_continue (sym same) ∙ stops

-- ---- a character that begins a word goes on with it, and of the ASCII ones only letters and `_` do

abbrev pub is_letter : ℕ → Bool
is_letter b = is_ascii_alphabetic b || b == 95

pub begins-goes_on : (c : ℕ) → begins_word c ≡ true → is_xid_continue c ≡ true
begins-goes_on c =
    either (is_xid_start c) (c == 95) (is_xid_continue c ≡ true) (is_xid_start-is_xid_continue c)
    (λ low. let same : c ≡ 95 = equal c 95 low in rw same (is_xid_continue-ascii 95 (omega arith)))

pub begins-ascii : (b : ℕ) → b < 128 → begins_word b ≡ is_letter b
begins-ascii b h = rw (is_xid_start-ascii b h) refl

first_char : (b : ℕ) (bytes cs : List ℕ) → encode_utf8_all cs ≡ b ∷ bytes → starts_word cs ≡ true → b < 128 → is_letter b ≡ true
first_char b bytes [] e starts small = cc
first_char b bytes (c ∷ cs) e starts small =
    let same : c ≡ b = char_from_byte (b ∷ bytes) (encode_utf8_all cs) c (sym e) small (omega arith) in
    sym (begins-ascii b small) ∙ ap begins_word (sym same) ∙ starts

-- the first byte of a text where a word begins is a letter if it is ASCII
pub word_byte : (b : ℕ) (bytes : List ℕ) → IsUtf8 (b ∷ bytes) → starts_word (chars (b ∷ bytes)) ≡ true → b < 128 → is_letter b ≡ true
word_byte b bytes u starts small = first_char b bytes (chars (b ∷ bytes)) (encodes-chars (b ∷ bytes) u) starts small

-- ---- the word that the grammar has is the one that is found

pub record Found (text : List ℕ) (n : ℕ) : Type 0 where
  pub starts : starts_word (chars text) ≡ true
  pub size : word_length (chars text) ≡ n

pub word_found : (c : ℕ) (others rest : List ℕ) → IsWordToken c others rest → IsUtf8 (encode_utf8_all (c ∷ others) ++ rest) →
    Found (encode_utf8_all (c ∷ others) ++ rest) (length (encode_utf8_all (c ∷ others)))
word_found c others rest w u =
    let told = chars_run (c ∷ others) rest u in
    let after = rest_utf8 (c ∷ others) rest u in
    let goes : is_xid_continue c ≡ true = begins-goes_on c w.begins in
    let passes : list_all is_xid_continue (c ∷ others) ≡ true = rw goes w.goes_on in
    let stops = stops-from_ends (chars rest) (subst Ends (sym (encodes-chars rest after)) w.stops) in
    let n = prefix_len-run is_xid_continue (c ∷ others) (chars rest) passes stops in
    let run = ap (λ cs. take_while is_xid_continue cs) told ∙ ap (λ m. take m ((c ∷ others) ++ chars rest)) n ∙ take-append_seam (c ∷ others) (chars rest) in
    record { starts = ap starts_word told ∙ w.begins; size = ap (λ cs. length (encode_utf8_all cs)) run }

-- ---- the word that is found is one of the grammar

pub record HasWord (text : List ℕ) (n : ℕ) : Type 0 where
  pub c : ℕ
  pub others : List ℕ
  pub rest : List ℕ
  pub whole : text ≡ encode_utf8_all (c ∷ others) ++ rest
  pub size : n ≡ length (encode_utf8_all (c ∷ others))
  pub is : IsWordToken c others rest

word_in : (text cs : List ℕ) → encode_utf8_all cs ≡ text → starts_word cs ≡ true → HasWord text (word_length cs)
word_in text [] e starts = cc
word_in text (c ∷ cs) e starts =
    let k = prefix_len is_xid_continue cs in
    let longest = longest_run is_xid_continue cs in
    let goes : is_xid_continue c ≡ true = begins-goes_on c starts in
    let one_more : 1 + k ≡ suc k = omega arith in
    let n : prefix_len is_xid_continue (c ∷ cs) ≡ suc k = rw goes one_more in
    record {
      c = c;
      others = take k cs;
      rest = encode_utf8_all (drop k cs);
      whole = sym e ∙ ap (λ l. encode_utf8_all (c ∷ l)) (sym (take-append-drop k cs)) ∙ encodes-append (c ∷ take k cs) (drop k cs);
      size = ap (λ m. length (encode_utf8_all (take m (c ∷ cs)))) n;
      is = record { begins = starts; goes_on = longest.passes; stops = ends-from_stops (drop k cs) longest.stops };
    }

pub word_at : (text : List ℕ) → IsUtf8 text → starts_word (chars text) ≡ true → HasWord text (word_length (chars text))
word_at text u starts = word_in text (chars text) (encodes-chars text u) starts

-- ---- the length that is found is within the text

chars_front : (p : ℕ → Bool) (cs : List ℕ) → length (encode_utf8_all (take_while p cs)) ≤ length (encode_utf8_all cs)
chars_front p cs =
    let k = prefix_len p cs in
    omega (
      arith,
      length-append (encode_utf8_all (take k cs)) (encode_utf8_all (drop k cs)),
      ap length (sym (encodes-append (take k cs) (drop k cs)) ∙ ap encode_utf8_all (take-append-drop k cs)),
    )

pub word_length_within : (text bytes : List ℕ) (n : ℕ) → IsUtf8 text → bytes ≡ text → n ≡ word_length (chars text) → n ≡ length (take n bytes)
word_length_within text bytes n u same told =
    let size : length (encode_utf8_all (chars text)) ≡ length text = ap length (encodes-chars text u) in
    sym (length-take-le n bytes (omega (arith, ap length same, told, chars_front is_xid_continue (chars text), size)))
