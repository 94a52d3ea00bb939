-- What std's searches in a text say of the word at its front.
use Rattle.std.proofs.Common.{◌≡◌, ℕ, ◌≤◌, List, [], ◌∷◌, ◌++◌, length, take, drop, Bool, true, false, refl, sym, ◌∙◌, ap, subst, append-nil}
use Rattle.std.specs.Prelude.{Option, Some, None, IsUtf8, not}
use Rattle.std.specs.Bool.{MatchBool}
use Rattle.std.specs.Option.{MatchOption, unwrap_or}
use Rattle.std.specs.List.{list_all}
use Rattle.std.specs.Char.{IsScalar}
use Rattle.std.specs.Str.{chars, encode_utf8_all, all_scalars, NonePass, NoCharPasses}
use Rattle.std.specs.Str.Pattern.{FindsBy, FindsPrefixBy, HasPrefixMatch, MatchBeginsAt}
use Rattle.std.proofs.Math.Utf8.{scalar}
use Rattle.std.proofs.Math.Seq.{take-append_seam}
use Rattle.std.proofs.lemmas.List.{take-append-drop, length-take-le}
use Rattle.std.proofs.lemmas.Str.{chars_past_char, chars_from_encodes, encodes-chars, scalars-chars}
use Rattle.unicode_ident.specs.Ident.{is_xid_continue}
use Rattle.htt_lexer.specs.Tokens.{Stops, begins_word}
use Rattle.htt_lexer.specs.Pieces.{starts_word, word_length}
use Rattle.htt_lexer.proofs.Rows.{both_true}
use Rattle.htt_lexer.proofs.Runs.{prefix_len-run}
use Rattle.htt_lexer.proofs.Words.{chars_run, rest_utf8}

-- ---- whether a word begins the text

first_scalar : (c : ℕ) (cs : List ℕ) → all_scalars (c ∷ cs) ≡ true → IsScalar c
first_scalar c cs h = (both_true (scalar c) (all_scalars cs) h).0

no_start : (text cs : List ℕ) → encode_utf8_all cs ≡ text → all_scalars cs ≡ true → FindsPrefixBy begins_word text None → false ≡ starts_word cs
no_start text [] e scalars none = refl
no_start text (c ∷ cs) e scalars none = sym (none c (encode_utf8_all cs) (first_scalar c cs scalars) (sym e))

-- M says that a test is the one that is searched by
pub starts_told : (M : (ℕ → Bool) → Type 0) (text : List ℕ) (r : Bool) → IsUtf8 text →
    MatchBool r (HasPrefixMatch (λ s o. (k : ℕ → Bool) → M k → FindsPrefixBy k s o) text) ((k : ℕ → Bool) → M k → FindsPrefixBy k text None) →
    M begins_word → r ≡ starts_word (chars text)
starts_told M text true u h m =
    let found = h.1 begins_word m in
    sym (ap starts_word (chars_past_char text (drop h.0 text) found.0 u found.2.split) ∙ found.1)
starts_told M text false u h m = no_start text (chars text) (encodes-chars text u) (scalars-chars text u) (h begins_word m)

-- ---- where the word ends

abbrev pub ends_word : ℕ → Bool
ends_word c = not (is_xid_continue c)

goes_on : (t : Bool) → not t ≡ false → t ≡ true
goes_on true h = refl
goes_on false h = cc

stops_there : (t : Bool) → not t ≡ true → t ≡ false
stops_there true h = cc
stops_there false h = refl

all_go_on : (cs : List ℕ) → NonePass ends_word cs → list_all is_xid_continue cs ≡ true
all_go_on [] h = refl
all_go_on (c ∷ cs) h = rw (goes_on (is_xid_continue c) h.0) (all_go_on cs h.1)

run_length : (cs rest : List ℕ) → list_all is_xid_continue cs ≡ true → Stops is_xid_continue rest → word_length (cs ++ rest) ≡ length (encode_utf8_all cs)
run_length cs rest passes stops =
    ap (λ m. length (encode_utf8_all (take m (cs ++ rest)))) (prefix_len-run is_xid_continue cs rest passes stops)
    ∙ ap (λ l. length (encode_utf8_all l)) (take-append_seam cs rest)

whole_length : (text : List ℕ) → IsUtf8 text → NoCharPasses ends_word text → length text ≡ word_length (chars text)
whole_length text u h =
    let same : h.0 ≡ chars text = chars_from_encodes h.0 text u h.1 in
    ap length (sym h.1) ∙ sym (run_length h.0 [] (all_go_on h.0 h.2) tt) ∙ ap word_length (append-nil h.0 ∙ same)

front_length : (text : List ℕ) (i j : ℕ) → IsUtf8 text → i ≤ length text → FindsBy ends_word text (Some (i, j)) → i ≡ word_length (chars text)
front_length text i j u fits h =
    let cs = h.0.0 in
    let left = drop i text in
    let c = h.1.0 in
    let whole : encode_utf8_all cs ++ left ≡ text = ap (λ l. l ++ left) h.0.1 ∙ take-append-drop i text in
    let begun : IsUtf8 (encode_utf8_all cs ++ left) = subst IsUtf8 (sym whole) u in
    let after = chars_past_char left (drop j text) c (rest_utf8 cs left begun) h.1.2.split in
    let told : chars text ≡ cs ++ (c ∷ chars (drop j text)) = ap chars (sym whole) ∙ chars_run cs left begun ∙ ap (λ l. cs ++ l) after in
    let length_of : i ≡ length (encode_utf8_all cs) = sym (length-take-le i text fits) ∙ ap length (sym h.0.1) in
    length_of ∙ sym (run_length cs (c ∷ chars (drop j text)) (all_go_on cs h.0.2) (stops_there (is_xid_continue c) h.1.1)) ∙ ap word_length (sym told)

pub ends_told : (M : (ℕ → Bool) → Type 0) (text : List ℕ) (r : Option ℕ) → IsUtf8 text →
    MatchOption r ((k : ℕ → Bool) → M k → FindsBy k text None) (MatchBeginsAt (λ s o. (k : ℕ → Bool) → M k → FindsBy k s o) text) →
    M ends_word → unwrap_or r (length text) ≡ word_length (chars text)
ends_told M text None u h m = whole_length text u (h ends_word m)
ends_told M text (Some i) u h m = front_length text i h.0 u h.3.0 (h.1 ends_word m)
