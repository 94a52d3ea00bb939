-- Words before what may follow them.
use Rattle.std.proofs.Common.{◌≡◌, ℕ, ◌<◌, List, [], ◌∷◌, ◌++◌, Bool, true, false, ◌&&◌, refl, ◌∙◌, ap, subst}
use Rattle.std.proofs.Common.{arith, nat_lt}
use Rattle.std.specs.Prelude.{IsUtf8, not}
use Rattle.std.specs.List.{list_all}
use Rattle.std.specs.Char.{encode_utf8, is_ascii_digit, IsScalar}
use Rattle.std.specs.Str.{encode_utf8_all}
use Rattle.std.proofs.lemmas.Bool.{and_parts, and_from}
use Rattle.std.proofs.lemmas.Bool.Decides.{nat_tests}
use Rattle.std.proofs.lemmas.Str.{IsUtf8-append, IsUtf8-nil, IsUtf8-encode, encode_ascii, char_from_byte, cons_from_encodes}
use Rattle.unicode_ident.specs.Ident.{is_xid_continue}
use Rattle.unicode_ident.proofs.IdentLemmas.{is_xid_continue-ascii}
use Rattle.htt_lexer_tokens.specs.declared.tokens.Kind.{Kind}
use Rattle.htt_lexer_tokens.specs.declared.tokens.Kind.TheVariants as kinds
use Rattle.htt_lexer.specs.Tokens.{IsToken, word, Stops, begins_word, word_kind}
use Rattle.htt_lexer.proofs.Words.{is_letter, begins-ascii}
use Rattle.theory_printing_conditions.specs.Conditions.{IsName}
use Rattle.theory_printing_lexemes.specs.Follows.{is_plain, ends}

-- ---- what follows goes on with none of them

not_plain : (t : Bool) → not t ≡ true → t ≡ false
not_plain true h = absurd (cc h)
not_plain false h = refl

small : (b : ℕ) (rest : List ℕ) → ends (b ∷ rest) ≡ true → b < 128
small b rest h = let parts = and_parts (nat_lt b 128) (not (is_plain b)) h in grind (arith, nat_tests, parts.0)

other : (b : ℕ) (rest : List ℕ) → ends (b ∷ rest) ≡ true → is_plain b ≡ false
other b rest h = not_plain (is_plain b) (and_parts (nat_lt b 128) (not (is_plain b)) h).1

pub word_stops : (rest : List ℕ) → ends rest ≡ true → (d : ℕ) (after : List ℕ) → rest ≡ encode_utf8 d ++ after → is_xid_continue d ≡ false
word_stops [] h d after e = let first = cons_from_encodes [] after d e in cc
word_stops (b ∷ rest) h d after e =
    let same : d ≡ b = char_from_byte (b ∷ rest) after d e (small b rest h) (omega arith) in
    ap is_xid_continue same ∙ is_xid_continue-ascii b (small b rest h) ∙ other b rest h

pub digit_is_plain : (b : ℕ) → is_ascii_digit b ≡ true → is_plain b ≡ true
digit_is_plain b h = grind (arith, nat_tests)

no_digit : (b : ℕ) → is_plain b ≡ false → is_ascii_digit b ≡ false
no_digit b h = no_test (is_ascii_digit b) (λ d. let plain = digit_is_plain b d in cc)
  where
    no_test : (t : Bool) → (t ≡ true → ⊥) → t ≡ false
    no_test true absurd_if = absurd (absurd_if refl)
    no_test false absurd_if = refl

pub digits_stop : (rest : List ℕ) → ends rest ≡ true → Stops is_ascii_digit rest
digits_stop [] h = tt
digits_stop (b ∷ rest) h = no_digit b (other b rest h)

-- ---- letters, digits and `_`

abbrev pub are_plain : List ℕ → Bool
are_plain bs = list_all (λ b. nat_lt b 128 && is_plain b) bs

plain_small : (b : ℕ) → (nat_lt b 128 && is_plain b) ≡ true → b < 128
plain_small b h = let parts = and_parts (nat_lt b 128) (is_plain b) h in grind (arith, nat_tests, parts.0)

pub plain_goes_on : (bs : List ℕ) → are_plain bs ≡ true → list_all is_xid_continue bs ≡ true
plain_goes_on [] h = refl
plain_goes_on (b ∷ bs) h =
    let parts = and_parts (nat_lt b 128 && is_plain b) (are_plain bs) h in
    let plain = and_parts (nat_lt b 128) (is_plain b) parts.0 in
    and_from (is_xid_continue b) (list_all is_xid_continue bs) (is_xid_continue-ascii b (plain_small b parts.0) ∙ plain.1) (plain_goes_on bs parts.1)

pub plain_encoded : (bs : List ℕ) → are_plain bs ≡ true → encode_utf8_all bs ≡ bs
plain_encoded [] h = refl
plain_encoded (b ∷ bs) h =
    let parts = and_parts (nat_lt b 128 && is_plain b) (are_plain bs) h in
    ap (λ c. c ++ encode_utf8_all bs) (encode_ascii b (plain_small b parts.0)) ∙ ap (λ cs. b ∷ cs) (plain_encoded bs parts.1)

pub plain_utf8 : (bs : List ℕ) → are_plain bs ≡ true → IsUtf8 bs
plain_utf8 [] h = IsUtf8-nil
plain_utf8 (b ∷ bs) h =
    let parts = and_parts (nat_lt b 128 && is_plain b) (are_plain bs) h in
    let low = plain_small b parts.0 in
    let is_scalar : IsScalar b = grind (arith, nat_tests, low) in
    let first = subst IsUtf8 (encode_ascii b low) (IsUtf8-encode b is_scalar) in
    IsUtf8-append (b ∷ []) bs first (plain_utf8 bs parts.1)

-- ---- words

pub word_token : (first : ℕ) (others spelling rest : List ℕ) (kind : Kind)
    → encode_utf8_all (first ∷ others) ≡ spelling
    → begins_word first ≡ true
    → list_all is_xid_continue others ≡ true
    → word_kind spelling ≡ kind
    → ends rest ≡ true
    → IsToken spelling rest kind
word_token first others spelling rest kind spelled begins goes_on is e =
    let whole = word {c = first} {others = others} {rest = rest} (record { begins = begins; goes_on = goes_on; stops = word_stops rest e }) in
    subst (λ k. IsToken spelling rest k) is (subst (λ bs. IsToken bs rest (word_kind bs)) spelled whole)

-- a word of letters, digits and `_` alone
pub record IsPlainWord (spelling : List ℕ) (kind : Kind) : Type 0 where
  pub first : ℕ
  pub others : List ℕ
  pub spelled : first ∷ others ≡ spelling
  pub letter : is_letter first ≡ true
  pub plain : are_plain (first ∷ others) ≡ true
  pub is : word_kind spelling ≡ kind

pub plain_token : {spelling : List ℕ} {kind : Kind} → IsPlainWord spelling kind → (rest : List ℕ) → ends rest ≡ true → IsToken spelling rest kind
plain_token {spelling} {kind} h rest e =
    let parts = and_parts (nat_lt h.first 128 && is_plain h.first) (are_plain h.others) h.plain in
    word_token h.first h.others spelling rest kind (plain_encoded (h.first ∷ h.others) h.plain ∙ h.spelled)
    (begins-ascii h.first (plain_small h.first parts.0) ∙ h.letter) (plain_goes_on h.others parts.1) h.is e

pub plain_word_utf8 : {spelling : List ℕ} {kind : Kind} → IsPlainWord spelling kind → IsUtf8 spelling
plain_word_utf8 h = subst IsUtf8 h.spelled (plain_utf8 (h.first ∷ h.others) h.plain)

pub name_token : (name rest : List ℕ) → IsName name → ends rest ≡ true → IsToken name rest kinds.Name
name_token name rest h e = word_token h.first h.others name rest kinds.Name h.spelled h.begins h.goes_on h.kind e
