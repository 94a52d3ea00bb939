-- Numbers before what may follow them, and the names that entries and hypotheses have by their position.
use Rattle.std.proofs.Common.{◌≡◌, ℕ, zero, suc, ◌<◌, ◌^◌, ◌%◌, ◌/◌, List, [], ◌∷◌, length, Bool, true, false, ◌&&◌, cond, refl, sym}
use Rattle.std.proofs.Common.{subst, arith, nat_lt}
use Rattle.std.specs.Prelude.{◌==◌, decimal}
use Rattle.std.specs.Fmt.{digits, digits_onto, digit_glyph}
use Rattle.std.specs.List.{list_all}
use Rattle.std.specs.Char.{is_ascii_digit}
use Rattle.std.specs.Str.Parse.{digits_value}
use Rattle.std.proofs.lemmas.Bool.{and_parts, and_from}
use Rattle.std.proofs.lemmas.Bool.Decides.{nat_tests}
use Rattle.std.proofs.lemmas.Fmt.{decimal_is_IsNumeral, decimal_nonempty}
use Rattle.htt_lexer_tokens.specs.declared.tokens.Kind.TheVariants as kinds
use Rattle.htt_lexer.specs.Tables.{keyword_table}
use Rattle.htt_lexer.specs.Tokens.{IsToken, number}
use Rattle.htt_lexer.proofs.Words.{begins-ascii}
use Rattle.theory_text_names.specs.Scopes.{Sort, a_mono, a_term, a_heap, a_term_or_heap, the_init, the_mem, a_hypothesis}
use Rattle.theory_printing.specs.Names.{name_at, hypothesis_name}
use Rattle.theory_printing_conditions.specs.Conditions.{IsName}
use Rattle.theory_printing_lexemes.specs.Follows.{is_plain, ends}
use Rattle.theory_printing_lexemes.proofs.Words.{are_plain, digit_is_plain, digits_stop, plain_encoded, plain_goes_on, plain_utf8}

-- ---- digits

glyph_digit : (d : ℕ) → d < 10 → is_ascii_digit (digit_glyph false d) ≡ true
glyph_digit zero h = refl
glyph_digit (suc zero) h = refl
glyph_digit (suc (suc zero)) h = refl
glyph_digit (suc (suc (suc zero))) h = refl
glyph_digit (suc (suc (suc (suc zero)))) h = refl
glyph_digit (suc (suc (suc (suc (suc zero))))) h = refl
glyph_digit (suc (suc (suc (suc (suc (suc zero)))))) h = refl
glyph_digit (suc (suc (suc (suc (suc (suc (suc zero))))))) h = refl
glyph_digit (suc (suc (suc (suc (suc (suc (suc (suc zero)))))))) h = refl
glyph_digit (suc (suc (suc (suc (suc (suc (suc (suc (suc zero))))))))) h = refl
glyph_digit (suc (suc (suc (suc (suc (suc (suc (suc (suc (suc d)))))))))) h = absurd (omega (arith, h))

onto_digits : (k n : ℕ) (acc : List ℕ) → list_all is_ascii_digit acc ≡ true → list_all is_ascii_digit (digits_onto k 10 false n acc) ≡ true
onto_digits zero n acc h = h
onto_digits (suc k) n acc h =
    let with_one : list_all is_ascii_digit (digit_glyph false (n % 10) ∷ acc) ≡ true =
    and_from (is_ascii_digit (digit_glyph false (n % 10))) (list_all is_ascii_digit acc) (glyph_digit (n % 10) (omega arith)) h in
    by_test (n / 10 == 0) (digit_glyph false (n % 10) ∷ acc) (digits_onto k 10 false (n / 10) (digit_glyph false (n % 10) ∷ acc)) with_one
    (onto_digits k (n / 10) (digit_glyph false (n % 10) ∷ acc) with_one)
  where
    by_test : (t : Bool) (x y : List ℕ) → list_all is_ascii_digit x ≡ true → list_all is_ascii_digit y ≡ true → list_all is_ascii_digit (cond t x y) ≡ true
    by_test true x y when unless = when
    by_test false x y when unless = unless

pub decimal_digits : (n : ℕ) → list_all is_ascii_digit (decimal n) ≡ true
unfolding digits
decimal_digits n = onto_digits 64 n [] refl

digit_plain : (b : ℕ) → is_ascii_digit b ≡ true → (nat_lt b 128 && is_plain b) ≡ true
digit_plain b h = and_from (nat_lt b 128) (is_plain b) (grind (arith, nat_tests)) (digit_is_plain b h)

digits_plain : (ds : List ℕ) → list_all is_ascii_digit ds ≡ true → are_plain ds ≡ true
digits_plain [] h = refl
digits_plain (d ∷ ds) h =
    let parts = and_parts (is_ascii_digit d) (list_all is_ascii_digit ds) h in
    and_from (nat_lt d 128 && is_plain d) (are_plain ds) (digit_plain d parts.0) (digits_plain ds parts.1)

pub decimal_plain : (n : ℕ) → are_plain (decimal n) ≡ true
decimal_plain n = digits_plain (decimal n) (decimal_digits n)

run_token : (ds rest : List ℕ) (n : ℕ)
    → 0 < length ds
    → list_all is_ascii_digit ds ≡ true
    → digits_value 10 ds ≡ n
    → n < 2 ^ 64
    → ends rest ≡ true
    → IsToken ds rest (kinds.Number n)
run_token [] rest n some all value fits e = absurd (omega (arith, some))
run_token (b ∷ run) rest n some all value fits e =
    subst (λ m. IsToken (b ∷ run) rest (kinds.Number m)) value
    (number (record { passes = all; stops = digits_stop rest e }) (subst (λ m. m < 2 ^ 64) (sym value) fits))

pub number_token : (n : ℕ) (rest : List ℕ) → n < 2 ^ 64 → ends rest ≡ true → IsToken (decimal n) rest (kinds.Number n)
number_token n rest fits e = run_token (decimal n) rest n (decimal_nonempty n fits) (decimal_digits n) (decimal_is_IsNumeral n fits).1 fits e

-- ---- names by position

own_name : (c : ℕ) (p : ℕ) → (nat_lt c 128 && is_plain c) ≡ true → IsName (95 ∷ c ∷ decimal p)
unfolding keyword_table
own_name c p h =
    let plain : are_plain (c ∷ decimal p) ≡ true = and_from (nat_lt c 128 && is_plain c) (are_plain (decimal p)) h (decimal_plain p) in
    record {
      utf8 = plain_utf8 (95 ∷ c ∷ decimal p) plain;
      first = 95;
      others = c ∷ decimal p;
      spelled = plain_encoded (95 ∷ c ∷ decimal p) plain;
      begins = begins-ascii 95 (omega arith);
      goes_on = plain_goes_on (c ∷ decimal p) plain;
      kind = refl;
    }

pub entry_name : (sort : Sort) (position : ℕ) → IsName (name_at sort position)
entry_name a_mono p = own_name 97 p refl
entry_name a_heap p = own_name 104 p refl
entry_name a_term p = own_name 120 p refl
entry_name a_term_or_heap p = own_name 120 p refl
entry_name the_init p = own_name 120 p refl
entry_name the_mem p = own_name 120 p refl
entry_name a_hypothesis p = own_name 120 p refl

pub hypothesis_is_name : (number : ℕ) → IsName (hypothesis_name number)
hypothesis_is_name n = own_name 117 n refl
