-- What holds of each row of a table holds of each spelling that the table has.
use Rattle.std.proofs.Common.{◌≡◌, ℕ, ◌+◌, ◌<◌, List, [], ◌∷◌, length, map, drop, get_or, suc, Bool, true, false, ◌&&◌, ◌||◌, cond, refl, sym, ◌∙◌, ap, arith}
use Rattle.std.proofs.Common.{nat_lt, eq-eqb}
use Rattle.std.specs.Prelude.{Option, Some, None, not, ◌==◌}
use Rattle.std.specs.List.{list_all}
use Rattle.std.specs.Char.{is_ascii_alphabetic, is_ascii_digit}
use Rattle.std.specs.Str.{bytes_eq}
use denote.Ref.{Bor}
use Rattle.std.proofs.Math.Seq.{drop-cons}
use Rattle.std.proofs.lemmas.Bool.Decides.{nat_tests}
use Rattle.std.specs.Cmp.Lexicographic.{same_text}
use Rattle.htt_lexer_tokens.specs.declared.tokens.Keyword.{Keyword}
use Rattle.htt_lexer_tokens.specs.declared.tokens.Sign.{Sign}
use Rattle.htt_lexer.specs.Tables.{lookup, keyword_table, sign_table}
use Rattle.htt_lexer.specs.Pieces.{spelled}
use Rattle.htt_lexer.specs.Tokens.{is_blank}

-- ---- tests

pub by_cond : {A : Type 0} (P : A → Type 0) (t : Bool) (x y : A) → (t ≡ true → P x) → (t ≡ false → P y) → P (cond t x y)
by_cond P true x y when unless = when refl
by_cond P false x y when unless = unless refl

pub by_test : {P : Type 0} (t : Bool) → (t ≡ true → P) → (t ≡ false → P) → P
by_test true when unless = when refl
by_test false when unless = unless refl

pub by_option : {A : Type 0} (P : Option A → Type 0) (o : Option A) → (o ≡ None → P None) → ((x : A) → o ≡ Some x → P (Some x)) → P o
by_option P None none some = none refl
by_option P (Some x) none some = some x refl

pub not_true : (t : Bool) → (t ≡ true → ⊥) → t ≡ false
not_true true h = absurd (h refl)
not_true false h = refl

pub both_true : (x y : Bool) → (x && y) ≡ true → (x ≡ true) × (y ≡ true)
both_true true y h = (refl, h)
both_true false y h = cc

pub either : (x y : Bool) (P : Type 0) → (x ≡ true → P) → (y ≡ true → P) → (x || y) ≡ true → P
either true y P left right h = left refl
either false y P left right h = right h

pub equal : (b k : ℕ) → (b == k) ≡ true → b ≡ k
equal b k h = grind (arith, nat_tests)

-- a byte that passes isn't one that fails
pub apart : (p : ℕ → Bool) (b k : ℕ) → p b ≡ true → p k ≡ false → (b == k) ≡ false
apart p b k passes fails = not_true (b == k) (λ e. let same = ap p (equal b k e) in cc)

-- ---- tables

pub of_row : {A : Type 0} (test : List ℕ → Bool) (rows : List (List ℕ × A)) (spelling : List ℕ) (x : A) →
    list_all (λ row. test row.0) rows ≡ true → lookup rows spelling ≡ Some x → test spelling ≡ true
of_row test [] spelling x all e = cc
of_row test (row ∷ rows) spelling x all e =
    let h = both_true (test row.0) (list_all (λ r. test r.0) rows) all in
    by_cond (λ o. o ≡ Some x → test spelling ≡ true) (bytes_eq spelling row.0) (Some row.1) (lookup rows spelling)
    (λ same _. ap test (same_text spelling row.0 (sym same)) ∙ h.0)
    (λ _ rest. of_row test rows spelling x h.1 rest) e

-- how a sign begins: with none of a blank, a digit and a letter
abbrev pub is_plain : ℕ → Bool
is_plain b = nat_lt b 128 && (not (is_blank b) && (not (is_ascii_digit b) && (not (is_ascii_alphabetic b) && not (b == 95))))

abbrev pub begins_plain : List ℕ → Bool
begins_plain [] = false
begins_plain (b ∷ bs) = is_plain b

-- so long is a sign
abbrev pub is_sign_length : List ℕ → Bool
is_sign_length spelling = nat_lt 0 (length spelling) && nat_lt (length spelling) 4

pub sign_begins : (spelling : List ℕ) (s : Sign) → lookup sign_table spelling ≡ Some s → begins_plain spelling ≡ true
unfolding sign_table
sign_begins spelling s = of_row begins_plain sign_table spelling s refl

pub sign_length_bounds : (spelling : List ℕ) (s : Sign) → lookup sign_table spelling ≡ Some s → (0 < length spelling) × (length spelling < 4)
unfolding sign_table
sign_length_bounds spelling s e =
    let h = both_true (nat_lt 0 (length spelling)) (nat_lt (length spelling) 4) (of_row is_sign_length sign_table spelling s refl e) in
    (grind (arith, nat_tests), grind (arith, nat_tests))

pub long_is_none : (spelling : List ℕ) → 3 < length spelling → lookup sign_table spelling ≡ None
long_is_none spelling long =
    by_option (λ o. o ≡ None) (lookup sign_table spelling) (λ _. refl) (λ s e. absurd (omega (arith, long, (sign_length_bounds spelling s e).1)))

-- ---- a table from one row to the next

pub row_here : {A : Type 0} (table : List (Bor (List ℕ) × A)) (i : ℕ) (row : Bor (List ℕ) × A) (spelling : List ℕ)
    → i < length table
    → row ≡ get_or table i row
    → bytes_eq spelling row.0.now ≡ true
    → lookup (map spelled (drop i table)) spelling ≡ Some row.1
row_here table i row spelling within is same = rw (drop-cons table i row within, sym is, same) refl

pub row_elsewhere : {A : Type 0} (table : List (Bor (List ℕ) × A)) (i : ℕ) (row : Bor (List ℕ) × A) (spelling : List ℕ)
    → i < length table
    → row ≡ get_or table i row
    → bytes_eq spelling row.0.now ≡ false
    → lookup (map spelled (drop i table)) spelling ≡ lookup (map spelled (drop (i + 1) table)) spelling
row_elsewhere table i row spelling within is other =
    let next : suc i ≡ i + 1 = omega arith in
    rw (drop-cons table i row within, sym is, other) (ap (λ k. lookup (map spelled (drop k table)) spelling) next)

-- ---- tables by length

-- the rows with a spelling of this length
abbrev pub of_length : {A : Type 0} → ℕ → List (List ℕ × A) → List (List ℕ × A)
of_length n [] = []
of_length n (row ∷ rows) = cond (length row.0 == n) (row ∷ of_length n rows) (of_length n rows)

other_length : (n : ℕ) (spelling text : List ℕ) → length spelling ≡ n → (length text == n) ≡ false → bytes_eq spelling text ≡ false
other_length n spelling text e other =
    not_true (bytes_eq spelling text) (λ same.
    let whole = ap (λ t. length t == n) (same_text spelling text (sym same)) in
    let own : (length spelling == n) ≡ true = rw e (eq-eqb n n refl) in
    cc)

-- a spelling of a length is looked up among the rows of that length
pub lookup-of_length : {A : Type 0} (n : ℕ) (rows : List (List ℕ × A)) (spelling : List ℕ)
    → length spelling ≡ n
    → lookup (of_length n rows) spelling ≡ lookup rows spelling
lookup-of_length n [] spelling e = refl
lookup-of_length n (row ∷ rows) spelling e =
    let rest = lookup-of_length n rows spelling e in
    by_cond (λ some. lookup some spelling ≡ lookup (row ∷ rows) spelling) (length row.0 == n) (row ∷ of_length n rows) (of_length n rows)
    (λ _. ap (λ o. cond (bytes_eq spelling row.0) (Some row.1) o) rest)
    (λ other. rw (other_length n spelling row.0 e other) rest)

-- so long is a keyword
abbrev pub is_word_length : List ℕ → Bool
is_word_length word = nat_lt 1 (length word) && nat_lt (length word) 8

pub word_length_bounds : (word : List ℕ) (k : Keyword) → lookup keyword_table word ≡ Some k → (1 < length word) × (length word < 8)
unfolding keyword_table
word_length_bounds word k e =
    let h = both_true (nat_lt 1 (length word)) (nat_lt (length word) 8) (of_row is_word_length keyword_table word k refl e) in
    (grind (arith, nat_tests), grind (arith, nat_tests))
