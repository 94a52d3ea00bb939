-- Signs before what may follow them: a sign that may go on as a longer one stands before a space or `[`.
use Rattle.std.proofs.Common.{◌≡◌, ℕ, List, [], ◌∷◌, ◌++◌, true, false, ◌||◌, refl, sym, ap, subst}
use Rattle.std.specs.Prelude.{◌==◌, Some, None, IsUtf8}
use Rattle.std.specs.Char.{encode_utf8}
use Rattle.std.specs.Str.{chars, is_utf8}
use Rattle.std.proofs.lemmas.Str.{IsUtf8-from_is_utf8}
use Rattle.htt_lexer_tokens.specs.declared.tokens.Sign.{Sign}
use Rattle.htt_lexer_tokens.specs.declared.tokens.Sign.TheVariants as signs
use Rattle.htt_lexer_tokens.specs.declared.tokens.Kind.TheVariants as kinds
use Rattle.htt_lexer.specs.Tables.{lookup, sign_table}
use Rattle.htt_lexer.specs.Tokens.{IsToken, sign}
use Rattle.htt_lexer.proofs.Rows.{either, equal}
use Rattle.theory_printing.specs.Spellings.{sign_spelling}
use Rattle.theory_printing_lexemes.specs.Follows.{sign_ends}

-- what follows is of one of two bytes
by_byte : (P : ℕ → Type 0) (b : ℕ) → (b == 32 || b == 91) ≡ true → P 32 → P 91 → P b
by_byte P b h spaced bracketed =
    either (b == 32) (b == 91) (P b) (λ e. subst P (sym (equal b 32 e)) spaced) (λ e. subst P (sym (equal b 91 e)) bracketed) h

abbrev first_byte : List ℕ → ℕ
first_byte [] = 0
first_byte (b ∷ bytes) = b

abbrev second_byte : List ℕ → ℕ
second_byte [] = 0
second_byte (b ∷ bytes) = first_byte bytes

not_minus : (b : ℕ) → (b == 45) ≡ false → b ≡ 45 → ⊥
not_minus b h e = let same = subst (λ x. (x == 45) ≡ false) e h in cc

-- a sign that no byte makes longer
alone : (b : ℕ) (others rest : List ℕ) (s : Sign)
    → lookup sign_table (b ∷ others) ≡ Some s
    → ((c : ℕ) (more : List ℕ) → lookup sign_table (b ∷ others ++ c ∷ more) ≡ None)
    → (b == 45) ≡ false
    → IsToken (b ∷ others) rest (kinds.Sign s)
alone b others rest s is none h =
    sign (record { is = is; longest = λ c more after e. none c more; no_comment = λ after e. not_minus b h (ap first_byte e) })

-- a sign of one byte before one that makes it no longer
before : (b c : ℕ) (rest : List ℕ) (s : Sign)
    → lookup sign_table (b ∷ []) ≡ Some s
    → ((more : List ℕ) → lookup sign_table (b ∷ c ∷ more) ≡ None)
    → (c == 45) ≡ false
    → IsToken (b ∷ []) (c ∷ rest) (kinds.Sign s)
before b c rest s is none h =
    sign (record {
      is = is;
      longest = λ d more after e. subst (λ x. lookup sign_table (b ∷ x ∷ more) ≡ None) (ap first_byte e) (none more);
      no_comment = λ after e. not_minus c h (ap second_byte e);
    })

pub sign_token : (s : Sign) (rest : List ℕ) → sign_ends s rest ≡ true → IsToken (sign_spelling s) rest (kinds.Sign s)
unfolding sign_table
sign_token signs.OpenParenSign rest h = alone 40 [] rest signs.OpenParenSign refl (λ b more. refl) refl
sign_token signs.CloseParenSign rest h = alone 41 [] rest signs.CloseParenSign refl (λ b more. refl) refl
sign_token signs.OpenBracketSign rest h = alone 91 [] rest signs.OpenBracketSign refl (λ b more. refl) refl
sign_token signs.CloseBracketSign rest h = alone 93 [] rest signs.CloseBracketSign refl (λ b more. refl) refl
sign_token signs.OpenBraceSign rest h = alone 123 [] rest signs.OpenBraceSign refl (λ b more. refl) refl
sign_token signs.CloseBraceSign rest h = alone 125 [] rest signs.CloseBraceSign refl (λ b more. refl) refl
sign_token signs.CommaSign rest h = alone 44 [] rest signs.CommaSign refl (λ b more. refl) refl
sign_token signs.SemicolonSign rest h = alone 59 [] rest signs.SemicolonSign refl (λ b more. refl) refl
sign_token signs.ColonSign rest h = alone 58 [] rest signs.ColonSign refl (λ b more. refl) refl
sign_token signs.DotSign rest h = alone 46 [] rest signs.DotSign refl (λ b more. refl) refl
sign_token signs.EqualSign [] h = absurd (cc h)
sign_token signs.EqualSign (c ∷ rest) h =
    by_byte (λ b. IsToken (61 ∷ []) (b ∷ rest) (kinds.Sign signs.EqualSign)) c h (before 61 32 rest signs.EqualSign refl (λ more. refl) refl)
    (before 61 91 rest signs.EqualSign refl (λ more. refl) refl)
sign_token signs.ImpliesSign rest h = alone 61 (62 ∷ []) rest signs.ImpliesSign refl (λ b more. refl) refl
sign_token signs.ArrowSign rest h =
    sign (record { is = refl; longest = λ b more after e. refl; no_comment = λ after e. not_minus 62 refl (ap second_byte e) })
sign_token signs.LeftArrowSign rest h = alone 60 (45 ∷ []) rest signs.LeftArrowSign refl (λ b more. refl) refl
sign_token signs.PointsToSign rest h = alone 124 (45 ∷ 62 ∷ []) rest signs.PointsToSign refl (λ b more. refl) refl
sign_token signs.PlusSign rest h = alone 43 [] rest signs.PlusSign refl (λ b more. refl) refl
sign_token signs.MinusSign [] h = absurd (cc h)
sign_token signs.MinusSign (c ∷ rest) h =
    by_byte (λ b. IsToken (45 ∷ []) (b ∷ rest) (kinds.Sign signs.MinusSign)) c h (before 45 32 rest signs.MinusSign refl (λ more. refl) refl)
    (before 45 91 rest signs.MinusSign refl (λ more. refl) refl)
sign_token signs.StarSign [] h = absurd (cc h)
sign_token signs.StarSign (c ∷ rest) h =
    by_byte (λ b. IsToken (42 ∷ []) (b ∷ rest) (kinds.Sign signs.StarSign)) c h (before 42 32 rest signs.StarSign refl (λ more. refl) refl)
    (before 42 91 rest signs.StarSign refl (λ more. refl) refl)
sign_token signs.AmpersandSign rest h = alone 38 [] rest signs.AmpersandSign refl (λ b more. refl) refl
sign_token signs.BarSign [] h = absurd (cc h)
sign_token signs.BarSign (c ∷ rest) h =
    by_byte (λ b. IsToken (124 ∷ []) (b ∷ rest) (kinds.Sign signs.BarSign)) c h (before 124 32 rest signs.BarSign refl (λ more. refl) refl)
    (before 124 91 rest signs.BarSign refl (λ more. refl) refl)
sign_token signs.CaretSign rest h = alone 94 [] rest signs.CaretSign refl (λ b more. refl) refl
sign_token signs.ShiftLeftSign rest h = alone 60 (60 ∷ []) rest signs.ShiftLeftSign refl (λ b more. refl) refl
sign_token signs.ShiftRightSign rest h = alone 62 (62 ∷ []) rest signs.ShiftRightSign refl (λ b more. refl) refl
sign_token signs.LessSign [] h = absurd (cc h)
sign_token signs.LessSign (c ∷ rest) h =
    by_byte (λ b. IsToken (60 ∷ []) (b ∷ rest) (kinds.Sign signs.LessSign)) c h (before 60 32 rest signs.LessSign refl (λ more. refl) refl)
    (before 60 91 rest signs.LessSign refl (λ more. refl) refl)
sign_token signs.DoubleStarSign rest h = alone 42 (42 ∷ []) rest signs.DoubleStarSign refl (λ b more. refl) refl
sign_token signs.AndSign rest h = alone 47 (92 ∷ []) rest signs.AndSign refl (λ b more. refl) refl
sign_token signs.OrSign rest h = alone 92 (47 ∷ []) rest signs.OrSign refl (λ b more. refl) refl
sign_token signs.AtSign rest h = alone 64 [] rest signs.AtSign refl (λ b more. refl) refl
sign_token signs.BangSign rest h = alone 33 [] rest signs.BangSign refl (λ b more. refl) refl
sign_token signs.UnderscoreSign rest h = absurd (cc h)

pub sign_utf8 : (s : Sign) → IsUtf8 (sign_spelling s)
unfolding is_utf8 chars encode_utf8
sign_utf8 signs.OpenParenSign = IsUtf8-from_is_utf8 (sign_spelling signs.OpenParenSign) refl
sign_utf8 signs.CloseParenSign = IsUtf8-from_is_utf8 (sign_spelling signs.CloseParenSign) refl
sign_utf8 signs.OpenBracketSign = IsUtf8-from_is_utf8 (sign_spelling signs.OpenBracketSign) refl
sign_utf8 signs.CloseBracketSign = IsUtf8-from_is_utf8 (sign_spelling signs.CloseBracketSign) refl
sign_utf8 signs.OpenBraceSign = IsUtf8-from_is_utf8 (sign_spelling signs.OpenBraceSign) refl
sign_utf8 signs.CloseBraceSign = IsUtf8-from_is_utf8 (sign_spelling signs.CloseBraceSign) refl
sign_utf8 signs.CommaSign = IsUtf8-from_is_utf8 (sign_spelling signs.CommaSign) refl
sign_utf8 signs.SemicolonSign = IsUtf8-from_is_utf8 (sign_spelling signs.SemicolonSign) refl
sign_utf8 signs.ColonSign = IsUtf8-from_is_utf8 (sign_spelling signs.ColonSign) refl
sign_utf8 signs.DotSign = IsUtf8-from_is_utf8 (sign_spelling signs.DotSign) refl
sign_utf8 signs.EqualSign = IsUtf8-from_is_utf8 (sign_spelling signs.EqualSign) refl
sign_utf8 signs.ImpliesSign = IsUtf8-from_is_utf8 (sign_spelling signs.ImpliesSign) refl
sign_utf8 signs.ArrowSign = IsUtf8-from_is_utf8 (sign_spelling signs.ArrowSign) refl
sign_utf8 signs.LeftArrowSign = IsUtf8-from_is_utf8 (sign_spelling signs.LeftArrowSign) refl
sign_utf8 signs.PointsToSign = IsUtf8-from_is_utf8 (sign_spelling signs.PointsToSign) refl
sign_utf8 signs.PlusSign = IsUtf8-from_is_utf8 (sign_spelling signs.PlusSign) refl
sign_utf8 signs.MinusSign = IsUtf8-from_is_utf8 (sign_spelling signs.MinusSign) refl
sign_utf8 signs.StarSign = IsUtf8-from_is_utf8 (sign_spelling signs.StarSign) refl
sign_utf8 signs.AmpersandSign = IsUtf8-from_is_utf8 (sign_spelling signs.AmpersandSign) refl
sign_utf8 signs.BarSign = IsUtf8-from_is_utf8 (sign_spelling signs.BarSign) refl
sign_utf8 signs.CaretSign = IsUtf8-from_is_utf8 (sign_spelling signs.CaretSign) refl
sign_utf8 signs.ShiftLeftSign = IsUtf8-from_is_utf8 (sign_spelling signs.ShiftLeftSign) refl
sign_utf8 signs.ShiftRightSign = IsUtf8-from_is_utf8 (sign_spelling signs.ShiftRightSign) refl
sign_utf8 signs.LessSign = IsUtf8-from_is_utf8 (sign_spelling signs.LessSign) refl
sign_utf8 signs.DoubleStarSign = IsUtf8-from_is_utf8 (sign_spelling signs.DoubleStarSign) refl
sign_utf8 signs.AndSign = IsUtf8-from_is_utf8 (sign_spelling signs.AndSign) refl
sign_utf8 signs.OrSign = IsUtf8-from_is_utf8 (sign_spelling signs.OrSign) refl
sign_utf8 signs.AtSign = IsUtf8-from_is_utf8 (sign_spelling signs.AtSign) refl
sign_utf8 signs.BangSign = IsUtf8-from_is_utf8 (sign_spelling signs.BangSign) refl
sign_utf8 signs.UnderscoreSign = IsUtf8-from_is_utf8 (sign_spelling signs.UnderscoreSign) refl
