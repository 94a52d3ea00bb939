-- What may follow a printed lexeme, so that it is a token by itself: nothing that goes on with it.
use Rattle.std.specs.Prelude.{ℕ, List, [], ◌∷◌, Bool, true, false, ◌||◌, ◌&&◌, ◌==◌, not, nat_lt}
use Rattle.std.specs.Char.{is_ascii_alphanumeric}
use Rattle.htt_lexer_tokens.specs.declared.tokens.Sign.{Sign}
use Rattle.htt_lexer_tokens.specs.declared.tokens.Sign.TheVariants as signs

-- a letter, a digit or `_`
abbrev pub is_plain : ℕ → Bool
is_plain b = is_ascii_alphanumeric b || b == 95

-- a word or a number ends before this: there is nothing, or one byte that is none of these
abbrev pub ends : List ℕ → Bool
ends [] = true
ends (b ∷ rest) = nat_lt b 128 && not (is_plain b)

-- a space or `[`
abbrev pub is_apart : List ℕ → Bool
is_apart [] = false
is_apart (b ∷ rest) = b == 32 || b == 91

-- A sign with which a longer one begins stands apart. The sign `_` is printed of no tree that has a text.
abbrev pub sign_ends : Sign → List ℕ → Bool
sign_ends signs.UnderscoreSign rest = false
sign_ends signs.EqualSign rest = is_apart rest
sign_ends signs.MinusSign rest = is_apart rest
sign_ends signs.LessSign rest = is_apart rest
sign_ends signs.BarSign rest = is_apart rest
sign_ends signs.StarSign rest = is_apart rest
sign_ends _ rest = true
