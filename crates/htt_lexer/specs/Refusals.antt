-- Why a text has no tokens, and the place that tells it.
use Rattle.std.specs.Prelude.{◌≡◌, ℕ, ◌^◌, ◌<◌, ◌≤◌, List, ◌++◌, length, IsUtf8}
use Rattle.std.specs.Char.{is_ascii_digit}
use Rattle.std.specs.Str.{IsValidUpTo}
use Rattle.std.specs.Str.Parse.{digits_value}
use Rattle.htt_lexer_tokens.specs.declared.tokens.Kind.{Kind}
use Rattle.htt_lexer_tokens.specs.declared.tokens.Token.{Token}
use Rattle.htt_lexer.specs.declared.lexer.LexStop.{LexStop}
use Rattle.htt_lexer.specs.declared.lexer.LexStop.TheVariants.{NotUtf8, BadChar, LiteralTooLarge, NoMemory}
use Rattle.htt_lexer.specs.Tokens.{IsLongest, IsGap, IsToken, Reads}

-- a number above 2 ^ 64 - 1 begins the text
pub record BeginsTooLarge (text : List ℕ) : Type 0 where
  pub digits : List ℕ
  pub rest : List ℕ
  pub whole : text ≡ digits ++ rest
  pub longest : IsLongest is_ascii_digit digits rest
  pub large : 2 ^ 64 ≤ digits_value 10 digits

-- the text isn't at its end, and no blank, comment, token or number begins it
pub record BeginsNothing (text : List ℕ) : Type 0 where
  pub some : 0 < length text
  pub no_gap : (piece rest : List ℕ) → text ≡ piece ++ rest → ¬ (IsGap piece rest)
  pub no_token : (piece rest : List ℕ) (kind : Kind) → text ≡ piece ++ rest → ¬ (IsToken piece rest kind)
  pub no_number : ¬ (BeginsTooLarge text)

-- a text is read from its beginning up to this place, and what is left there is at fault
pub record TokensStopAt (Fault : List ℕ → Type 0) (text : List ℕ) (at : ℕ) : Type 0 where
  pub tokens : List Token
  pub left : List ℕ
  pub reads : Reads 0 text tokens at left
  pub fault : Fault left

-- a text is refused for this cause, at this place
abbrev pub RefusesText : List ℕ → LexStop → Type 0
RefusesText text (NotUtf8 at) = IsValidUpTo text at
RefusesText text (BadChar at) = IsUtf8 text × TokensStopAt BeginsNothing text at
RefusesText text (LiteralTooLarge at) = IsUtf8 text × TokensStopAt BeginsTooLarge text at
RefusesText text NoMemory = Unit {0}
