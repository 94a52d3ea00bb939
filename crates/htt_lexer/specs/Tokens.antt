-- The tokens of a text: blanks and comments separate them, and each is as long as it can be.
use Rattle.std.specs.Prelude.{◌≡◌, ℕ, ◌+◌, ◌^◌, ◌<◌, List, [], ◌∷◌, ◌++◌, length, Bool, true, false, ◌||◌, ◌==◌, not}
use Rattle.std.specs.Prelude.{Option, Some, None, codes, IsUtf8, if◌then◌else◌}
use Rattle.std.specs.List.{list_all}
use Rattle.std.specs.Char.{encode_utf8, is_ascii_digit}
use Rattle.std.specs.Str.{bytes_eq, byte, encode_utf8_all}
use Rattle.std.specs.Str.Parse.{digits_value}
use Rattle.unicode_ident.specs.Ident.{is_xid_start, is_xid_continue}
use Rattle.htt_lexer_tokens.specs.declared.tokens.Keyword.{Keyword}
use Rattle.htt_lexer_tokens.specs.declared.tokens.Sign.{Sign}
use Rattle.htt_lexer_tokens.specs.declared.tokens.Sign.TheVariants as signs
use Rattle.htt_lexer_tokens.specs.declared.tokens.Kind.{Kind}
use Rattle.htt_lexer_tokens.specs.declared.tokens.Kind.TheVariants as kinds
use Rattle.htt_lexer_tokens.specs.declared.tokens.Token.{Token}
use Rattle.htt_lexer.specs.Tables.{lookup, keyword_table, sign_table}

-- space, tab, carriage return, line feed
abbrev pub is_blank : ℕ → Bool
is_blank b = b == 32 || b == 9 || b == 13 || b == 10

-- what a comment goes on with: all but a line feed
abbrev pub is_comment : ℕ → Bool
is_comment b = not (b == 10)

-- the characters with which a word begins; it goes on with those of the property XID_Continue
abbrev pub begins_word : ℕ → Bool
begins_word c = is_xid_start c || c == byte "_"

-- what a word is: the sign `_`, a keyword, or else a name
abbrev pub keyword_or_name : Option Keyword → Kind
keyword_or_name None = kinds.Name
keyword_or_name (Some word) = kinds.Keyword word

abbrev pub word_kind : List ℕ → Kind
word_kind word =
    if bytes_eq word (codes "_") then kinds.Sign signs.UnderscoreSign else keyword_or_name (lookup keyword_table word)

-- what follows doesn't begin with a byte that would go on
abbrev pub Stops : (ℕ → Bool) → List ℕ → Type 0
Stops goes_on [] = Unit {0}
Stops goes_on (b ∷ bs) = goes_on b ≡ false

-- a run of bytes that pass, and can't be longer before this rest
pub record IsLongest (goes_on : ℕ → Bool) (run rest : List ℕ) : Type 0 where
  pub passes : list_all goes_on run ≡ true
  pub stops : Stops goes_on rest

-- the characters of a word, which can't be longer before this rest
pub record IsWordToken (c : ℕ) (others rest : List ℕ) : Type 0 where
  pub begins : begins_word c ≡ true
  pub goes_on : list_all is_xid_continue others ≡ true
  pub stops : (d : ℕ) (after : List ℕ) → rest ≡ encode_utf8 d ++ after → is_xid_continue d ≡ false

-- a sign, where no longer sign and no comment begins
pub record IsLongestSign (spelling rest : List ℕ) (s : Sign) : Type 0 where
  pub is : lookup sign_table spelling ≡ Some s
  pub longest : (b : ℕ) (more after : List ℕ)
      → rest ≡ b ∷ more ++ after
      → lookup sign_table (spelling ++ b ∷ more) ≡ None
  pub no_comment : (after : List ℕ) → spelling ++ rest ≡ codes "--" ++ after → ⊥

-- the bytes of what separates tokens: a blank, or a comment with its end before this rest
pub data IsGap : List ℕ → List ℕ → Type 0 where
  blank : {b : ℕ} {rest : List ℕ} → is_blank b ≡ true → IsGap (b ∷ []) rest
  comment : {run rest : List ℕ} → IsLongest is_comment run rest → IsGap (codes "--" ++ run) rest

-- the bytes of a token of this kind, with its end before this rest
pub data IsToken : List ℕ → List ℕ → Kind → Type 0 where
  word : {c : ℕ} {others rest : List ℕ}
      → IsWordToken c others rest
      → IsToken (encode_utf8_all (c ∷ others)) rest (word_kind (encode_utf8_all (c ∷ others)))
  number : {b : ℕ} {run rest : List ℕ}
      → IsLongest is_ascii_digit (b ∷ run) rest
      → digits_value 10 (b ∷ run) < 2 ^ 64
      → IsToken (b ∷ run) rest (kinds.Number (digits_value 10 (b ∷ run)))
  sign : {spelling rest : List ℕ} {s : Sign} → IsLongestSign spelling rest s → IsToken spelling rest (kinds.Sign s)

-- from a place where this text stands, these tokens are read up to a later place, where that text is left
pub data Reads : ℕ → List ℕ → List Token → ℕ → List ℕ → Type 0 where
  here : {at : ℕ} {text : List ℕ} → Reads at text [] at text
  gap : {at to : ℕ} {piece rest left : List ℕ} {tokens : List Token}
      → IsGap piece rest
      → Reads (at + length piece) rest tokens to left
      → Reads at (piece ++ rest) tokens to left
  token : {at to : ℕ} {piece rest left : List ℕ} {kind : Kind} {tokens : List Token}
      → IsToken piece rest kind
      → Reads (at + length piece) rest tokens to left
      → Reads at (piece ++ rest) (record { kind = kind; from = at; to = at + length piece } ∷ tokens) to left

-- the tokens of a text
pub record AreTokens (text : List ℕ) (tokens : List Token) : Type 0 where
  pub utf8 : IsUtf8 text
  pub reads : Reads 0 text tokens (length text) []
