-- Each printed lexeme is one token before what may follow it, and its bytes are UTF-8.
use Rattle.std.specs.Prelude.{◌≡◌, ℕ, ◌<◌, ◌^◌, List, true, decimal, IsUtf8}
use Rattle.htt_lexer_tokens.specs.declared.tokens.Keyword.{Keyword}
use Rattle.htt_lexer_tokens.specs.declared.tokens.Sign.{Sign}
use Rattle.htt_lexer_tokens.specs.declared.tokens.Kind.TheVariants as kinds
use Rattle.htt_lexer.specs.Tokens.{IsToken}
use Rattle.theory_text_names.specs.Scopes.{Sort}
use Rattle.theory_printing.specs.Spellings.{word_spelling, sign_spelling}
use Rattle.theory_printing.specs.Names.{name_at, hypothesis_name}
use Rattle.theory_printing_conditions.specs.Conditions.{IsName}
use Rattle.theory_printing_lexemes.specs.Follows.{ends, sign_ends}

pub record LexemesAreTokens : Type 0 where
  pub words : (w : Keyword) (rest : List ℕ) → ends rest ≡ true → IsToken (word_spelling w) rest (kinds.Keyword w)
  pub signs : (s : Sign) (rest : List ℕ) → sign_ends s rest ≡ true → IsToken (sign_spelling s) rest (kinds.Sign s)
  pub numbers : (n : ℕ) (rest : List ℕ) → n < 2 ^ 64 → ends rest ≡ true → IsToken (decimal n) rest (kinds.Number n)
  pub names : (name rest : List ℕ) → IsName name → ends rest ≡ true → IsToken name rest kinds.Name
  pub utf8_words : (w : Keyword) → IsUtf8 (word_spelling w)
  pub utf8_signs : (s : Sign) → IsUtf8 (sign_spelling s)
  pub utf8_numbers : (n : ℕ) → IsUtf8 (decimal n)
  -- the names by position are names
  pub entries : (sort : Sort) (position : ℕ) → IsName (name_at sort position)
  pub hypotheses : (number : ℕ) → IsName (hypothesis_name number)
