-- What is printed of a phrase: its tokens and spaces in order, with what stands one level deeper and what is an
-- operand of a chain. `▹` is read as "and then".
use Rattle.std.specs.Prelude.{ℕ, suc, List, [], ◌∷◌, ◌++◌, None, codes, decimal}
use Rattle.htt_lexer_tokens.specs.declared.tokens.Keyword.{Keyword}
use Rattle.htt_lexer_tokens.specs.declared.tokens.Sign.{Sign}
use Rattle.htt_lexer_tokens.specs.declared.tokens.Sign.TheVariants.{OpenParenSign, CloseParenSign, OpenBracketSign}
use Rattle.htt_lexer_tokens.specs.declared.tokens.Sign.TheVariants.{CloseBracketSign, OpenBraceSign, CloseBraceSign}
use Rattle.htt_lexer_tokens.specs.declared.tokens.Sign.TheVariants.{CommaSign, SemicolonSign}
use Rattle.htt_lexer_tokens.specs.declared.tokens.Kind.{Kind}
use Rattle.htt_lexer_tokens.specs.declared.tokens.Kind.TheVariants as kinds
use Rattle.theory_grammar.specs.Marks.{Mark, numbered}
use Rattle.theory_printing.specs.Spellings.{word_spelling, sign_spelling}

pub data Lexeme : Type 0 where
  a_space : Lexeme
  a_word : Keyword → Lexeme
  a_sign : Sign → Lexeme
  a_number : ℕ → Lexeme
  a_name : List ℕ → Lexeme

infixr 5 ◌▹◌
pub data Printed : Type 0 where
  nothing : Printed
  one : Lexeme → Printed
  ◌▹◌ : Printed → Printed → Printed
  -- a phrase inside another one
  deeper : Printed → Printed
  -- the operand of a chain with this number
  operand : ℕ → Printed → Printed

-- ---- pieces

abbrev pub space : Printed
space = one a_space

abbrev pub word : Keyword → Printed
word w = one (a_word w)

abbrev pub sign : Sign → Printed
sign s = one (a_sign s)

abbrev pub number : ℕ → Printed
number n = one (a_number n)

abbrev pub name : List ℕ → Printed
name bytes = one (a_name bytes)

-- a sign with one space on each side
abbrev pub between : Sign → Printed
between s = space ▹ sign s ▹ space

abbrev pub comma : Printed
comma = sign CommaSign ▹ space

abbrev pub semicolon : Printed
semicolon = sign SemicolonSign ▹ space

abbrev pub in_parens : Printed → Printed
in_parens p = sign OpenParenSign ▹ p ▹ sign CloseParenSign

abbrev pub in_brackets : Printed → Printed
in_brackets p = sign OpenBracketSign ▹ p ▹ sign CloseBracketSign

abbrev pub in_braces : Printed → Printed
in_braces p = sign OpenBraceSign ▹ p ▹ sign CloseBraceSign

-- ---- the bytes

abbrev pub spelling : Lexeme → List ℕ
spelling a_space = codes " "
spelling (a_word w) = word_spelling w
spelling (a_sign s) = sign_spelling s
spelling (a_number n) = decimal n
spelling (a_name bytes) = bytes

unfoldable pub bytes_of : Printed → List ℕ
bytes_of nothing = []
bytes_of (one x) = spelling x
bytes_of (p ▹ q) = bytes_of p ++ bytes_of q
bytes_of (deeper p) = bytes_of p
bytes_of (operand n p) = bytes_of p

-- ---- the tokens, each with its level and the number of the operand that it begins

abbrev pub marked : ℕ → Kind → List Mark
marked level kind = record { kind = kind; at = None; span = None; level = level; operand = 1 } ∷ []

abbrev pub lexeme_marks : ℕ → Lexeme → List Mark
lexeme_marks level a_space = []
lexeme_marks level (a_word w) = marked level (kinds.Keyword w)
lexeme_marks level (a_sign s) = marked level (kinds.Sign s)
lexeme_marks level (a_number n) = marked level (kinds.Number n)
lexeme_marks level (a_name bytes) = marked level kinds.Name

unfoldable pub marks_of : ℕ → Printed → List Mark
marks_of level nothing = []
marks_of level (one x) = lexeme_marks level x
marks_of level (p ▹ q) = marks_of level p ++ marks_of level q
marks_of level (deeper p) = marks_of (suc level) p
marks_of level (operand n p) = numbered n (marks_of level p)
