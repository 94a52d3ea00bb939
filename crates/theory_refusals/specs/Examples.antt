-- Worked examples of where reading stops.
use Rattle.std.specs.Prelude.{◌≡◌, ℕ, ◌+◌, [], ◌∷◌, Ok, Err}
use Rattle.htt_lexer_tokens.specs.declared.tokens.Kind.{Kind}
use Rattle.htt_lexer_tokens.specs.declared.tokens.Kind.TheVariants.{Name, Keyword, Sign}
use Rattle.htt_lexer_tokens.specs.declared.tokens.Token.{Token}
use Rattle.htt_lexer_tokens.specs.declared.tokens.Keyword.TheVariants.{TtWord, TypeWord, WordWord}
use Rattle.htt_lexer_tokens.specs.declared.tokens.Sign.TheVariants.{AndSign, CloseParenSign, OpenParenSign, StarSign}
use Rattle.htt_lexer_tokens.specs.declared.tokens.Sign.TheVariants.{UnderscoreSign}
use Rattle.htt_parser_trees.specs.declared.mono.MonoName.TheVariants as mono_names
use Rattle.htt_parser_trees.specs.Trees.{m_factor, m_name}
use Rattle.theory_grammar.specs.Readers.{expected, too_nested, too_long, too_many}
use Rattle.theory_grammar.specs.Phrases.{Deeper, ty_reader}
use Rattle.theory_grammar.specs.Reading.{deeper, file_on}
use Rattle.theory_reading.specs.Laws.{read_mono, read_formula}

-- a token of one byte
abbrev pub at : ℕ → Kind → Token
at n kind = record { kind = kind; from = n; to = n + 1 }

abbrev pub word : ℕ → Token
word n = at n (Keyword WordWord)

abbrev pub star : ℕ → Token
star n = at n (Sign StarSign)

abbrev pub open_bracket : ℕ → Token
open_bracket n = at n (Sign OpenParenSign)

abbrev pub close_bracket : ℕ → Token
close_bracket n = at n (Sign CloseParenSign)

abbrev pub blank : ℕ → Token
blank n = at n (Sign UnderscoreSign)

-- word * * word: the second star
abbrev pub TwoStars : Type 0
TwoStars =
    read_mono (word 0 ∷ star 1 ∷ star 2 ∷ word 3 ∷ []) ≡ Err (record { why = expected; rest = star 2 ∷ word 3 ∷ [] })

-- (word: the end
abbrev pub NotClosed : Type 0
NotClosed = read_mono (open_bracket 0 ∷ word 1 ∷ []) ≡ Err (record { why = expected; rest = [] })

-- word word: one is read, and one is left
abbrev pub OneLeft : Type 0
OneLeft = read_mono (word 0 ∷ word 1 ∷ []) ≡ Ok (m_factor (m_name (mono_names.Word 0)), word 1 ∷ [])

-- tt /\ ): the bracket
abbrev pub NoConjunct : Type 0
NoConjunct =
    read_formula (at 0 (Keyword TtWord) ∷ at 1 (Sign AndSign) ∷ close_bracket 2 ∷ [])
    ≡ Err (record { why = expected; rest = close_bracket 2 ∷ [] })

-- (_), as a type: the closing bracket, since (_ goes on as the type of a function
abbrev pub BlankInBrackets : Type 0
BlankInBrackets =
    (d : Deeper)
    → ty_reader d (open_bracket 0 ∷ blank 1 ∷ close_bracket 2 ∷ [])
    ≡ Err (record { why = expected; rest = close_bracket 2 ∷ [] })

-- word * word * word with two levels: the third word
abbrev pub ThirdLevel : Type 0
ThirdLevel =
    (further : ℕ)
    → (deeper further 2).mono (word 0 ∷ star 1 ∷ word 2 ∷ star 3 ∷ word 4 ∷ [])
    ≡ Err (record { why = too_nested; rest = word 4 ∷ [] })

-- word * word * ) with two levels: the bracket begins no monotype
abbrev pub NoThirdLevel : Type 0
NoThirdLevel =
    (further : ℕ)
    → (deeper further 2).mono (word 0 ∷ star 1 ∷ word 2 ∷ star 3 ∷ close_bracket 4 ∷ [])
    ≡ Err (record { why = expected; rest = close_bracket 4 ∷ [] })

-- f x y with two operands: the third name
abbrev pub ThirdOperand : Type 0
ThirdOperand =
    (deeper 1 1).term (at 0 Name ∷ at 1 Name ∷ at 2 Name ∷ []) ≡ Err (record { why = too_long; rest = at 2 Name ∷ [] })

-- a declaration where none may follow, and a name there
abbrev pub NoMoreDeclarations : Type 0
NoMoreDeclarations =
    (d : Deeper)
    → file_on d 0 (at 0 (Keyword TypeWord) ∷ []) ≡ Err (record { why = too_many; rest = at 0 (Keyword TypeWord) ∷ [] })

abbrev pub NoDeclaration : Type 0
NoDeclaration = (d : Deeper) → file_on d 0 (at 0 Name ∷ []) ≡ Err (record { why = expected; rest = at 0 Name ∷ [] })

pub record WorkedRefusals : Type 0 where
  pub two_stars : TwoStars
  pub not_closed : NotClosed
  pub one_left : OneLeft
  pub no_conjunct : NoConjunct
  pub blank_in_brackets : BlankInBrackets
  pub third_level : ThirdLevel
  pub no_third_level : NoThirdLevel
  pub third_operand : ThirdOperand
  pub no_more_declarations : NoMoreDeclarations
  pub no_declaration : NoDeclaration
