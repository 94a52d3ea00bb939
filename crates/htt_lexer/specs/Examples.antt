-- Texts with their tokens, or with the cause for which they are refused, worked out by hand.
use Rattle.std.specs.Prelude.{ℕ, [], ◌∷◌, codes}
use Rattle.htt_lexer_tokens.specs.declared.tokens.Keyword.TheVariants as words
use Rattle.htt_lexer_tokens.specs.declared.tokens.Sign.TheVariants as signs
use Rattle.htt_lexer_tokens.specs.declared.tokens.Kind.{Kind}
use Rattle.htt_lexer_tokens.specs.declared.tokens.Kind.TheVariants.{Name, Number, Keyword, Sign}
use Rattle.htt_lexer_tokens.specs.declared.tokens.Token.{Token}
use Rattle.htt_lexer.specs.declared.lexer.LexStop.TheVariants.{NotUtf8, BadChar, LiteralTooLarge}
use Rattle.htt_lexer.specs.Tokens.{AreTokens}
use Rattle.htt_lexer.specs.Refusals.{RefusesText}

abbrev pub a : Kind → ℕ → ℕ → Token
a kind from to = record { kind = kind; from = from; to = to }

pub record WorkedExamples : Type 0 where
  pub empty : AreTokens [] []
  pub number_then_name : AreTokens (codes "1a") (a (Number 1) 0 1 ∷ a Name 1 2 ∷ [])
  pub leading_zeros : AreTokens (codes "007") (a (Number 7) 0 3 ∷ [])
  pub longest_sign : AreTokens (codes "<--") (a (Sign signs.LeftArrowSign) 0 2 ∷ a (Sign signs.MinusSign) 2 3 ∷ [])
  pub comment_of_three : AreTokens (codes "-->") []
  pub sign_then_comment : AreTokens (codes "|--") (a (Sign signs.BarSign) 0 1 ∷ [])
  pub line_feed_ends_comment : AreTokens (45 ∷ 45 ∷ 13 ∷ 49 ∷ 10 ∷ 50 ∷ []) (a (Number 2) 5 6 ∷ [])
  pub two_names_and_a_sign :
      AreTokens (codes "__ _1 _") (a Name 0 2 ∷ a Name 3 5 ∷ a (Sign signs.UnderscoreSign) 6 7 ∷ [])
  pub case_tells_keywords :
      AreTokens (codes "emp Emp EMP")
      (a (Keyword words.EmpWord) 0 3 ∷ a (Keyword words.CapitalEmpWord) 4 7 ∷ a Name 8 11 ∷ [])
  pub name_of_two_bytes : AreTokens (195 ∷ 182 ∷ []) (a Name 0 2 ∷ [])
  pub last_number : AreTokens (codes "18446744073709551615") (a (Number 18446744073709551615) 0 20 ∷ [])
  pub sign_before_number : RefusesText (codes "% 18446744073709551616") (BadChar 0)
  pub form_feed : RefusesText (49 ∷ 12 ∷ []) (BadChar 1)
  pub large : RefusesText (codes "x18446744073709551616 18446744073709551616") (LiteralTooLarge 22)
  pub byte_in_a_comment : RefusesText (45 ∷ 45 ∷ 32 ∷ 255 ∷ []) (NotUtf8 3)
