-- The tokens of a printed phrase, as they stand in a text.
use Rattle.std.specs.Prelude.{◌≡◌, ℕ, List, [], ◌∷◌, ◌++◌}
use Rattle.htt_lexer_tokens.specs.declared.tokens.Kind.{Kind}
use Rattle.htt_lexer_tokens.specs.declared.tokens.Kind.TheVariants as kinds
use Rattle.htt_lexer_tokens.specs.declared.tokens.Token.{Token}
use Rattle.theory_grammar.specs.Marks.{span_of}
use Rattle.theory_text_names.specs.Scopes.{bytes_of}
use Rattle.theory_printing.specs.Pieces.{Printed, nothing, one, ◌▹◌, deeper, operand, a_space, a_word, a_sign, a_number}
use Rattle.theory_printing.specs.Pieces.{a_name}

pub record KindToken (kind : Kind) : Type 0 where
  pub token : Token
  pub is : token.kind ≡ kind

-- a name of these bytes
pub record NameToken (text name : List ℕ) : Type 0 where
  pub token : Token
  pub is : token.kind ≡ kinds.Name
  pub bytes : bytes_of text (span_of token) ≡ name

-- a token for each lexeme that is one
abbrev pub Spoken : List ℕ → Printed → Type 0
Spoken text nothing = Unit {0}
Spoken text (one a_space) = Unit {0}
Spoken text (one (a_word w)) = KindToken (kinds.Keyword w)
Spoken text (one (a_sign s)) = KindToken (kinds.Sign s)
Spoken text (one (a_number n)) = KindToken (kinds.Number n)
Spoken text (one (a_name name)) = NameToken text name
Spoken text (p ▹ q) = Spoken text p × Spoken text q
Spoken text (deeper p) = Spoken text p
Spoken text (operand n p) = Spoken text p

-- these tokens in a row
abbrev pub tokens_of : (text : List ℕ) (p : Printed) → Spoken text p → List Token
tokens_of text nothing v = []
tokens_of text (one a_space) v = []
tokens_of text (one (a_word w)) v = v.token ∷ []
tokens_of text (one (a_sign s)) v = v.token ∷ []
tokens_of text (one (a_number n)) v = v.token ∷ []
tokens_of text (one (a_name name)) v = v.token ∷ []
tokens_of text (p ▹ q) v = tokens_of text p v.0 ++ tokens_of text q v.1
tokens_of text (deeper p) v = tokens_of text p v
tokens_of text (operand n p) v = tokens_of text p v
