-- The brackets with which a monotype begins, and what follows them.
use Rattle.std.specs.Prelude.{ℕ, List, [], ◌∷◌, if◌then◌else◌}
use Rattle.htt_lexer_tokens.specs.declared.tokens.Kind.TheVariants.{Sign}
use Rattle.htt_lexer_tokens.specs.declared.tokens.Sign.TheVariants.{OpenParenSign}
use Rattle.htt_lexer_tokens.specs.declared.tokens.Token.{Token}
use Rattle.theory_grammar.specs.Readers.{same_kind}

-- the bytes of the brackets, the innermost first, and the tokens behind them
unfoldable pub opened : List ℕ → List Token → List ℕ × List Token
opened opens [] = (opens, [])
opened opens (t ∷ ts) = if same_kind t.kind (Sign OpenParenSign) then opened (t.from ∷ opens) ts else (opens, t ∷ ts)
