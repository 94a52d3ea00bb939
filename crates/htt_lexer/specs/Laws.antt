-- What holds of the tokens of every text.
use Rattle.std.specs.Prelude.{◌≡◌, ℕ, ◌-◌, ◌<◌, ◌≤◌, List, [], ◌∷◌, length, take, drop, ◌⊎◌}
use Rattle.htt_lexer_tokens.specs.declared.tokens.Token.{Token}
use Rattle.htt_lexer.specs.declared.lexer.LexStop.{LexStop}
use Rattle.htt_lexer.specs.declared.lexer.LexStop.TheVariants.{NoMemory}
use Rattle.htt_lexer.specs.Tokens.{IsToken, AreTokens}
use Rattle.htt_lexer.specs.Refusals.{RefusesText}

-- a cause that lies in the text
abbrev pub IsCause : LexStop → Type 0
IsCause NoMemory = ⊥
IsCause stop = Unit {0}

-- from this place on the tokens stand in order, none is empty, and each is what its slice of the text says
abbrev pub InOrder : List ℕ → ℕ → List Token → Type 0
InOrder text place [] = place ≤ length text
InOrder text place (t ∷ tokens) =
    (place ≤ t.from)
    × (t.from < t.to)
    × IsToken (take (t.to - t.from) (drop t.from text)) (drop t.to text) t.kind
    × InOrder text t.to tokens

-- the text has tokens, or a cause for which it is refused
abbrev pub HasAnswer : List ℕ → Type 0
HasAnswer text =
    ((tokens : List Token) × AreTokens text tokens) ⊎ ((stop : LexStop) × IsCause stop × RefusesText text stop)

pub record TokenLaws : Type 0 where
  pub some_answer : (text : List ℕ) → HasAnswer text
  pub one_list : (text : List ℕ) (tokens others : List Token)
      → AreTokens text tokens
      → AreTokens text others
      → tokens ≡ others
  pub one_answer : (text : List ℕ) (tokens : List Token) (stop : LexStop)
      → IsCause stop
      → AreTokens text tokens
      → ¬ (RefusesText text stop)
  pub one_refusal : (text : List ℕ) (stop other : LexStop)
      → IsCause stop
      → IsCause other
      → RefusesText text stop
      → RefusesText text other
      → stop ≡ other
  pub in_order : (text : List ℕ) (tokens : List Token) → AreTokens text tokens → InOrder text 0 tokens
