-- Texts that a reader can't tell apart where it stands.
use Rattle.std.specs.Prelude.{◌≡◌, List, [], ◌∷◌}
use Rattle.htt_lexer_tokens.specs.declared.tokens.Token.{Token}

-- both end, or the next token is the same
abbrev pub Alike : List Token → List Token → Type 0
Alike [] [] = Unit {0}
Alike (t ∷ ts) (u ∷ us) = t ≡ u
Alike _ _ = ⊥
