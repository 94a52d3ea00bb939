-- What a refusal at a limit says of a tree.
use Rattle.std.specs.Prelude.{◌≡◌, List, ◌∷◌, ◌++◌}
use Rattle.htt_lexer_tokens.specs.declared.tokens.Token.{Token}
use Rattle.theory_grammar.specs.Marks.{Mark, Limits, IsWithin, AllFit}
use Rattle.theory_grammar.specs.Readers.{Why, too_nested, too_long, Halt}

-- the reasons that speak of the level or the operand of a mark
abbrev pub IsLimit : Why → Type 0
IsLimit too_nested = Unit {0}
IsLimit too_long = Unit {0}
IsLimit _ = ⊥

-- the tree begins with the tokens before the stop, and its next mark is past the limits
pub record IsPast {A : Type 0} (limits : Limits) (marks : A → List Mark) (tokens : List Token) (halt : Halt) (tree : A)
    : Type 0 where
  pub before : List Token
  pub first : List Mark
  pub mark : Mark
  pub others : List Mark
  pub parts : tokens ≡ before ++ halt.rest
  pub fit : AllFit before first
  pub whole : marks tree ≡ first ++ (mark ∷ others)
  pub past : IsWithin limits mark → ⊥
