-- What a tree says of each token that it is read from.
use Rattle.std.specs.Prelude.{◌≡◌, ℕ, ◌≤◌, List, [], ◌∷◌, ◌++◌, Option, Some, None}
use Rattle.htt_lexer_tokens.specs.declared.tokens.Keyword.{Keyword}
use Rattle.htt_lexer_tokens.specs.declared.tokens.Sign.{Sign}
use Rattle.htt_lexer_tokens.specs.declared.tokens.Kind.{Kind}
use Rattle.htt_lexer_tokens.specs.declared.tokens.Kind.TheVariants as kinds
use Rattle.htt_lexer_tokens.specs.declared.tokens.Token.{Token}
use Rattle.htt_parser_trees.specs.declared.place.Span.{Span}

pub record Mark : Type 0 where
  pub kind : Kind
  -- its first byte, if the tree has it
  pub at : Option ℕ
  -- its place, if it is a name
  pub span : Option Span
  -- the level of the innermost phrase in which the token stands
  pub level : ℕ
  -- the number of the operand of a chain that begins with the token, and 1 elsewhere
  pub operand : ℕ

-- The marks of one token at a level.
abbrev pub sign : ℕ → Sign → List Mark
sign level s = record { kind = kinds.Sign s; at = None; span = None; level = level; operand = 1 } ∷ []

abbrev pub word : ℕ → Keyword → List Mark
word level w = record { kind = kinds.Keyword w; at = None; span = None; level = level; operand = 1 } ∷ []

abbrev pub name : ℕ → Span → List Mark
name level s = record { kind = kinds.Name; at = None; span = Some s; level = level; operand = 1 } ∷ []

abbrev pub number : ℕ → ℕ → List Mark
number level n = record { kind = kinds.Number n; at = None; span = None; level = level; operand = 1 } ∷ []

-- the same, where the tree has the first byte
abbrev pub sign_at : ℕ → Sign → ℕ → List Mark
sign_at level s at = record { kind = kinds.Sign s; at = Some at; span = None; level = level; operand = 1 } ∷ []

abbrev pub word_at : ℕ → Keyword → ℕ → List Mark
word_at level w at = record { kind = kinds.Keyword w; at = Some at; span = None; level = level; operand = 1 } ∷ []

abbrev pub number_at : ℕ → ℕ → ℕ → List Mark
number_at level n at = record { kind = kinds.Number n; at = Some at; span = None; level = level; operand = 1 } ∷ []

-- one after the other
infixr 5 ◌⨟◌
unfoldable pub ◌⨟◌ : List Mark → List Mark → List Mark
marks ⨟ others = marks ++ others

-- the operand of a chain with this number
abbrev pub numbered : ℕ → List Mark → List Mark
numbered n [] = []
numbered n (mark ∷ marks) = record mark { operand = n } ∷ marks

-- what stands between signs
unfoldable pub each_after : {A : Type 0} → List Mark → (A → List Mark) → List A → List Mark
each_after before marks [] = []
each_after before marks (x ∷ xs) = before ⨟ marks x ⨟ each_after before marks xs

abbrev pub separated : {A : Type 0} → List Mark → (A → List Mark) → List A → List Mark
separated between marks [] = []
separated between marks (x ∷ xs) = marks x ⨟ each_after between marks xs

-- ---- which tokens fit

-- what is said, if it is said
abbrev pub Given : {A : Type 0} → Option A → A → Type 0
Given None is = Unit {0}
Given (Some said) is = is ≡ said

abbrev pub span_of : Token → Span
span_of token = record { from = token.from; to = token.to }

pub record FitsMark (token : Token) (mark : Mark) : Type 0 where
  pub kind : token.kind ≡ mark.kind
  pub at : Given mark.at token.from
  pub span : Given mark.span (span_of token)

-- each token fits its mark, and none is left
abbrev pub AllFit : List Token → List Mark → Type 0
AllFit [] [] = Unit {0}
AllFit (token ∷ tokens) (mark ∷ marks) = FitsMark token mark × AllFit tokens marks
AllFit _ _ = ⊥

-- ---- which marks are within limits

-- the greatest level, and the greatest number of operands of a chain
pub record Limits : Type 0 where
  pub nesting : ℕ
  pub chain : ℕ

pub record IsWithin (limits : Limits) (mark : Mark) : Type 0 where
  pub level : mark.level ≤ limits.nesting
  pub operand : mark.operand ≤ limits.chain

abbrev pub AllWithin : Limits → List Mark → Type 0
AllWithin limits [] = Unit {0}
AllWithin limits (mark ∷ marks) = IsWithin limits mark × AllWithin limits marks
