-- Which refusals are right: where reading stops, and for what reason.
use Rattle.std.specs.Prelude.{◌≡◌, ◌<◌, ◌≤◌, List, [], ◌∷◌, ◌++◌, length}
use Rattle.htt_lexer_tokens.specs.declared.tokens.Token.{Token}
use Rattle.htt_parser_trees.specs.Trees.{RawDeclTree}
use Rattle.theory_grammar.specs.Marks.{Mark, Limits, FitsMark, AllFit, AllWithin}
use Rattle.theory_grammar.specs.Grammar.{file}
use Rattle.theory_grammar.specs.Derivations.{the_limits}
use Rattle.theory_grammar.specs.Readers.{Why, expected, too_nested, too_long, too_many, Halt}

-- A production is given by the marks of its trees.

-- some tree begins with these tokens: with others behind them they are the tree's
pub record Begins {A : Type 0} (marks : A → List Mark) (tokens : List Token) : Type 0 where
  pub tree : A
  pub more : List Token
  pub fit : AllFit (tokens ++ more) (marks tree)

-- and these tokens stand within the limits
pub record BeginsWithin {A : Type 0} (limits : Limits) (marks : A → List Mark) (tokens : List Token) : Type 0 where
  pub tree : A
  pub first : List Mark
  pub others : List Mark
  pub more : List Token
  pub whole : marks tree ≡ first ++ others
  pub fit : AllFit tokens first
  pub within : AllWithin limits first
  pub goes_on : AllFit more others

-- and a further token begins what is past a limit
pub record GoesPast {A : Type 0} (limits : Limits) (is_past : Limits → Mark → Type 0) (marks : A → List Mark)
    (tokens : List Token) (token : Token) : Type 0 where
  pub tree : A
  pub first : List Mark
  pub mark : Mark
  pub others : List Mark
  pub more : List Token
  pub whole : marks tree ≡ first ++ (mark ∷ others)
  pub fit : AllFit tokens first
  pub within : AllWithin limits first
  pub next : FitsMark token mark
  pub past : is_past limits mark
  pub goes_on : AllFit more others

abbrev pub IsTooDeep : Limits → Mark → Type 0
IsTooDeep limits mark = limits.nesting < mark.level

abbrev pub IsTooFar : Limits → Mark → Type 0
IsTooFar limits mark = limits.chain < mark.operand

-- no tree begins with these tokens and the next one; where none is left, no tree has these tokens
abbrev pub NoneGoesOn : {A : Type 0} → (A → List Mark) → List Token → List Token → Type 0
NoneGoesOn {A = A} marks tokens [] = (tree : A) → AllFit tokens (marks tree) → ⊥
NoneGoesOn marks tokens (token ∷ rest) = Begins marks (tokens ++ (token ∷ [])) → ⊥

-- no tree begins with these tokens and this one within the limits
abbrev pub NoneWithin : {A : Type 0} → Limits → (A → List Mark) → List Token → Token → Type 0
NoneWithin limits marks tokens token = BeginsWithin limits marks (tokens ++ (token ∷ [])) → ⊥

-- the reason why the first of the rest is refused, behind these tokens
abbrev pub IsRight : {A : Type 0} → Limits → (A → List Mark) → List Token → Why → List Token → Type 0
IsRight limits marks before expected rest = BeginsWithin limits marks before × NoneGoesOn marks before rest
IsRight limits marks before too_nested (token ∷ rest) =
    GoesPast limits IsTooDeep marks before token × NoneWithin limits marks before token
IsRight limits marks before too_long (token ∷ rest) =
    GoesPast limits IsTooFar marks before token × NoneWithin limits marks before token
IsRight limits marks before _ rest = ⊥

-- the tokens before the refused one, and the reason
pub record Refusal {A : Type 0} (marks : A → List Mark) (tokens : List Token) (halt : Halt) : Type 0 where
  pub before : List Token
  pub parts : tokens ≡ before ++ halt.rest
  pub right : IsRight the_limits marks before halt.why halt.rest

-- ---- files

-- at most 10,000 declarations
pub record ShortFile : Type 0 where
  pub decls : List RawDeclTree
  pub count : length decls ≤ 10_000

abbrev pub short_file : ShortFile → List Mark
short_file f = file f.decls

-- 10,000 declarations within the limits, and behind them a token that begins another
pub record Full (tokens : List Token) (token : Token) : Type 0 where
  pub decls : List RawDeclTree
  pub count : length decls ≡ 10_000
  pub fit : AllFit tokens (file decls)
  pub within : AllWithin the_limits (file decls)
  pub goes_on : Begins file (tokens ++ (token ∷ []))

abbrev pub IsRightInFile : List Token → Why → List Token → Type 0
IsRightInFile before expected rest = BeginsWithin the_limits short_file before × NoneGoesOn file before rest
IsRightInFile before too_nested (token ∷ rest) =
    GoesPast the_limits IsTooDeep short_file before token × NoneWithin the_limits file before token
IsRightInFile before too_long (token ∷ rest) =
    GoesPast the_limits IsTooFar short_file before token × NoneWithin the_limits file before token
IsRightInFile before too_many (token ∷ rest) = Full before token × NoneGoesOn short_file before (token ∷ rest)
IsRightInFile before _ rest = ⊥

pub record FileRefusal (tokens : List Token) (halt : Halt) : Type 0 where
  pub before : List Token
  pub parts : tokens ≡ before ++ halt.rest
  pub right : IsRightInFile before halt.why halt.rest

-- ---- behind a whole phrase

-- the tree has the tokens before this one, and no tree begins with them and this one
pub record Ended {A : Type 0} (is_within : A → Type 0) (marks : A → List Mark) (tokens : List Token) (tree : A)
    (token : Token) (rest : List Token) : Type 0 where
  pub before : List Token
  pub parts : tokens ≡ before ++ (token ∷ rest)
  pub derived : AllFit before (marks tree)
  pub within : is_within tree
  pub none : NoneGoesOn marks before (token ∷ rest)
