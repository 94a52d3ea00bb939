-- Reading from left to right: a reader takes a list of tokens and answers what it read and the
-- tokens that follow, or why it stopped and the tokens from the refused one on.
use Rattle.std.specs.Prelude.{ℕ, zero, suc, List, [], ◌∷◌, length, Bool, true, false, Option, Some, None, Result, Ok}
use Rattle.std.specs.Prelude.{Err, if◌then◌else◌, ◌==◌, cond}
use denote.Enum.Bare.{sameb}
use Rattle.htt_lexer_tokens.specs.contracts.tokens.Keyword as keyword_enum
use Rattle.htt_lexer_tokens.specs.contracts.tokens.Sign as sign_enum
use Rattle.htt_lexer_tokens.specs.declared.tokens.Kind.{Kind}
use Rattle.htt_lexer_tokens.specs.declared.tokens.Kind.TheVariants.{Name, Number, Keyword, Sign}
use Rattle.htt_lexer_tokens.specs.declared.tokens.Token.{Token}
use Rattle.htt_parser_trees.specs.declared.place.Span.{Span}
use Rattle.theory_grammar.specs.Marks.{span_of}

pub data Why : Type 0 where
  expected too_nested too_long too_many : Why

pub record Halt : Type 0 where
  pub why : Why
  pub rest : List Token

abbrev pub Reader : Type 0 → Type 0
Reader A = List Token → Result (A × List Token) Halt

-- `==` on kinds
abbrev pub same_kind : Kind → Kind → Bool
same_kind Name Name = true
same_kind (Number a) (Number b) = a == b
same_kind (Keyword a) (Keyword b) = sameb keyword_enum.the_type a b
same_kind (Sign a) (Sign b) = sameb sign_enum.the_type a b
same_kind _ _ = false

unfoldable pub give : {A : Type 0} → A → Reader A
give x tokens = Ok (x, tokens)

abbrev pub then_read : {A B : Type 0} → Result (A × List Token) Halt → (A → Reader B) → Result (B × List Token) Halt
then_read (Ok read) next = next read.0 read.1
then_read (Err halt) next = Err halt

-- reads the one and then, by what it gave, the other
infixl 10 ◌>>=◌
unfoldable pub ◌>>=◌ : {A B : Type 0} → Reader A → (A → Reader B) → Reader B
(first >>= next) tokens = then_read (first tokens) next

-- refuses the first token: for this reason if it begins what is wanted, else as unexpected
abbrev pub refused : Why → (Kind → Bool) → List Token → Why
refused why begins [] = expected
refused why begins (token ∷ tokens) = if begins token.kind then why else expected

unfoldable pub refuse : {A : Type 0} → Why → (Kind → Bool) → Reader A
refuse why begins tokens = Err (record { why = refused why begins tokens; rest = tokens })

unfoldable pub stop : {A : Type 0} → Reader A
stop tokens = Err (record { why = expected; rest = tokens })

-- reads on behind a token that is chosen, else reads otherwise
abbrev pub chosen : {A : Type 0}
    → Option (Span → Reader A)
    → Reader A
    → Token
    → List Token
    → Result (A × List Token) Halt
chosen None otherwise token tokens = otherwise (token ∷ tokens)
chosen (Some next) otherwise token tokens = next (span_of token) tokens

unfoldable pub either : {A : Type 0} → (Kind → Option (Span → Reader A)) → Reader A → Reader A
either choose otherwise [] = otherwise []
either choose otherwise (token ∷ tokens) = chosen (choose token.kind) otherwise token tokens

-- whether the first token is of such a kind
abbrev pub first_is : (Kind → Bool) → List Token → Bool
first_is test [] = false
first_is test (token ∷ tokens) = test token.kind

unfoldable pub if_first : {A : Type 0} → (Kind → Bool) → Reader A → Reader A → Reader A
if_first test one other tokens = cond (first_is test tokens) (one tokens) (other tokens)

-- a reader that goes on as often as there are tokens
unfoldable pub measured : {A : Type 0} → (ℕ → Reader A) → Reader A
measured reader tokens = reader (length tokens) tokens

-- chooses a token of this kind
abbrev pub that : {A : Type 0} → Kind → Reader A → Kind → Option (Span → Reader A)
that kind next k = if same_kind k kind then Some (λ _. next) else None

unfoldable pub token : Kind → Reader (Unit {0})
token kind = either (that kind (give tt)) stop

-- what follows commas
unfoldable pub after_commas : {A : Type 0} → Kind → Reader A → ℕ → Reader (List A)
after_commas comma reader zero = give []
after_commas comma reader (suc n) =
    either (that comma (reader >>= (λ x. after_commas comma reader n >>= (λ xs. give (x ∷ xs))))) (give [])
