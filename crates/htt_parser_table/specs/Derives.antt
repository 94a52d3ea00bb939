-- What the table derives: a phrase takes the first of some tokens, and leaves the rest.
use Rattle.std.specs.Prelude.{◌≡◌, ℕ, List, [], ◌∷◌}
use Rattle.htt_lexer_tokens.specs.declared.tokens.Kind.{Kind}
use Rattle.htt_lexer_tokens.specs.declared.tokens.Kind.TheVariants as kinds
use Rattle.htt_lexer_tokens.specs.declared.tokens.Token.{Token}
use Rattle.htt_parser_table.specs.declared.symbols.Symbol.{Symbol}
use Rattle.htt_parser_table.specs.declared.symbols.Symbol.TheVariants.{Word, Mark, Name, Number, Phrase}
use Rattle.htt_parser_table.specs.declared.symbols.Nonterminal.{Nonterminal}
use Rattle.htt_parser_table.specs.Table.{alternatives_of}

-- a token of this kind is what the symbol asks for
abbrev pub IsOne : Symbol → Kind → Type 0
IsOne (Word w) kind = kind ≡ kinds.Keyword w
IsOne (Mark s) kind = kind ≡ kinds.Sign s
IsOne Name kind = kind ≡ kinds.Name
IsOne Number kind = (n : ℕ) × (kind ≡ kinds.Number n)
IsOne (Phrase n) kind = ⊥

-- the tokens begin with such a phrase, such a row or one of such rows, and these are left
mutual
  pub data Derives : Nonterminal → List Token → List Token → Type 0 where
    derived : {n : Nonterminal} {ts us : List Token} → SomeRow (alternatives_of n) ts us → Derives n ts us

  pub data SomeRow : List (List Symbol) → List Token → List Token → Type 0 where
    this_row : {row : List Symbol} {rows : List (List Symbol)} {ts us : List Token}
        → Row row ts us
        → SomeRow (row ∷ rows) ts us
    a_later_row : {row : List Symbol} {rows : List (List Symbol)} {ts us : List Token}
        → SomeRow rows ts us
        → SomeRow (row ∷ rows) ts us

  pub data Row : List Symbol → List Token → List Token → Type 0 where
    row_ends : {ts : List Token} → Row [] ts ts
    token_first : {s : Symbol} {row : List Symbol} {t : Token} {ts us : List Token}
        → IsOne s t.kind
        → Row row ts us
        → Row (s ∷ row) (t ∷ ts) us
    phrase_first : {n : Nonterminal} {row : List Symbol} {ts us vs : List Token}
        → Derives n ts us
        → Row row us vs
        → Row (Phrase n ∷ row) ts vs

-- the tokens are such a phrase, and none is left
abbrev pub IsPhrase : Nonterminal → List Token → Type 0
IsPhrase n tokens = Derives n tokens []
