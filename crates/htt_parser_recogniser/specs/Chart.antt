-- What a row of the table spans, where the phrases that stand in it are those of a chart.
use denote.Enum.Bare.{sameb}
use Rattle.std.specs.Prelude.{ℕ, suc, List, [], ◌∷◌, Bool, true, false, ◌&&◌, ◌==◌, drop}
use Rattle.std.specs.List.{list_any}
use Rattle.htt_lexer_tokens.specs.contracts.tokens.Keyword as keyword_enum
use Rattle.htt_lexer_tokens.specs.contracts.tokens.Sign as sign_enum
use Rattle.htt_lexer_tokens.specs.declared.tokens.Kind.{Kind}
use Rattle.htt_lexer_tokens.specs.declared.tokens.Kind.TheVariants as kinds
use Rattle.htt_lexer_tokens.specs.declared.tokens.Token.{Token}
use Rattle.htt_parser_table.specs.contracts.symbols.Nonterminal as nonterminal_enum
use Rattle.htt_parser_table.specs.declared.symbols.Symbol.{Symbol}
use Rattle.htt_parser_table.specs.declared.symbols.Symbol.TheVariants.{Word, Mark, Name, Number, Phrase}
use Rattle.htt_parser_table.specs.declared.symbols.Nonterminal.{Nonterminal}
use Rattle.htt_parser_table.specs.Table.{alternatives_of}
use Rattle.htt_parser_recogniser.specs.declared.rows.Edge.{Edge}

-- a token of this kind is what the symbol asks for
abbrev pub asks_for : Symbol → Kind → Bool
asks_for (Word w) (kinds.Keyword v) = sameb keyword_enum.the_type v w
asks_for (Mark s) (kinds.Sign r) = sameb sign_enum.the_type r s
asks_for Name kinds.Name = true
asks_for Number (kinds.Number n) = true
asks_for _ _ = false

-- the first of the tokens, if there is one, is of a kind
abbrev pub first_token_is : (Kind → Bool) → List Token → Bool
first_token_is p [] = false
first_token_is p (t ∷ ts) = p t.kind

-- the edge is such a phrase from this place on
abbrev pub starts : Nonterminal → ℕ → Edge → Bool
starts n i edge = sameb nonterminal_enum.the_type edge.nonterminal n && (edge.from == i)

-- the row spans the tokens from one place to another
unfoldable pub row_spans_of : List Symbol → List Token → List Edge → ℕ → ℕ → Bool
row_spans_of [] tokens chart i j = i == j
row_spans_of (Phrase n ∷ row) tokens chart i j =
    list_any (λ edge. starts n i edge && row_spans_of row tokens chart edge.to j) chart
row_spans_of (s ∷ row) tokens chart i j =
    first_token_is (asks_for s) (drop i tokens) && row_spans_of row tokens chart (suc i) j

-- the edge is such a phrase, and the row follows it
abbrev pub row_follows : Nonterminal → List Symbol → List Token → List Edge → ℕ → ℕ → Edge → Bool
row_follows n row tokens chart i j edge = starts n i edge && row_spans_of row tokens chart edge.to j

-- some alternative of its nonterminal spans the tokens of the edge
abbrev pub phrase_spans_of : List Token → List Edge → Edge → Bool
phrase_spans_of tokens chart edge =
    list_any (λ row. row_spans_of row tokens chart edge.from edge.to) (alternatives_of edge.nonterminal)
