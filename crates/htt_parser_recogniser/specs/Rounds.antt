-- What a chart has, and what a round adds to it.
use Rattle.std.specs.Prelude.{◌≡◌, ℕ, ◌≤◌, ◌⊎◌, List, [], ◌∷◌, ◌++◌, length, drop, true, if◌then◌else◌}
use Rattle.htt_lexer_tokens.specs.declared.tokens.Token.{Token}
use Rattle.htt_parser_table.specs.declared.symbols.Nonterminal.{Nonterminal}
use Rattle.htt_parser_table.specs.Derives.{Derives}
use Rattle.htt_parser_recogniser.specs.declared.rows.Edge.{Edge}
use Rattle.htt_parser_recogniser.specs.Chart.{phrase_spans_of}

abbrev pub edge_of : ℕ → ℕ → Nonterminal → Edge
edge_of i j n = record { nonterminal = n; from = i; to = j }

-- it is an element
abbrev pub Has : {A : Type 0} → List A → A → Type 0
Has [] x = ⊥
Has (y ∷ ys) x = (y ≡ x) ⊎ Has ys x

-- all edges over the tokens
abbrev pub HasEach : List Token → List Edge → Type 0
HasEach tokens edges = (n : Nonterminal) (i j : ℕ) → i ≤ j → j ≤ length tokens → Has edges (edge_of i j n)

-- the edge is a phrase of the tokens
abbrev pub IsEdge : List Token → Edge → Type 0
IsEdge tokens edge = Derives edge.nonterminal (drop edge.from tokens) (drop edge.to tokens)

abbrev pub IsSound : List Token → List Edge → Type 0
IsSound tokens chart = (edge : Edge) → Has chart edge → IsEdge tokens edge

-- the edges are phrases, and no other edge follows from them
pub record IsChart (tokens : List Token) (chart : List Edge) : Type 0 where
  pub sound : IsSound tokens chart
  pub closed : (n : Nonterminal) (i j : ℕ)
      → i ≤ j
      → j ≤ length tokens
      → phrase_spans_of tokens chart (edge_of i j n) ≡ true
      → Has chart (edge_of i j n)

pub record Round : Type 0 where
  pub chart : List Edge
  pub left : List Edge

-- what the pending edges add to the chart, one by one, and which are left
unfoldable pub round_of : List Edge → List Token → List Edge → List Edge → Round
round_of [] tokens chart left = record { chart = chart; left = left }
round_of (edge ∷ pending) tokens chart left =
    if phrase_spans_of tokens chart edge then round_of pending tokens (chart ++ edge ∷ []) left else round_of pending
    tokens chart (left ++ edge ∷ [])
