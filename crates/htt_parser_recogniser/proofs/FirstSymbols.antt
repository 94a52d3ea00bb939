-- What a row spans, by its first symbol, and what spans where a phrase does.
use Rattle.std.proofs.Common.{◌≡◌, ℕ, suc, List, [], ◌∷◌, length, map, take, drop, ◌≤◌, refl, sym, ap, ◌∙◌, arith}
use Rattle.std.specs.Prelude.{Bool, false, ◌&&◌, ◌||◌, ◌==◌}
use Rattle.std.specs.List.{list_any}
use Rattle.std.proofs.lemmas.List.{take_all}
use Rattle.htt_lexer_tokens.specs.declared.tokens.Token.{Token}
use Rattle.htt_parser_table.specs.declared.symbols.Symbol.{Symbol}
use Rattle.htt_parser_table.specs.declared.symbols.Symbol.TheVariants.{Word, Mark, Name, Number, Phrase}
use Rattle.htt_parser_table.specs.declared.symbols.Nonterminal.{Nonterminal}
use Rattle.htt_parser_recogniser.specs.declared.rows.Edge.{Edge}
use Rattle.htt_parser_recogniser.specs.Chart.{asks_for, first_token_is, row_follows, row_spans_of}

pub nothing_spans : (row : List Symbol) (tokens : List Token) (chart : List Edge) (i j : ℕ) → length row ≡ 0 → row_spans_of row tokens chart i j ≡ (i == j)
unfolding row_spans_of
nothing_spans [] tokens chart i j e = refl
nothing_spans (s ∷ row) tokens chart i j e = absurd (grind (arith, e))

pub phrase_row : (row rest : List Symbol) (s : Symbol) (n : Nonterminal) (tokens : List Token) (chart : List Edge) (i j : ℕ)
    → row ≡ s ∷ rest
    → s ≡ Phrase n
    → row_spans_of row tokens chart i j ≡ list_any (row_follows n rest tokens chart i j) chart
unfolding row_spans_of
phrase_row row rest s n tokens chart i j e is = ap (λ r. row_spans_of r tokens chart i j) (e ∙ ap (λ x. x ∷ rest) is)

pub first_token_row : (s : Symbol) (rest : List Symbol) (tokens : List Token) (chart : List Edge) (i j : ℕ)
    → ((n : Nonterminal) → s ≡ Phrase n → ⊥)
    → row_spans_of (s ∷ rest) tokens chart i j ≡ (first_token_is (asks_for s) (drop i tokens) && row_spans_of rest tokens chart (suc i) j)
unfolding row_spans_of
first_token_row (Word w) rest tokens chart i j token = refl
first_token_row (Mark s) rest tokens chart i j token = refl
first_token_row Name rest tokens chart i j token = refl
first_token_row Number rest tokens chart i j token = refl
first_token_row (Phrase n) rest tokens chart i j token = absurd (token n refl)

pub token_row : (row rest : List Symbol) (s : Symbol) (tokens : List Token) (chart : List Edge) (i j : ℕ)
    → row ≡ s ∷ rest
    → ((n : Nonterminal) → s ≡ Phrase n → ⊥)
    → row_spans_of row tokens chart i j ≡ (first_token_is (asks_for s) (drop i tokens) && row_spans_of rest tokens chart (suc i) j)
token_row row rest s tokens chart i j e token = ap (λ r. row_spans_of r tokens chart i j) e ∙ first_token_row s rest tokens chart i j token

pub any_of_map : {A B : Type 0} (p : B → Bool) (f : A → B) (xs : List A) → list_any p (map f xs) ≡ list_any (λ x. p (f x)) xs
any_of_map p f [] = refl
any_of_map p f (x ∷ xs) = ap (λ b. p (f x) || b) (any_of_map p f xs)

pub any_of_all : {A : Type 0} (p : A → Bool) (xs : List A) (n : ℕ) → length xs ≤ n → list_any p (take n xs) ≡ false → list_any p xs ≡ false
any_of_all p xs n all none = ap (list_any p) (sym (take_all n xs all)) ∙ none
