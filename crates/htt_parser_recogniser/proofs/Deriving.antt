-- What a chart shows is derived, and a chart to which nothing more can be added shows all that is.
use denote.Enum.Bare.{same_true, true_same}
use Rattle.std.proofs.Common.{◌≡◌, ℕ, zero, suc, ◌≤◌, List, [], ◌∷◌, length, drop, refl, sym, ap, subst, ◌∙◌, arith, eqb-true, eq-eqb, length-drop}
use Rattle.std.proofs.Math.Seq.{drop-length}
use Rattle.std.specs.Prelude.{Bool, true, false, ◌&&◌, ◌||◌, ◌==◌}
use Rattle.std.specs.List.{list_any}
use Rattle.htt_lexer_tokens.specs.contracts.tokens.Keyword as keyword_enum
use Rattle.htt_lexer_tokens.specs.contracts.tokens.Sign as sign_enum
use Rattle.htt_lexer_tokens.specs.declared.tokens.Kind.{Kind}
use Rattle.htt_lexer_tokens.specs.declared.tokens.Kind.TheVariants as kinds
use Rattle.htt_lexer_tokens.specs.declared.tokens.Token.{Token}
use Rattle.htt_parser_table.specs.contracts.symbols.Nonterminal as nonterminal_enum
use Rattle.htt_parser_table.specs.declared.symbols.Symbol.{Symbol}
use Rattle.htt_parser_table.specs.declared.symbols.Symbol.TheVariants.{Word, Mark, Name, Number, Phrase}
use Rattle.htt_parser_table.specs.declared.symbols.Nonterminal.{Nonterminal}
use Rattle.htt_parser_table.specs.Table.{alternatives_of}
use Rattle.htt_parser_table.specs.Derives.{IsOne, Derives, SomeRow, Row, derived, this_row, a_later_row, row_ends, token_first, phrase_first}
use Rattle.htt_parser_recogniser.specs.declared.rows.Edge.{Edge}
use Rattle.htt_parser_recogniser.specs.Chart.{asks_for, first_token_is, starts, row_follows, row_spans_of, phrase_spans_of}
use Rattle.htt_parser_recogniser.specs.Rounds.{edge_of, Has, IsEdge, IsSound, IsChart}
use Rattle.htt_parser_recogniser.proofs.FirstSymbols.{first_token_row}
use Rattle.htt_parser_recogniser.proofs.Lists.{both, or_true, any_there, some_there, begins_at}

-- ---- one token

no_token : {A : Type 0} → false ≡ true → A
no_token h = absurd (let no : false ≡ true = h in cc)

is_one : (s : Symbol) (k : Kind) → asks_for s k ≡ true → IsOne s k
is_one (Word w) (kinds.Keyword v) h = ap kinds.Keyword (same_true keyword_enum.the_type tt v w h)
is_one (Mark s) (kinds.Sign r) h = ap kinds.Sign (same_true sign_enum.the_type tt r s h)
is_one Name kinds.Name h = refl
is_one Number (kinds.Number n) h = (n, refl)
is_one _ _ h = no_token h

one_is : (s : Symbol) (k : Kind) → IsOne s k → asks_for s k ≡ true
one_is (Word w) k e = subst (λ x. asks_for (Word w) x ≡ true) (sym e) (true_same keyword_enum.the_type w w refl)
one_is (Mark s) k e = subst (λ x. asks_for (Mark s) x ≡ true) (sym e) (true_same sign_enum.the_type s s refl)
one_is Name k e = subst (λ x. asks_for Name x ≡ true) (sym e) refl
one_is Number k e = subst (λ x. asks_for Number x ≡ true) (sym e.1) refl
one_is (Phrase n) k e = absurd e

first_there : (p : Kind → Bool) (tokens : List Token) (i : ℕ)
    → first_token_is p (drop i tokens) ≡ true
    → (t : Token) × (drop i tokens ≡ t ∷ drop (suc i) tokens) × (p t.kind ≡ true)
first_there p [] zero h = no_token h
first_there p [] (suc i) h = no_token h
first_there p (t ∷ tokens) zero h = (t, refl, h)
first_there p (t ∷ tokens) (suc i) h = first_there p tokens i h

-- ---- what a chart shows is derived

module _ (tokens : List Token) (chart : List Edge) (sound : IsSound tokens chart) where
  token_sound : (s : Symbol) (row : List Symbol) (i j : ℕ)
      → (first_token_is (asks_for s) (drop i tokens) && row_spans_of row tokens chart (suc i) j) ≡ true
      → (row_spans_of row tokens chart (suc i) j ≡ true → Row row (drop (suc i) tokens) (drop j tokens))
      → Row (s ∷ row) (drop i tokens) (drop j tokens)
  token_sound s row i j h rest =
      let parts = both (first_token_is (asks_for s) (drop i tokens)) (row_spans_of row tokens chart (suc i) j) h in
      let first = first_there (asks_for s) tokens i parts.0 in
      subst (λ ts. Row (s ∷ row) ts (drop j tokens)) (sym first.1) (token_first (is_one s first.0.kind first.2) (rest parts.1))

  row_sound : (row : List Symbol) (i j : ℕ) → row_spans_of row tokens chart i j ≡ true → Row row (drop i tokens) (drop j tokens)
  unfolding row_spans_of
  row_sound [] i j h = subst (λ k. Row [] (drop i tokens) (drop k tokens)) (eqb-true i j h) row_ends
  row_sound (Phrase n ∷ row) i j h =
      let found = some_there (row_follows n row tokens chart i j) chart h in
      let edge = found.0 in
      let parts = both (starts n i edge) (row_spans_of row tokens chart edge.to j) found.2 in
      let begin = both _ (edge.from == i) parts.0 in
      let same : edge.nonterminal ≡ n = same_true nonterminal_enum.the_type tt edge.nonterminal n begin.0 in
      let from : edge.from ≡ i = eqb-true edge.from i begin.1 in
      let there : IsEdge tokens edge = sound edge found.1 in
      let at : Derives edge.nonterminal (drop i tokens) (drop edge.to tokens) =
      subst (λ k. Derives edge.nonterminal (drop k tokens) (drop edge.to tokens)) from there in
      phrase_first (subst (λ m. Derives m (drop i tokens) (drop edge.to tokens)) same at) (row_sound row edge.to j parts.1)
  row_sound (Word w ∷ row) i j h = token_sound (Word w) row i j h (row_sound row (suc i) j)
  row_sound (Mark s ∷ row) i j h = token_sound (Mark s) row i j h (row_sound row (suc i) j)
  row_sound (Name ∷ row) i j h = token_sound Name row i j h (row_sound row (suc i) j)
  row_sound (Number ∷ row) i j h = token_sound Number row i j h (row_sound row (suc i) j)

  first_or : (row : List Symbol) (rows : List (List Symbol)) (i j : ℕ) (b : Bool)
      → row_spans_of row tokens chart i j ≡ b
      → (b || list_any (λ r. row_spans_of r tokens chart i j) rows) ≡ true
      → (list_any (λ r. row_spans_of r tokens chart i j) rows ≡ true → SomeRow rows (drop i tokens) (drop j tokens))
      → SomeRow (row ∷ rows) (drop i tokens) (drop j tokens)
  first_or row rows i j true is h rest = this_row (row_sound row i j is)
  first_or row rows i j false is h rest = a_later_row (rest h)

  rows_sound : (rows : List (List Symbol)) (i j : ℕ)
      → list_any (λ row. row_spans_of row tokens chart i j) rows ≡ true
      → SomeRow rows (drop i tokens) (drop j tokens)
  rows_sound [] i j h = no_token h
  rows_sound (row ∷ rows) i j h = first_or row rows i j (row_spans_of row tokens chart i j) refl h (rows_sound rows i j)

  pub phrase_sound : (edge : Edge) → phrase_spans_of tokens chart edge ≡ true → IsEdge tokens edge
  phrase_sound edge h = derived (rows_sound (alternatives_of edge.nonterminal) edge.from edge.to h)

-- ---- what is derived, a closed chart shows

pub record Ends (tokens : List Token) (us : List Token) (i : ℕ) (shows : ℕ → Bool) : Type 0 where
  pub to : ℕ
  pub after : i ≤ to
  pub within : to ≤ length tokens
  pub rest : us ≡ drop to tokens
  pub spans : shows to ≡ true

module _ (tokens : List Token) (chart : List Edge) (is : IsChart tokens chart) where
  mutual
    unfolding row_spans_of

    pub phrase_complete : (n : Nonterminal) (ts us : List Token) (i : ℕ)
        → i ≤ length tokens
        → ts ≡ drop i tokens
        → Derives n ts us
        → Ends tokens us i (λ j. phrase_spans_of tokens chart (edge_of i j n))
    phrase_complete n ts us i within e (derived rows) = rows_complete (alternatives_of n) ts us i within e rows

    rows_complete : (rows : List (List Symbol)) (ts us : List Token) (i : ℕ)
        → i ≤ length tokens
        → ts ≡ drop i tokens
        → SomeRow rows ts us
        → Ends tokens us i (λ j. list_any (λ row. row_spans_of row tokens chart i j) rows)
    rows_complete (row ∷ rows) ts us i within e (this_row r) =
        let h = row_complete row ts us i within e r in
        record {
          to = h.to;
          after = h.after;
          within = h.within;
          rest = h.rest;
          spans = ap (λ b. b || list_any (λ r. row_spans_of r tokens chart i h.to) rows) h.spans;
        }
    rows_complete (row ∷ rows) ts us i within e (a_later_row r) =
        let h = rows_complete rows ts us i within e r in
        record {
          to = h.to;
          after = h.after;
          within = h.within;
          rest = h.rest;
          spans = ap (λ b. row_spans_of row tokens chart i h.to || b) h.spans ∙ or_true (row_spans_of row tokens chart i h.to);
        }

    row_complete : (row : List Symbol) (ts us : List Token) (i : ℕ)
        → i ≤ length tokens
        → ts ≡ drop i tokens
        → Row row ts us
        → Ends tokens us i (λ j. row_spans_of row tokens chart i j)
    row_complete [] ts _ i within e row_ends = record { to = i; after = omega arith; within = within; rest = e; spans = eq-eqb i i refl }
    row_complete (s ∷ row) (t ∷ ts) us i within e (token_first one r) =
        let begin = begins_at tokens i t ts e in
        let h = row_complete row ts us (suc i) begin.0 begin.1 r in
        let first : first_token_is (asks_for s) (drop i tokens) ≡ true = ap (first_token_is (asks_for s)) (sym e) ∙ one_is s t.kind one in
        record {
          to = h.to;
          after = let after = h.after in omega (arith, after);
          within = h.within;
          rest = h.rest;
          spans =
              first_token_row s row tokens chart i h.to (λ n p. subst (λ x. IsOne x t.kind) p one)
              ∙ ap (λ b. b && row_spans_of row tokens chart (suc i) h.to) first
              ∙ h.spans;
        }
    row_complete (Phrase n ∷ row) ts vs i within e (phrase_first {us = us} d r) =
        let first = phrase_complete n ts us i within e d in
        let h = row_complete row us vs first.to first.within first.rest r in
        let there : Has chart (edge_of i first.to n) = is.closed n i first.to first.after first.within first.spans in
        record {
          to = h.to;
          after = let a = first.after in let b = h.after in omega (arith, a, b);
          within = h.within;
          rest = h.rest;
          spans =
              any_there (row_follows n row tokens chart i h.to) chart (edge_of i first.to n) there
              (ap (λ b. b && row_spans_of row tokens chart first.to h.to)
              (ap (λ b. b && (i == i)) (true_same nonterminal_enum.the_type n n refl) ∙ eq-eqb i i refl)
              ∙ h.spans);
        }

-- ---- the whole of the tokens

nothing_after : (tokens : List Token) (j : ℕ) → [] ≡ drop j tokens → length tokens ≤ j
nothing_after tokens j e = let h = ap length e ∙ length-drop j tokens in omega (arith, h)

pub shown_is_derived : (tokens : List Token) (chart : List Edge) (n : Nonterminal)
    → IsChart tokens chart
    → phrase_spans_of tokens chart (edge_of 0 (length tokens) n) ≡ true
    → Derives n tokens []
shown_is_derived tokens chart n is h = subst (Derives n tokens) (drop-length tokens) (phrase_sound tokens chart is.sound (edge_of 0 (length tokens) n) h)

pub derived_is_shown : (tokens : List Token) (chart : List Edge) (n : Nonterminal)
    → IsChart tokens chart
    → Derives n tokens []
    → phrase_spans_of tokens chart (edge_of 0 (length tokens) n) ≡ true
derived_is_shown tokens chart n is d =
    let ends = phrase_complete tokens chart is n tokens [] 0 (omega arith) refl d in
    let past = nothing_after tokens ends.to ends.rest in
    let within = ends.within in
    let whole : ends.to ≡ length tokens = omega (arith, past, within) in
    subst (λ j. phrase_spans_of tokens chart (edge_of 0 j n) ≡ true) whole ends.spans
