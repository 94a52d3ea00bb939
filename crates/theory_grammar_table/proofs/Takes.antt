-- Tokens that fit marks, and what is left: how marks are put together, and what a row of the table
-- makes of them.
use Rattle.std.proofs.Common.{◌≡◌, ℕ, zero, suc, List, [], ◌∷◌, refl, sym, subst}
use Rattle.htt_lexer_tokens.specs.declared.tokens.Token.{Token}
use Rattle.htt_parser_table.specs.declared.symbols.Symbol.{Symbol}
use Rattle.htt_parser_table.specs.declared.symbols.Symbol.TheVariants.{Phrase}
use Rattle.htt_parser_table.specs.declared.symbols.Nonterminal.{Nonterminal}
use Rattle.htt_parser_table.specs.Table.{alternatives_of}
use Rattle.htt_parser_table.specs.Derives.{IsOne, Derives, SomeRow, Row, derived, this_row, a_later_row, row_ends, token_first, phrase_first}
use Rattle.theory_grammar.specs.Marks.{Mark, FitsMark, AllFit, Given, span_of, ◌⨟◌, numbered}

abbrev pub Takes : List Mark → List Token → List Token → Type 0
Takes [] ts us = ts ≡ us
Takes (m ∷ ms) ts us = (t : Token) × (vs : List Token) × (ts ≡ t ∷ vs) × FitsMark t m × Takes ms vs us

-- the first tokens fit the marks, and these are left
pub record Reads (ms : List Mark) (ts us : List Token) : Type 0 where
  pub takes : Takes ms ts us

pub from_fit : (ts : List Token) (ms : List Mark) → AllFit ts ms → Takes ms ts []
from_fit [] [] fit = refl
from_fit [] (m ∷ ms) fit = absurd fit
from_fit (t ∷ ts) [] fit = absurd fit
from_fit (t ∷ ts) (m ∷ ms) fit = (t, ts, refl, fit.0, from_fit ts ms fit.1)

pub to_fit : (ts : List Token) (ms : List Mark) → Takes ms ts [] → AllFit ts ms
to_fit ts [] takes = subst (λ us. AllFit us []) (sym takes) tt
to_fit ts (m ∷ ms) takes = subst (λ us. AllFit us (m ∷ ms)) (sym takes.2) (takes.3, to_fit takes.1 ms takes.4)

-- ---- the parts of marks

pub join_takes : (a b : List Mark) (ts vs us : List Token) → Takes a ts vs → Takes b vs us → Takes (a ⨟ b) ts us
unfolding ◌⨟◌
join_takes [] b ts vs us first second = subst (λ ws. Takes b ws us) (sym first) second
join_takes (m ∷ a) b ts vs us first second = (first.0, first.1, first.2, first.3, join_takes a b first.1 vs us first.4 second)

pub split_takes : (a b : List Mark) (ts us : List Token) → Takes (a ⨟ b) ts us → (vs : List Token) × Takes a ts vs × Takes b vs us
unfolding ◌⨟◌
split_takes [] b ts us takes = (ts, refl, takes)
split_takes (m ∷ a) b ts us takes =
    let rest = split_takes a b takes.1 us takes.4 in
    (rest.0, (takes.0, takes.1, takes.2, takes.3, rest.1), rest.2)

pub renumbered_takes : (n : ℕ) (a : List Mark) (ts us : List Token) → Takes a ts us → Takes (numbered n a) ts us
renumbered_takes n [] ts us takes = takes
renumbered_takes n (m ∷ a) ts us takes = (takes.0, takes.1, takes.2, record { kind = takes.3.kind; at = takes.3.at; span = takes.3.span }, takes.4)

pub unnumbered_takes : (n : ℕ) (a : List Mark) (ts us : List Token) → Takes (numbered n a) ts us → Takes a ts us
unnumbered_takes n [] ts us takes = takes
unnumbered_takes n (m ∷ a) ts us takes = (takes.0, takes.1, takes.2, record { kind = takes.3.kind; at = takes.3.at; span = takes.3.span }, takes.4)

-- ---- from tokens to the marks of a tree

pub nothing : {ts us : List Token} → ts ≡ us → Reads [] ts us
nothing e = record { takes = e }

pub join : {a b : List Mark} {ts vs us : List Token} → Reads a ts vs → Reads b vs us → Reads (a ⨟ b) ts us
join {a = a} {b = b} {ts = ts} {vs = vs} {us = us} first second = record { takes = join_takes a b ts vs us first.takes second.takes }

pub alone : {m : Mark} {t : Token} {ts us : List Token} → ts ≡ t ∷ us → FitsMark t m → Reads (m ∷ []) ts us
alone {t = t} {us = us} is fits = record { takes = (t, us, is, fits, refl) }

pub up_to : {a : List Mark} {ts vs us : List Token} → vs ≡ us → Reads a ts vs → Reads a ts us
up_to {a = a} {ts = ts} e reads = subst (λ ws. Reads a ts ws) e reads

pub regrouped : {ts us : List Token} (a b c : List Mark) → Reads (a ⨟ (b ⨟ c)) ts us → Reads ((a ⨟ b) ⨟ c) ts us
regrouped {ts = ts} {us = us} a b c reads =
    let parts = split_takes a (b ⨟ c) ts us reads.takes in
    let rest = split_takes b c parts.0 us parts.2 in
    record { takes = join_takes (a ⨟ b) c ts rest.0 us (join_takes a b ts parts.0 rest.0 parts.1 rest.1) rest.2 }

pub skipped : {a : List Mark} {ts us : List Token} → Reads a ts us → Reads ([] ⨟ a) ts us
unfolding ◌⨟◌
skipped reads = reads

pub fit : {t : Token} {m : Mark} → t.kind ≡ m.kind → Given m.at t.from → Given m.span (span_of t) → FitsMark t m
fit kind at span = record { kind = kind; at = at; span = span }

pub renumbered : {a : List Mark} {ts us : List Token} (n : ℕ) → Reads a ts us → Reads (numbered n a) ts us
renumbered {a = a} {ts = ts} {us = us} n reads = record { takes = renumbered_takes n a ts us reads.takes }

-- ---- from the marks of a tree to a derivation

pub record Rows (ms : List Mark) (row : List Symbol) : Type 0 where
  pub gives : (ts us : List Token) → Takes ms ts us → Row row ts us

pub record Makes (ms : List Mark) (n : Nonterminal) : Type 0 where
  pub makes : (ts us : List Token) → Takes ms ts us → Derives n ts us

pub none : Rows [] []
none = record { gives = λ ts us e. subst (λ vs. Row [] ts vs) e row_ends }

token_row : (s : Symbol) (row : List Symbol) (m : Mark) (ts us vs : List Token) (t : Token)
    → ts ≡ t ∷ vs
    → FitsMark t m
    → IsOne s m.kind
    → Row row vs us
    → Row (s ∷ row) ts us
token_row s row m ts us vs t is fits one rest = subst (λ ws. Row (s ∷ row) ws us) (sym is) (token_first (subst (IsOne s) (sym fits.kind) one) rest)

pub one : {s : Symbol} {row : List Symbol} {ms : List Mark} (m : Mark) → IsOne s m.kind → Rows ms row → Rows ((m ∷ []) ⨟ ms) (s ∷ row)
unfolding ◌⨟◌
one {s = s} {row = row} m is rows = record { gives = λ ts us takes. token_row s row m ts us takes.1 takes.0 takes.2 takes.3 is (rows.gives takes.1 us takes.4) }

pub one_alone : {s : Symbol} {m : Mark} → IsOne s m.kind → Rows (m ∷ []) (s ∷ [])
one_alone {s = s} {m = m} is = record { gives = λ ts us takes. token_row s [] m ts us takes.1 takes.0 takes.2 takes.3 is (none.gives takes.1 us takes.4) }

pub sub : {n : Nonterminal} {row : List Symbol} {a b : List Mark} → Makes a n → Rows b row → Rows (a ⨟ b) (Phrase n ∷ row)
sub {a = a} {b = b} phrase rows = record {
  gives = λ ts us takes. let parts = split_takes a b ts us takes in phrase_first (phrase.makes ts parts.0 parts.1) (rows.gives parts.0 us parts.2);
}

pub last : {n : Nonterminal} {a : List Mark} → Makes a n → Rows a (Phrase n ∷ [])
last phrase = record { gives = λ ts us takes. phrase_first (phrase.makes ts us takes) row_ends }

pub left_first : {row : List Symbol} (a b c : List Mark) → Rows (a ⨟ (b ⨟ c)) row → Rows ((a ⨟ b) ⨟ c) row
left_first a b c rows = record {
  gives = λ ts us takes.
      let parts = split_takes (a ⨟ b) c ts us takes in
      let inner = split_takes a b ts parts.0 parts.1 in
      rows.gives ts us (join_takes a (b ⨟ c) ts inner.0 us inner.1 (join_takes b c inner.0 parts.0 us inner.2 parts.2));
}

pub skip : {a : List Mark} {row : List Symbol} → Rows a row → Rows ([] ⨟ a) row
unfolding ◌⨟◌
skip rows = rows

pub unnumbered : {n : Nonterminal} {a : List Mark} (k : ℕ) → Makes a n → Makes (numbered k a) n
unnumbered {a = a} k phrase = record { makes = λ ts us takes. phrase.makes ts us (unnumbered_takes k a ts us takes) }

abbrev pub row_at : ℕ → List (List Symbol) → List Symbol
row_at k [] = []
row_at zero (row ∷ rows) = row
row_at (suc k) (row ∷ rows) = row_at k rows

abbrev pub IsWithin : ℕ → List (List Symbol) → Type 0
IsWithin k [] = ⊥
IsWithin zero (row ∷ rows) = Unit {0}
IsWithin (suc k) (row ∷ rows) = IsWithin k rows

some_row : (k : ℕ) (rows : List (List Symbol)) (ts us : List Token) → IsWithin k rows → Row (row_at k rows) ts us → SomeRow rows ts us
some_row k [] ts us within row = absurd within
some_row zero (r ∷ rows) ts us within row = this_row row
some_row (suc k) (r ∷ rows) ts us within row = a_later_row (some_row k rows ts us within row)

-- by the alternative of this number
pub by : {n : Nonterminal} {ms : List Mark} (k : ℕ) → IsWithin k (alternatives_of n) → Rows ms (row_at k (alternatives_of n)) → Makes ms n
by {n = n} k within rows = record { makes = λ ts us takes. derived (some_row k (alternatives_of n) ts us within (rows.gives ts us takes)) }
