-- The spans of one vector of words, in which a heap keeps its blocks.
use Rattle.std.specs.Prelude.{◌≡◌, ℕ, ◌+◌, ◌<◌, ◌≤◌, List, [], ◌∷◌, ◌++◌, Option, Some, take, drop, flat_map, nat_eq}
use Rattle.std.specs.Prelude.{if◌then◌else◌}
use Rattle.std.specs.Ordering.{nat_cmp}
use Rattle.std.specs.Map.{lookup}
use Rattle.std.specs.BTreeMap.{is_at}
use Rattle.theory_values.specs.Heaps.{Heap, Block}
use Rattle.heap_model_flat.specs.Table.{table_heap}
use Rattle.heap_model_flat.specs.declared.span.Span.{Span}

-- the span of so many words from a place on, which is 0 where there are none
abbrev pub span_from : ℕ → ℕ → Span
span_from start len = record { start = if nat_eq len 0 then 0 else start; len = len }

-- the words of a span
abbrev pub span_words : List ℕ → Span → Block
span_words words s = take s.len (drop s.start words)

-- the words with others in the place of a span's
abbrev pub with_span_words : List ℕ → Span → List ℕ → List ℕ
with_span_words words s others = take s.start words ++ (others ++ drop s.len (drop s.start words))

-- the span of each location of the table, and the heap that the table and the words make
abbrev pub span_at : List (ℕ × Span) → ℕ → Option Span
span_at entries l = lookup (is_at (nat_cmp l)) entries

abbrev pub flat_blocks : List ℕ → List (ℕ × Span) → Heap
flat_blocks words entries = table_heap (span_words words) entries

-- the words of all spans of a table, in its order
abbrev pub live_words : List ℕ → List (ℕ × Span) → List ℕ
live_words words entries = flat_map (λ e. span_words words e.1) entries

-- the table with each span behind the one before it, the first from n on
abbrev pub moved_spans : ℕ → List (ℕ × Span) → List (ℕ × Span)
moved_spans n [] = []
moved_spans n (e ∷ entries) = (e.0, span_from n e.1.len) ∷ moved_spans (n + e.1.len) entries

-- the word with number i is in the span
abbrev pub InSpan : Span → ℕ → Type 0
InSpan s i = (s.start ≤ i) × (i < s.start + s.len)

-- the spans lie within n words, no word is in the spans of two locations, and a span without words begins at 0
pub record AreLaidOut (entries : List (ℕ × Span)) (n : ℕ) : Type 0 where
  pub within : (l : ℕ) (s : Span) → span_at entries l ≡ Some s → s.start + s.len ≤ n
  pub apart : (l m i : ℕ) (s t : Span)
      → span_at entries l ≡ Some s
      → span_at entries m ≡ Some t
      → InSpan s i
      → InSpan t i
      → l ≡ m
  pub empty_first : (l : ℕ) (s : Span) → span_at entries l ≡ Some s → s.len ≡ 0 → s.start ≡ 0
