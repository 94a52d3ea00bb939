-- The size of a heap by the words and the table that keep it.
use Rattle.std.proofs.Common.{◌≡◌, ℕ, ◌+◌, ◌-◌, ◌≤◌, List, [], ◌∷◌, length, Some, None, refl, sym, ap, ◌∙◌, arith, ⊎_elim}
use Rattle.std.specs.Prelude.{sum_by}
use Rattle.std.proofs.lemmas.Bool.{cases_eq}
use Rattle.std.proofs.lemmas.Bool.Decides.{nat_tests}
use Rattle.std.proofs.lemmas.List.{length-take, length-drop}
use Rattle.std.proofs.lemmas.List.Sums.{sum_by-cons}
use Rattle.std.specs.List.{AllByRecursion}
use Rattle.std.specs.List.Sorted.{IsStrictlySortedBy}
use Rattle.std.specs.Ordering.{nat_cmp}
use Rattle.std.specs.Map.{keys_of, values_of}
use Rattle.std.specs.declared.cmp.Ordering.TheVariants.{Less}
use Rattle.theory_values.specs.Heaps.{IsHeap}
use Rattle.heap_model_flat.specs.declared.span.Span.{Span}
use Rattle.heap_model_flat.specs.Listing.{IsSize}
use Rattle.heap_model_flat.specs.Spans.{span_words, span_at, flat_blocks, AreLaidOut}
use Rattle.heap_model_flat.proofs.TableLemmas.{equal_keys, no_later}
use Rattle.heap_model_flat.proofs.ListingLemmas.{table_sized}

pub in_tail : (p : ℕ × Span) (es : List (ℕ × Span)) (l : ℕ) (s : Span)
    → AllByRecursion (λ y. nat_cmp p.0 y ≡ Less) (keys_of es)
    → span_at es l ≡ Some s
    → span_at (p ∷ es) l ≡ Some s
in_tail p es l s a h =
    ⊎_elim (λ (q : l ≡ p.0). let n = ap (span_at es) q ∙ no_later p.0 es a in absurd (none_is_no_span (sym n ∙ h)))
    (λ (d : l ≡ p.0 → ⊥). let b = equal_keys l p.0 in grind (arith, nat_tests)) (cases_eq l p.0)
  where
    none_is_no_span : None ≡ Some s → ⊥
    none_is_no_span e = cc

pub at_first : (p : ℕ × Span) (es : List (ℕ × Span)) → span_at (p ∷ es) p.0 ≡ Some p.1
at_first p es = let b = equal_keys p.0 p.0 in grind (arith, nat_tests)

module _ (ws : List ℕ) where
  words_counted : (es : List (ℕ × Span))
      → ((l : ℕ) (s : Span) → span_at es l ≡ Some s → s.start + s.len ≤ length ws)
      → IsStrictlySortedBy nat_cmp (keys_of es)
      → sum_by (λ s. length (span_words ws s) + 1) (values_of es) ≡ sum_by (λ (s : Span). s.len) (values_of es) + length es
  unfolding IsStrictlySortedBy
  words_counted [] w s = refl
  words_counted (p ∷ es) w s =
      let first = w p.0 p.1 (at_first p es) in
      let rest = words_counted es (λ l t h. w l t (in_tail p es l t s.0 h)) s.1 in
      let n : length (span_words ws p.1) ≡ p.1.len = rw (length-take, length-drop) (omega arith) in
      let a = sum_by-cons (λ (s : Span). length (span_words ws s) + 1) p.1 (values_of es) in
      let b = sum_by-cons (λ (s : Span). s.len) p.1 (values_of es) in
      omega (arith, rest, n, a, b)

  -- the words that are in no dead span, and the entries of the table, are the size
  pub flat_sized : (es : List (ℕ × Span)) (dead n : ℕ)
      → IsHeap (flat_blocks ws es)
      → AreLaidOut es (length ws)
      → sum_by (λ (s : Span). s.len) (values_of es) + dead ≡ length ws
      → IsStrictlySortedBy nat_cmp (keys_of es)
      → n ≡ length ws - dead + length es
      → IsSize (flat_blocks ws es) n
  flat_sized es dead n heap laid counted sorted e =
      table_sized (span_words ws) es heap sorted n (let w = words_counted es laid.within sorted in omega (arith, e, w, counted))
