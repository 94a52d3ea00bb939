-- The heap whose live words are copied to a vector of their own, each span behind the one before it.
use Rattle.std.proofs.Common.{◌≡◌, ℕ, ◌+◌, ◌≤◌, cond, List, [], ◌∷◌, ◌++◌, length, Some, refl, sym, ap, ◌∙◌, subst, arith, append_assoc, length-append, ◌⊎◌}
use Rattle.std.proofs.Common.{⊎_elim, inl, inr}
use Rattle.std.specs.Prelude.{sum_by}
use Rattle.std.proofs.lemmas.Bool.{cases_eq}
use Rattle.std.proofs.lemmas.Bool.Decides.{nat_tests}
use Rattle.std.proofs.lemmas.List.{length-take, length-drop}
use Rattle.std.proofs.lemmas.List.Sums.{sum_by-cons}
use Rattle.std.specs.List.Sorted.{IsStrictlySortedBy}
use Rattle.std.specs.Ordering.{nat_cmp}
use Rattle.std.specs.Map.{keys_of, values_of}
use Rattle.std.specs.BTreeMap.{is_at}
use Rattle.theory_values.specs.Heaps.{Block}
use Rattle.heap_model_flat.specs.declared.span.Span.{Span}
use Rattle.heap_model_flat.specs.Spans.{span_from, span_words, span_at, flat_blocks, live_words, moved_spans, InSpan, AreLaidOut}
use Rattle.heap_model_flat.proofs.TableLemmas.{equal_keys, option_map-cond}
use Rattle.heap_model_flat.proofs.SpanLemmas.{IsFrom, span_from-is, placed_words, none_is_no_span}
use Rattle.heap_model_flat.proofs.SizeLemmas.{in_tail, at_first}

abbrev pub total_len : List (ℕ × Span) → ℕ
total_len es = sum_by (λ (s : Span). s.len) (values_of es)

total_len-cons : (e : ℕ × Span) (es : List (ℕ × Span)) → total_len (e ∷ es) ≡ e.1.len + total_len es
total_len-cons e es = sum_by-cons (λ (s : Span). s.len) e.1 (values_of es)

-- the moved spans have the lengths that they had
pub moved_total : (n : ℕ) (es : List (ℕ × Span)) → total_len (moved_spans n es) ≡ total_len es
moved_total n [] = refl
moved_total n (e ∷ es) =
    let r = moved_total (n + e.1.len) es in
    let a = total_len-cons e es in
    let b = total_len-cons (e.0, span_from n e.1.len) (moved_spans (n + e.1.len) es) in omega (arith, r, a, b)

-- each entry's span is within so many words
abbrev AllWithin : ℕ → List (ℕ × Span) → Type 0
AllWithin n es = (l : ℕ) (s : Span) → span_at es l ≡ Some s → s.start + s.len ≤ n

module _ (ws : List ℕ) where
  span_length : (s : Span) → s.start + s.len ≤ length ws → length (span_words ws s) ≡ s.len
  span_length s h = rw (length-take, length-drop) (omega arith)

  pub live_length : (es : List (ℕ × Span)) → AllWithin (length ws) es → IsStrictlySortedBy nat_cmp (keys_of es) → length (live_words ws es) ≡ total_len es
  unfolding IsStrictlySortedBy
  live_length [] w s = refl
  live_length (e ∷ es) w s =
      let first = span_length e.1 (w e.0 e.1 (at_first e es)) in
      let rest = live_length es (λ l t h. w l t (in_tail e es l t s.0 h)) s.1 in
      let a = total_len-cons e es in
      rw length-append (omega (arith, first, rest, a))

  -- the words of the span that is moved behind so many words
  moved_words : (pre rest : List ℕ) (s : Span)
      → s.start + s.len ≤ length ws
      → span_words (pre ++ (span_words ws s ++ rest)) (span_from (length pre) s.len) ≡ span_words ws s
  moved_words pre rest s h =
      ap (λ (k : ℕ). span_words (pre ++ (span_words ws s ++ rest)) (span_from (length pre) k)) (sym (span_length s h))
      ∙ placed_words pre (span_words ws s) rest

  moved_blocks : (pre : List ℕ) (n : ℕ) (es : List (ℕ × Span))
      → n ≡ length pre
      → AllWithin (length ws) es
      → IsStrictlySortedBy nat_cmp (keys_of es)
      → (l : ℕ)
      → flat_blocks (pre ++ live_words ws es) (moved_spans n es) l ≡ flat_blocks ws es l
  unfolding IsStrictlySortedBy
  moved_blocks pre n [] e w s l = refl
  moved_blocks pre n (p ∷ es) e w s l =
      let here = w p.0 p.1 (at_first p es) in
      let all : List ℕ = pre ++ live_words ws (p ∷ es) in
      let first : span_words all (span_from n p.1.len) ≡ span_words ws p.1 = rw e (moved_words pre (live_words ws es) p.1 here) in
      let front : n + p.1.len ≡ length (pre ++ span_words ws p.1) = rw length-append (omega (arith, e, span_length p.1 here)) in
      let rest : flat_blocks ((pre ++ span_words ws p.1) ++ live_words ws es) (moved_spans (n + p.1.len) es) l ≡ flat_blocks ws es l =
      moved_blocks (pre ++ span_words ws p.1) (n + p.1.len) es front (λ l t h. w l t (in_tail p es l t s.0 h)) s.1 l in
      option_map-cond (span_words all) (is_at (nat_cmp l) p.0) (Some (span_from n p.1.len)) (span_at (moved_spans (n + p.1.len) es) l)
      ∙ ap (λ (b : Block). cond (is_at (nat_cmp l) p.0) (Some b) (flat_blocks all (moved_spans (n + p.1.len) es) l)) first
      ∙ ap (λ (x : List ℕ). cond (is_at (nat_cmp l) p.0) (Some (span_words ws p.1)) (flat_blocks x (moved_spans (n + p.1.len) es) l))
      (sym (append_assoc pre (span_words ws p.1) (live_words ws es)))
      ∙ ap (cond (is_at (nat_cmp l) p.0) (Some (span_words ws p.1))) rest
      ∙ sym (option_map-cond (span_words ws) (is_at (nat_cmp l) p.0) (Some p.1) (span_at es l))

  -- the blocks are those that there were
  pub blocks_moved : (es : List (ℕ × Span))
      → AreLaidOut es (length ws)
      → IsStrictlySortedBy nat_cmp (keys_of es)
      → flat_blocks (live_words ws es) (moved_spans 0 es) ≡ flat_blocks ws es
  blocks_moved es laid s = λ j l. moved_blocks [] 0 es refl laid.within s l j

-- what is at the front of the moved spans, or behind it
found_in : (n : ℕ) (e : ℕ × Span) (es : List (ℕ × Span)) (l : ℕ) (s : Span)
    → span_at (moved_spans n (e ∷ es)) l ≡ Some s
    → ((l ≡ e.0) × (span_from n e.1.len ≡ s)) ⊎ (span_at (moved_spans (n + e.1.len) es) l ≡ Some s)
found_in n e es l s h =
    ⊎_elim (λ (q : l ≡ e.0). let b = equal_keys l e.0 in grind (arith, nat_tests))
    (λ (q : l ≡ e.0 → ⊥). let b = equal_keys l e.0 in grind (arith, nat_tests)) (cases_eq l e.0)

first_is : (n len : ℕ) (s : Span) → span_from n len ≡ s → IsFrom n len s
first_is n len s e = subst (IsFrom n len) e (span_from-is n len)

-- a moved span is among the words that are moved
moved_is : (n : ℕ) (es : List (ℕ × Span)) (l : ℕ) (s : Span) → span_at (moved_spans n es) l ≡ Some s → IsFrom n (total_len es) s
moved_is n [] l s h = absurd (none_is_no_span s h)
moved_is n (e ∷ es) l s h =
    let total = total_len-cons e es in
    ⊎_elim
    (λ (p : (l ≡ e.0) × (span_from n e.1.len ≡ s)).
    let f = first_is n e.1.len s p.1 in record { within = omega (arith, f.within, total); behind = f.behind; empty_first = f.empty_first })
    (λ (p : span_at (moved_spans (n + e.1.len) es) l ≡ Some s).
    let f = moved_is (n + e.1.len) es l s p in
    record {
      within = omega (arith, f.within, total);
      behind = λ i h. let b = f.behind i h in omega (arith, b);
      empty_first = f.empty_first;
    })
    (found_in n e es l s h)

moved_apart : (n : ℕ) (es : List (ℕ × Span)) (l m i : ℕ) (s t : Span)
    → span_at (moved_spans n es) l ≡ Some s
    → span_at (moved_spans n es) m ≡ Some t
    → InSpan s i
    → InSpan t i
    → l ≡ m
moved_apart n [] l m i s t g h hs ht = absurd (none_is_no_span s g)
moved_apart n (e ∷ es) l m i s t g h hs ht = by (found_in n e es l s g) (found_in n e es m t h) (λ p q. moved_apart (n + e.1.len) es l m i s t p q hs ht)
  where
    Behind : ℕ → Span → Type 0
    Behind k v = span_at (moved_spans (n + e.1.len) es) k ≡ Some v

    by : ((l ≡ e.0) × (span_from n e.1.len ≡ s)) ⊎ Behind l s → ((m ≡ e.0) × (span_from n e.1.len ≡ t)) ⊎ Behind m t → (Behind l s → Behind m t → l ≡ m) → l ≡ m
    by (inl p) (inl q) r = omega (arith, p.0, q.0)
    by (inl p) (inr q) r =
        let a = (first_is n e.1.len s p.1).within in
        let b = (moved_is (n + e.1.len) es m t q).behind i ht in absurd (omega (arith, a, b, hs.1))
    by (inr p) (inl q) r =
        let a = (first_is n e.1.len t q.1).within in
        let b = (moved_is (n + e.1.len) es l s p).behind i hs in absurd (omega (arith, a, b, ht.1))
    by (inr p) (inr q) r = r p q

pub moved_laid_out : (es : List (ℕ × Span)) (n : ℕ) → n ≡ total_len es → AreLaidOut (moved_spans 0 es) n
moved_laid_out es n e = record {
  within = λ l s h. let w = (moved_is 0 es l s h).within in omega (arith, w, e);
  apart = λ l m i s t f g hs ht. moved_apart 0 es l m i s t f g hs ht;
  empty_first = λ l s h. (moved_is 0 es l s h).empty_first;
}
