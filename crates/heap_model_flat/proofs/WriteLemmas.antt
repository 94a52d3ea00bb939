-- A write over the words of a span changes that block alone.
use Rattle.std.proofs.Common.{◌≡◌, ℕ, ◌+◌, ◌-◌, ◌<◌, ◌≤◌, List, ◌++◌, length, take, drop, get_or, Option, Some, None, option_map, refl, sym, ap, ◌∙◌, arith}
use Rattle.std.proofs.Common.{rules, ⊎_elim}
use Rattle.std.proofs.lemmas.Bool.{cases_eq}
use Rattle.std.proofs.lemmas.Bool.Decides.{nat_tests}
use Rattle.std.proofs.lemmas.List.{same_lists, places, length-take, length-drop, get_or-take, get_or-drop}
use Rattle.std.proofs.lemmas.Slice.{between-put_mid}
use Rattle.std.proofs.Math.Seq.{take-append_seam}
use Rattle.theory_values.specs.Heaps.{with_block}
use Rattle.heap_model_flat.specs.declared.span.Span.{Span}
use Rattle.heap_model_flat.specs.Spans.{span_words, with_span_words, span_at, flat_blocks, InSpan, AreLaidOut}

-- a vector that has words of its own length written over it has these words
pub taken_back : (xs ys : List ℕ) (n : ℕ) → length ys ≡ n → take n (ys ++ drop (length ys) xs) ≡ ys
taken_back xs ys n e = ap (λ m. take m (ys ++ drop (length ys) xs)) (sym e) ∙ take-append_seam ys (drop (length ys) xs)

module _ (ws ys : List ℕ) (s : Span) (in_words : s.start + s.len ≤ length ws) (same_length : length ys ≡ s.len) where
  abbrev written : List ℕ
  written = with_span_words ws s ys

  written_length : length written ≡ length ws
  written_length = search (rules, places)

  written_words : span_words written s ≡ ys
  written_words =
      let n : s.start + s.len - s.start ≡ s.len = omega arith in
      ap (λ k. take k (drop s.start written)) (sym n) ∙ between-put_mid s.start s.len ws ys (s.start + s.len) (omega arith) (omega arith)

  other_word : (i d : ℕ) → (InSpan s i → ⊥) → get_or written i d ≡ get_or ws i d
  other_word i d h = grind (arith, places)

  other_words : (t : Span) → ((i : ℕ) → InSpan s i → InSpan t i → ⊥) → span_words written t ≡ span_words ws t
  other_words t apart = same_lists _ _ (rw (length-take, length-drop, written_length) (sym (rw (length-take, length-drop) refl))) (λ k d l.
      let n : k < t.len = omega (arith, length-take t.len (drop t.start written), l) in
      get_or-take t.len (drop t.start written) k d n
      ∙ get_or-drop t.start written k d
      ∙ other_word (t.start + k) d (λ i. apart (t.start + k) i (omega arith, omega arith))
      ∙ sym (get_or-drop t.start ws k d)
      ∙ sym (get_or-take t.len (drop t.start ws) k d n))

  module _ (es : List (ℕ × Span)) (l : ℕ) (here : span_at es l ≡ Some s) (laid : AreLaidOut es (length ws)) where
    other_block : (q : ℕ) (o : Option Span) → (q ≡ l → ⊥) → span_at es q ≡ o → option_map (span_words written) o ≡ option_map (span_words ws) o
    other_block q None d e = refl
    other_block q (Some t) d e = ap Some (other_words t (λ i a b. d (laid.apart q l i t s e here b a)))

    pub block_written : flat_blocks written es ≡ with_block (flat_blocks ws es) l ys
    block_written = λ j q. at q j
      where
        at : (q : ℕ) → flat_blocks written es q ≡ with_block (flat_blocks ws es) l ys q
        at q =
            ⊎_elim (λ (e : q ≡ l).
            let h = ap (λ m. flat_blocks written es m) e ∙ ap (option_map (span_words written)) here ∙ ap Some written_words in
            grind (arith, nat_tests)) (λ (d : q ≡ l → ⊥). let h = other_block q (span_at es q) d refl in grind (arith, nat_tests))
            (cases_eq q l)

  pub still_laid_out : (es : List (ℕ × Span)) → AreLaidOut es (length ws) → AreLaidOut es (length written)
  still_laid_out es laid = rw written_length laid

  pub same_count : length written ≡ length ws
  same_count = written_length
