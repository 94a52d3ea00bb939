-- What stays of the blocks when words are appended, written or left, and spans put or removed.
use Rattle.std.proofs.Common.{◌≡◌, ℕ, zero, suc, ◌+◌, ◌-◌, ◌<◌, ◌≤◌, cond, List, [], ◌∷◌, ◌++◌, length, take, drop, subst, Option, Some, None, option_map, refl}
use Rattle.std.proofs.Common.{sym, ap, ◌∙◌, arith, ◌⊎◌, ⊎_elim, inl, inr}
use Rattle.std.proofs.lemmas.Bool.{cases_eq, cases_lt}
use Rattle.std.proofs.lemmas.Bool.Decides.{nat_tests}
use Rattle.std.proofs.lemmas.List.{append-nil, take-append-le, drop-append-le, take-append-drop, length-take-le, length-drop}
use Rattle.std.proofs.Math.Seq.{drop-append_seam, take-append_seam}
use Rattle.std.specs.Ordering.{nat_cmp}
use Rattle.std.specs.BTreeMap.{is_at}
use Rattle.theory_values.specs.Heaps.{Heap, with_block, without_block}
use Rattle.heap_model_flat.specs.declared.span.Span.{Span}
use Rattle.heap_model_flat.specs.Spans.{span_from, span_words, span_at, flat_blocks, InSpan, AreLaidOut}
use Rattle.heap_model_flat.proofs.TableLemmas.{equal_keys_back, updated_table}

-- what is in the table after one key has another span, or none
changed_at : (old new : Option Span) (k l : ℕ) (w : Option Span) (s : Span)
    → new ≡ cond (is_at (nat_cmp k) l) w old
    → new ≡ Some s
    → ((l ≡ k) × (w ≡ Some s)) ⊎ (old ≡ Some s)
changed_at old new k l w s u e =
    ⊎_elim (λ (q : l ≡ k). let b = equal_keys_back l k in grind (arith, nat_tests))
    (λ (q : l ≡ k → ⊥). let b = equal_keys_back l k in grind (arith, nat_tests)) (cases_eq l k)

pub none_is_no_span : (s : Span) → None ≡ Some s → ⊥
none_is_no_span s e = cc

-- what is known of a span of so many words from a place on
pub record IsFrom (n len : ℕ) (s : Span) : Type 0 where
  pub within : s.start + s.len ≤ n + len
  pub behind : (i : ℕ) → InSpan s i → n ≤ i
  pub empty_first : s.len ≡ 0 → s.start ≡ 0

from_place : (n len : ℕ) → 0 < len → (span_from n len).start ≡ n
from_place n len h = grind (arith, nat_tests)

pub span_from-is : (n len : ℕ) → IsFrom n len (span_from n len)
span_from-is n zero = record { within = omega arith; behind = λ i h. absurd (omega (arith, h.0, h.1)); empty_first = λ e. refl }
span_from-is n (suc m) =
    let b = from_place n (suc m) (omega arith) in
    record { within = omega (arith, b); behind = λ i h. omega (arith, b, h.0); empty_first = λ e. absurd (omega (arith, e)) }

-- the words of a span among others
pub placed_words : (pre words rest : List ℕ) → span_words (pre ++ (words ++ rest)) (span_from (length pre) (length words)) ≡ words
placed_words pre [] rest = refl
placed_words pre (w ∷ words) rest =
    ap (λ (k : ℕ). take (length (w ∷ words)) (drop k (pre ++ (w ∷ words ++ rest)))) (from_place (length pre) (length (w ∷ words)) (omega arith))
    ∙ ap (take (length (w ∷ words))) (drop-append_seam pre (w ∷ words ++ rest))
    ∙ take-append_seam (w ∷ words) rest

module _ (old new : List (ℕ × Span)) (k n : ℕ) where
  -- a span past the words that there were, put for a location
  pub laid_out_with : (len : ℕ)
      → AreLaidOut old n
      → ((q : ℕ) → span_at new q ≡ cond (is_at (nat_cmp k) q) (Some (span_from n len)) (span_at old q))
      → AreLaidOut new (n + len)
  laid_out_with len laid u = record {
    within = λ l s e.
        ⊎_elim (λ p. (fresh_is s p.1).within) (λ p. let w = laid.within l s p in omega (arith, w))
        (changed_at (span_at old l) (span_at new l) k l _ s (u l) e);
    apart = λ l m i s t e f hs ht.
        apart_at l m i s t hs ht (changed_at (span_at old l) (span_at new l) k l _ s (u l) e)
        (changed_at (span_at old m) (span_at new m) k m _ t (u m) f);
    empty_first = λ l s e.
        ⊎_elim (λ p. (fresh_is s p.1).empty_first) (λ p. laid.empty_first l s p)
        (changed_at (span_at old l) (span_at new l) k l _ s (u l) e);
  }
    where
      fresh_is : (s : Span) → Some (span_from n len) ≡ Some s → IsFrom n len s
      fresh_is s e = let f : span_from n len ≡ s = cc in subst (IsFrom n len) f (span_from-is n len)

      apart_at : (l m i : ℕ) (s t : Span)
          → InSpan s i
          → InSpan t i
          → ((l ≡ k) × (Some (span_from n len) ≡ Some s)) ⊎ (span_at old l ≡ Some s)
          → ((m ≡ k) × (Some (span_from n len) ≡ Some t)) ⊎ (span_at old m ≡ Some t)
          → l ≡ m
      apart_at l m i s t hs ht (inl p) (inl q) = omega (arith, p.0, q.0)
      apart_at l m i s t hs ht (inl p) (inr q) = let f = (fresh_is s p.1).behind i hs in let w = laid.within m t q in absurd (omega (arith, f, w, ht.1))
      apart_at l m i s t hs ht (inr p) (inl q) = let f = (fresh_is t q.1).behind i ht in let w = laid.within l s p in absurd (omega (arith, f, w, hs.1))
      apart_at l m i s t hs ht (inr p) (inr q) = laid.apart l m i s t p q hs ht

  stood : ((q : ℕ) → span_at new q ≡ cond (is_at (nat_cmp k) q) None (span_at old q)) → (l : ℕ) (s : Span) → span_at new l ≡ Some s → span_at old l ≡ Some s
  stood u l s e =
      ⊎_elim (λ (p : (l ≡ k) × (None ≡ Some s)). absurd (none_is_no_span s p.1)) (λ (p : span_at old l ≡ Some s). p)
      (changed_at (span_at old l) (span_at new l) k l None s (u l) e)

  pub laid_out_without : AreLaidOut old n → ((q : ℕ) → span_at new q ≡ cond (is_at (nat_cmp k) q) None (span_at old q)) → AreLaidOut new n
  laid_out_without laid u = record {
    within = λ l s e. laid.within l s (stood u l s e);
    apart = λ l m i s t e f. laid.apart l m i s t (stood u l s e) (stood u m t f);
    empty_first = λ l s e. laid.empty_first l s (stood u l s e);
  }

  -- the span with the last words is removed, and these words are cut off
  pub laid_out_cut : (s : Span)
      → span_at old k ≡ Some s
      → s.start + s.len ≡ n
      → AreLaidOut old n
      → ((q : ℕ) → span_at new q ≡ cond (is_at (nat_cmp k) q) None (span_at old q))
      → AreLaidOut new s.start
  laid_out_cut s here last laid u = record {
    within = λ l t e. before l t e (stood u l t e);
    apart = λ l m i t v e f. laid.apart l m i t v (stood u l t e) (stood u m v f);
    empty_first = λ l t e. laid.empty_first l t (stood u l t e);
  }
    where
      gone : (l : ℕ) (t : Span) → span_at new l ≡ Some t → l ≡ k → ⊥
      gone l t e q = let b = equal_keys_back l k in let w = u l in grind (arith, nat_tests)

      before : (l : ℕ) (t : Span) → span_at new l ≡ Some t → span_at old l ≡ Some t → t.start + t.len ≤ s.start
      before l t e o =
          ⊎_elim (λ (z : t.len ≡ 0). let f = laid.empty_first l t o z in omega (arith, z, f))
          (λ (z : t.len ≡ 0 → ⊥).
          ⊎_elim (λ (d : s.start < t.start + t.len).
          let w = laid.within l t o in
          absurd (gone l t e (laid.apart l k (t.start + t.len - 1) t s o here (omega (arith, z), omega (arith, z))
          (omega (arith, z, d), omega (arith, z, w, last))))) (λ (d : t.start + t.len ≤ s.start). d) (cases_lt s.start (t.start + t.len)))
          (cases_eq t.len 0)

module _ (ws ys : List ℕ) where
  old_words : (s : Span) → s.start + s.len ≤ length ws → span_words (ws ++ ys) s ≡ span_words ws s
  old_words s h = rw (drop-append-le s.start ws ys (omega arith)) (take-append-le s.len (drop s.start ws) ys (rw length-drop (omega arith)))

  new_words : span_words (ws ++ ys) (span_from (length ws) (length ys)) ≡ ys
  new_words = ap (λ (w : List ℕ). span_words (ws ++ w) (span_from (length ws) (length ys))) (sym (append-nil ys)) ∙ placed_words ws ys []

  old_block : (o : Option Span) → ((s : Span) → o ≡ Some s → s.start + s.len ≤ length ws) → option_map (span_words (ws ++ ys)) o ≡ option_map (span_words ws) o
  old_block None h = refl
  old_block (Some s) h = ap Some (old_words s (h s refl))

  -- words that are appended stand in no block
  pub blocks_kept : (es : List (ℕ × Span)) → AreLaidOut es (length ws) → flat_blocks (ws ++ ys) es ≡ flat_blocks ws es
  blocks_kept es laid = λ j l. old_block (span_at es l) (λ s e. laid.within l s e) j

  -- a block is appended and put for a location
  pub block_appended : (old new : List (ℕ × Span)) (k : ℕ)
      → AreLaidOut old (length ws)
      → ((q : ℕ) → span_at new q ≡ cond (is_at (nat_cmp k) q) (Some (span_from (length ws) (length ys))) (span_at old q))
      → flat_blocks (ws ++ ys) new ≡ with_block (flat_blocks ws old) k ys
  block_appended old new k laid u =
      updated_table (span_words (ws ++ ys)) old new k (Some (span_from (length ws) (length ys))) u
      ∙ ap (λ (h : Heap). with_block h k (span_words (ws ++ ys) (span_from (length ws) (length ys)))) (blocks_kept old laid)
      ∙ ap (with_block (flat_blocks ws old) k) new_words

-- the last words are cut off, where every span ends before them
pub block_cut : (ws : List ℕ) (old new : List (ℕ × Span)) (k a : ℕ)
    → a ≤ length ws
    → AreLaidOut new a
    → ((q : ℕ) → span_at new q ≡ cond (is_at (nat_cmp k) q) None (span_at old q))
    → flat_blocks (take a ws) new ≡ without_block (flat_blocks ws old) k
block_cut ws old new k a low laid u =
    let n : a ≡ length (take a ws) = sym (length-take-le a ws low) in
    sym (blocks_kept (take a ws) (drop a ws) new (subst (AreLaidOut new) n laid))
    ∙ ap (λ (w : List ℕ). flat_blocks w new) (take-append-drop a ws)
    ∙ updated_table (span_words ws) old new k None u
