-- What was written so far of a heap.
use Rattle.std.proofs.Common.{◌≡◌, ℕ, ◌<◌, ◌≤◌, List, [], ◌∷◌, ◌++◌, Option, Some, None, refl, sym, ap, ◌∙◌, arith, ⊎_elim}
use Rattle.std.proofs.lemmas.Bool.{cases_eq, cases_lt}
use Rattle.std.proofs.lemmas.Bool.Decides.{nat_tests}
use Rattle.theory_values.specs.Heaps.{Heap, Block, IsHeap, InUse, with_block}
use Rattle.heap_model_flat.specs.Listing.{heap_of_list, AscendsAbove}
use Rattle.heap_model_flat.specs.Places.{IsLeastAbove, NoneAbove}
use Rattle.heap_model_text.specs.HeapText.{block_text, listing_text, IsHeapText}
use Rattle.heap_model_text.proofs.PushLemmas.{listing_text-append, ascends_push, heap_push}

-- the text has the blocks up to a location
pub record WrittenSoFar (h : Heap) (last : ℕ) (text : List ℕ) : Type 0 where
  pub blocks : List (ℕ × Block)
  pub written : text ≡ listing_text blocks
  pub ascending : AscendsAbove 0 blocks
  pub up_to : (l : ℕ) → l ≤ last → h l ≡ heap_of_list blocks l
  pub past : (l : ℕ) → last < l → heap_of_list blocks l ≡ None

pub written_nothing : (h : Heap) → IsHeap h → WrittenSoFar h 0 []
written_nothing h i = record {
  blocks = [];
  written = refl;
  ascending = tt;
  up_to = λ l z. at_zero (h l) l (omega (arith, z)) refl;
  past = λ l d. refl;
}
  where
    at_zero : (o : Option Block) (l : ℕ) → l ≡ 0 → h l ≡ o → h l ≡ None
    at_zero None l z e = e
    at_zero (Some b) l z e = absurd (let w = i.above_zero l b e in omega (arith, w, z))

is_none : (h : Heap) (l : ℕ) (o : Option Block) → h l ≡ o → (InUse h l → ⊥) → h l ≡ None
is_none h l None e f = e
is_none h l (Some b) e f = absurd (f (b, e))

module _ (h : Heap) (last : ℕ) (text : List ℕ) (so_far : WrittenSoFar h last text) where
  pub written_more : (m : ℕ) (b : Block) → IsLeastAbove h last m → h m ≡ Some b → WrittenSoFar h m (text ++ (block_text (m, b) ++ 10 ∷ []))
  written_more m b i e = record {
    blocks = so_far.blocks ++ (m, b) ∷ [];
    written = ap (λ t. t ++ (block_text (m, b) ++ 10 ∷ [])) so_far.written ∙ sym (listing_text-append so_far.blocks ((m, b) ∷ []));
    ascending = ascends_push (m, b) 0 so_far.blocks so_far.ascending (omega (arith, i.above)) later;
    up_to = λ l d. at l d ∙ sym (heap_push (m, b) 0 so_far.blocks so_far.ascending later l);
    past = λ l d. heap_push (m, b) 0 so_far.blocks so_far.ascending later l ∙ (let n = so_far.past l (omega (arith, d, i.above)) in grind (arith, nat_tests));
  }
    where
      some_is_not_none : (c : Block) → None ≡ Some c → ⊥
      some_is_not_none c e = cc

      later : (l : ℕ) → InUse (heap_of_list so_far.blocks) l → l < m
      later l used =
          ⊎_elim (λ (d : last < l). absurd (some_is_not_none used.0 (sym (so_far.past l d) ∙ used.1)))
          (λ (d : l ≤ last). omega (arith, d, i.above)) (cases_lt last l)

      at : (l : ℕ) → l ≤ m → h l ≡ with_block (heap_of_list so_far.blocks) m b l
      at l d =
          ⊎_elim (λ (q : l ≡ m). ap h q ∙ e ∙ (grind (arith, nat_tests)))
          (λ (q : l ≡ m → ⊥).
          ⊎_elim (λ (f : last < l).
          is_none h l (h l) refl (λ used. let w = i.least l used f in omega (arith, w, d, q))
          ∙ (let n = so_far.past l f in grind (arith, nat_tests))) (λ (f : l ≤ last). let n = so_far.up_to l f in grind (arith, nat_tests))
          (cases_lt last l)) (cases_eq l m)

  pub written_all : NoneAbove h last → IsHeapText h text
  written_all n = record {
    blocks = so_far.blocks;
    is_listing = record {
      ascending = so_far.ascending;
      same_blocks = record {
        each = λ l.
            ⊎_elim (λ (d : last < l). is_none h l (h l) refl (λ used. let w = n l used in omega (arith, w, d)) ∙ sym (so_far.past l d))
            (λ (d : l ≤ last). so_far.up_to l d) (cases_lt last l);
      };
    };
    written = so_far.written;
  }
