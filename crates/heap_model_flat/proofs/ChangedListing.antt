-- The listing of a heap with a block more, another or less.
use Rattle.std.proofs.Common.{◌≡◌, ℕ, ◌+◌, ◌<◌, ◌≤◌, List, [], ◌∷◌, length, Option, Some, None, nat_eq, nat_lt, refl, sym, ap, ◌∙◌, arith, ⊎_elim}
use Rattle.std.specs.Prelude.{if◌then◌else◌}
use Rattle.std.proofs.lemmas.Bool.{cases_eq, cases_lt}
use Rattle.std.proofs.lemmas.Bool.Decides.{nat_tests}
use Rattle.std.proofs.lemmas.List.Sums.{sum_by-cons}
use Rattle.theory_values.specs.Heaps.{Heap, Block, with_block, without_block}
use Rattle.heap_model_flat.specs.Listing.{heap_of_list, AscendsAbove, listing_size, IsSize}
use Rattle.heap_model_flat.specs.Laws.{ListingLaws}
use Rattle.heap_model_flat.proofs.ListingLemmas.{listings_agree, none_up_to}

listing_size-cons : (p : ℕ × Block) (ps : List (ℕ × Block)) → listing_size (p ∷ ps) ≡ length p.1 + 1 + listing_size ps
listing_size-cons p ps = sum_by-cons (λ (q : ℕ × Block). length q.1 + 1) p ps

-- what a location adds to the size
abbrev added : Option Block → ℕ
added None = 0
added (Some b) = length b + 1

module _ (k : ℕ) (b : Block) where
  pub put_in : List (ℕ × Block) → List (ℕ × Block)
  put_in [] = (k, b) ∷ []
  put_in (p ∷ ps) = if nat_lt k p.0 then (k, b) ∷ p ∷ ps else if nat_eq k p.0 then (k, b) ∷ ps else p ∷ put_in ps

  pub put_ascends : (bound : ℕ) (ps : List (ℕ × Block)) → bound < k → AscendsAbove bound ps → AscendsAbove bound (put_in ps)
  unfolding put_in
  put_ascends bound [] h a = (h, tt)
  put_ascends bound (p ∷ ps) h a =
      ⊎_elim (λ (d : k < p.0). grind (arith, nat_tests))
      (λ (d : p.0 ≤ k).
      ⊎_elim (λ (e : k ≡ p.0). grind (arith, nat_tests))
      (λ (e : k ≡ p.0 → ⊥). let r = put_ascends p.0 ps (omega (arith, e)) a.1 in grind (arith, nat_tests)) (cases_eq k p.0))
      (cases_lt k p.0)

  pub put_here : (bound : ℕ) (ps : List (ℕ × Block)) → AscendsAbove bound ps → (l : ℕ) → heap_of_list (put_in ps) l ≡ with_block (heap_of_list ps) k b l
  unfolding put_in
  put_here bound [] a l = refl
  put_here bound (p ∷ ps) a l =
      ⊎_elim (λ (d : k < p.0). grind (arith, nat_tests))
      (λ (d : p.0 ≤ k).
      ⊎_elim
      (λ (e : k ≡ p.0). ⊎_elim (λ (f : l ≡ k). grind (arith, nat_tests)) (λ (f : l ≡ k → ⊥). grind (arith, nat_tests)) (cases_eq l k))
      (λ (e : k ≡ p.0 → ⊥).
      let r = put_here p.0 ps a.1 l in
      ⊎_elim (λ (f : l ≡ p.0). grind (arith, nat_tests)) (λ (f : l ≡ p.0 → ⊥). grind (arith, nat_tests)) (cases_eq l p.0)) (cases_eq k p.0))
      (cases_lt k p.0)

  pub put_size : (bound : ℕ) (ps : List (ℕ × Block))
      → AscendsAbove bound ps
      → listing_size (put_in ps) + added (heap_of_list ps k) ≡ listing_size ps + (length b + 1)
  unfolding put_in
  put_size bound [] a = let c = listing_size-cons (k, b) [] in omega (arith, c)
  put_size bound (p ∷ ps) a =
      ⊎_elim (λ (d : k < p.0).
      let n = none_up_to k (p ∷ ps) k (d, a.1) (omega arith) in let c = listing_size-cons (k, b) (p ∷ ps) in grind (arith, nat_tests))
      (λ (d : p.0 ≤ k).
      ⊎_elim (λ (e : k ≡ p.0). let c = listing_size-cons (k, b) ps in let f = listing_size-cons p ps in grind (arith, nat_tests))
      (λ (e : k ≡ p.0 → ⊥).
      let r = put_size p.0 ps a.1 in let c = listing_size-cons p (put_in ps) in let f = listing_size-cons p ps in grind (arith, nat_tests))
      (cases_eq k p.0)) (cases_lt k p.0)

ascends_lower : (m n : ℕ) (ps : List (ℕ × Block)) → m ≤ n → AscendsAbove n ps → AscendsAbove m ps
ascends_lower m n [] h a = tt
ascends_lower m n (p ∷ ps) h a = (omega (arith, a.0), a.1)

module _ (k : ℕ) where
  pub take_out : List (ℕ × Block) → List (ℕ × Block)
  take_out [] = []
  take_out (p ∷ ps) = if nat_eq k p.0 then ps else p ∷ take_out ps

  pub take_ascends : (bound : ℕ) (ps : List (ℕ × Block)) → AscendsAbove bound ps → AscendsAbove bound (take_out ps)
  unfolding take_out
  take_ascends bound [] a = tt
  take_ascends bound (p ∷ ps) a =
      ⊎_elim (λ (e : k ≡ p.0). let r = ascends_lower bound p.0 ps (omega (arith, a.0)) a.1 in grind (arith, nat_tests))
      (λ (e : k ≡ p.0 → ⊥). let r = take_ascends p.0 ps a.1 in grind (arith, nat_tests)) (cases_eq k p.0)

  pub take_here : (bound : ℕ) (ps : List (ℕ × Block)) → AscendsAbove bound ps → (l : ℕ) → heap_of_list (take_out ps) l ≡ without_block (heap_of_list ps) k l
  unfolding take_out
  take_here bound [] a l = ⊎_elim (λ (f : l ≡ k). grind (arith, nat_tests)) (λ (f : l ≡ k → ⊥). grind (arith, nat_tests)) (cases_eq l k)
  take_here bound (p ∷ ps) a l =
      ⊎_elim (λ (e : k ≡ p.0).
      let n = none_up_to p.0 ps l a.1 in
      ⊎_elim (λ (f : l ≡ k). let m = n (omega arith) in grind (arith, nat_tests)) (λ (f : l ≡ k → ⊥). grind (arith, nat_tests))
      (cases_eq l k)) (λ (e : k ≡ p.0 → ⊥).
      let r = take_here p.0 ps a.1 l in
      ⊎_elim (λ (f : l ≡ p.0). grind (arith, nat_tests)) (λ (f : l ≡ p.0 → ⊥). grind (arith, nat_tests)) (cases_eq l p.0)) (cases_eq k p.0)

  pub take_size : (bound : ℕ) (ps : List (ℕ × Block)) → AscendsAbove bound ps → listing_size (take_out ps) + added (heap_of_list ps k) ≡ listing_size ps
  unfolding take_out
  take_size bound [] a = refl
  take_size bound (p ∷ ps) a =
      ⊎_elim (λ (e : k ≡ p.0). let f = listing_size-cons p ps in grind (arith, nat_tests))
      (λ (e : k ≡ p.0 → ⊥).
      let r = take_size p.0 ps a.1 in
      let c = listing_size-cons p (take_out ps) in let f = listing_size-cons p ps in grind (arith, nat_tests)) (cases_eq k p.0)

pub size_with : (h : Heap) (l m n : ℕ) (b : Block) → 0 < l → IsSize h n → m + added (h l) ≡ n + (length b + 1) → IsSize (with_block h l b) m
size_with h l m n b low i e =
    let ps = i.blocks in
    let at = i.is_listing.same_blocks.each in
    let s = put_size l b 0 ps i.is_listing.ascending in
    record {
      blocks = put_in l b ps;
      is_listing = record {
        ascending = put_ascends l b 0 ps low i.is_listing.ascending;
        same_blocks = record { each = λ q. ap (λ o. if nat_eq q l then Some b else o) (at q) ∙ sym (put_here l b 0 ps i.is_listing.ascending q) };
      };
      counted = omega (arith, e, s, i.counted, ap added (at l));
    }

pub size_without : (h : Heap) (l n : ℕ) (a : Block) → h l ≡ Some a → IsSize h (n + (length a + 1)) → IsSize (without_block h l) n
size_without h l n a e i =
    let ps = i.blocks in
    let at = i.is_listing.same_blocks.each in
    let s = take_size l 0 ps i.is_listing.ascending in
    record {
      blocks = take_out l ps;
      is_listing = record {
        ascending = take_ascends l 0 ps i.is_listing.ascending;
        same_blocks = record { each = λ q. ap (λ o. if nat_eq q l then None else o) (at q) ∙ sym (take_here l 0 ps i.is_listing.ascending q) };
      };
      counted = omega (arith, s, i.counted, ap added (at l), ap added e);
    }

above_zero : (h : Heap) (l n : ℕ) (a : Block) → h l ≡ Some a → IsSize h n → 0 < l
above_zero zero_heap l n a e i =
    ⊎_elim (λ (d : l < 1).
    let z = none_up_to 0 i.blocks l i.is_listing.ascending (omega arith) in
    absurd (none_is_no_block (sym z ∙ sym (i.is_listing.same_blocks.each l) ∙ e))) (λ (d : 1 ≤ l). omega arith) (cases_lt l 1)
  where
    none_is_no_block : None ≡ Some a → ⊥
    none_is_no_block e = cc

pub listing_laws : ListingLaws
listing_laws = record {
  listings_agree = listings_agree;
  sizes_agree = λ h m n i j. i.counted ∙ ap listing_size (listings_agree h i.blocks j.blocks i.is_listing j.is_listing) ∙ sym j.counted;
  size_of_empty = record { blocks = []; is_listing = record { ascending = tt; same_blocks = record { each = λ l. refl } }; counted = refl };
  size_with_new = λ h l n b low e i. size_with h l (n + (length b + 1)) n b low i (omega (arith, ap added e));
  size_with_written = λ h l n a b e d i. size_with h l n n b (above_zero h l n a e i) i (omega (arith, ap added e, d));
  size_without = size_without;
}
