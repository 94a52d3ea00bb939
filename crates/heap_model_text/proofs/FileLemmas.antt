-- Heap files: their listings, their first lines, and their bad line.
use Rattle.std.proofs.Common.{◌≡◌, ℕ, zero, suc, ◌-◌, ◌<◌, ◌≤◌, ◌^◌, List, [], ◌∷◌, ◌++◌, take, Some, None, refl, sym, ap, ◌∙◌, subst, arith, ⊎_elim}
use Rattle.std.specs.Prelude.{All, ⊤}
use Rattle.std.proofs.lemmas.Bool.{cases_eq, cases_lt}
use Rattle.std.proofs.lemmas.Bool.Decides.{nat_tests}
use Rattle.std.proofs.lemmas.List.{append-nil}
use Rattle.std.proofs.lemmas.List.Elements.{All-tail, All-cons}
use Rattle.theory_values.specs.Values.{IsWord}
use Rattle.theory_values.specs.Heaps.{Heap, Block, IsHeap}
use Rattle.heap_model_flat.specs.Listing.{heap_of_list, AscendsAbove, IsListing}
use Rattle.heap_model_flat.proofs.HeapLemmas.{empty_is_heap, with_block_is_heap}
use Rattle.heap_model_flat.proofs.ListingLemmas.{none_up_to, listings_agree}
use Rattle.heap_model_text.specs.HeapText.{block_text, listing_text, IsHeapText, IsHeapFile, first_lines, IsBadLine}
use Rattle.heap_model_text.specs.Laws.{HeapTextLaws}
use Rattle.heap_model_text.proofs.CutLemmas.{IsFree}
use Rattle.heap_model_text.proofs.LineLemmas.{AreWords, ArePlaced, block_free, lines_tell}

pub words_from_all : (b : Block) → All IsWord b → AreWords b
words_from_all [] a = tt
words_from_all (w ∷ ws) a = (a 0 w (omega arith), words_from_all ws (All-tail IsWord w ws a))

pub all_from_words : (b : Block) → AreWords b → All IsWord b
all_from_words [] a = λ k d l. absurd (omega (arith, l))
all_from_words (w ∷ ws) a = All-cons IsWord w ws a.0 (all_from_words ws a.1)

pub heap_at_first : (p : ℕ × Block) (ps : List (ℕ × Block)) → heap_of_list (p ∷ ps) p.0 ≡ Some p.1
heap_at_first p ps = grind (arith, nat_tests)

some_is_not_none : {c : Block} → None ≡ Some c → ⊥
some_is_not_none e = cc

-- what is after the first block of a listing is in the heap of the whole
pub heap_at_later : (p : ℕ × Block) (ps : List (ℕ × Block)) (l : ℕ) (c : Block)
    → AscendsAbove p.0 ps
    → heap_of_list ps l ≡ Some c
    → heap_of_list (p ∷ ps) l ≡ Some c
heap_at_later p ps l c a e =
    ⊎_elim (λ (q : l ≡ p.0). absurd (some_is_not_none (sym (none_up_to p.0 ps l a (omega (arith, q))) ∙ e)))
    (λ (d : l ≡ p.0 → ⊥). grind (arith, nat_tests)) (cases_eq l p.0)

-- locations below a limit
abbrev pub AreBelow : ℕ → List (ℕ × Block) → Type 0
AreBelow n [] = ⊤
AreBelow n (p ∷ ps) = (p.0 < n) × AreBelow n ps

placed_from_heap : (bound : ℕ) (ps : List (ℕ × Block))
    → AscendsAbove bound ps
    → ((l : ℕ) (c : Block) → heap_of_list ps l ≡ Some c → IsWord l × All IsWord c)
    → ArePlaced ps
placed_from_heap bound [] a f = tt
placed_from_heap bound (p ∷ ps) a f =
    let g = f p.0 p.1 (heap_at_first p ps) in
    (g.0, words_from_all p.1 g.1, placed_from_heap p.0 ps a.1 (λ l c e. f l c (heap_at_later p ps l c a.1 e)))

pub listing_placed : (h : Heap) (ps : List (ℕ × Block)) → IsHeap h → IsListing h ps → ArePlaced ps
listing_placed h ps i j = placed_from_heap 0 ps j.ascending (λ l c e. let f = j.same_blocks.each l ∙ e in (i.at_words l c f, i.of_words l c f))

below_from_heap : (bound n : ℕ) (ps : List (ℕ × Block)) → AscendsAbove bound ps → ((l : ℕ) (c : Block) → heap_of_list ps l ≡ Some c → l < n) → AreBelow n ps
below_from_heap bound n [] a f = tt
below_from_heap bound n (p ∷ ps) a f = (f p.0 p.1 (heap_at_first p ps), below_from_heap p.0 n ps a.1 (λ l c e. f l c (heap_at_later p ps l c a.1 e)))

pub listing_below : (a : List ℕ) (h : Heap) → (i : IsHeapFile a h) → AreBelow (2 ^ 63) i.is_text.blocks
listing_below a h i =
    below_from_heap 0 (2 ^ 63) i.is_text.blocks i.is_text.is_listing.ascending
    (λ l c e. i.below l (c, i.is_text.is_listing.same_blocks.each l ∙ e))

-- a listing makes a heap file
listing_is_heap : (bound : ℕ) (ps : List (ℕ × Block)) → AscendsAbove bound ps → ArePlaced ps → IsHeap (heap_of_list ps)
listing_is_heap bound [] a p = empty_is_heap
listing_is_heap bound (q ∷ ps) a p =
    with_block_is_heap (heap_of_list ps) q.0 q.1 (listing_is_heap q.0 ps a.1 p.2) (omega (arith, a.0)) p.0 (all_from_words q.1 p.1)

located_below : (n : ℕ) (ps : List (ℕ × Block)) → AreBelow n ps → (l : ℕ) (c : Block) → heap_of_list ps l ≡ Some c → l < n
located_below n [] b l c e = absurd (some_is_not_none e)
located_below n (p ∷ ps) b l c e =
    ⊎_elim (λ (q : l ≡ p.0). omega (arith, q, b.0)) (λ (d : l ≡ p.0 → ⊥). located_below n ps b.1 l c (grind (arith, nat_tests)))
    (cases_eq l p.0)

pub file_of_listing : (ps : List (ℕ × Block)) → AscendsAbove 0 ps → ArePlaced ps → AreBelow (2 ^ 63) ps → IsHeapFile (listing_text ps) (heap_of_list ps)
file_of_listing ps a p b = record {
  is_heap = listing_is_heap 0 ps a p;
  is_text = record { blocks = ps; is_listing = record { ascending = a; same_blocks = record { each = λ l. refl } }; written = refl };
  below = λ l used. located_below (2 ^ 63) ps b l used.0 used.1;
}

-- ---- the first lines

pub first_lines_line : (k : ℕ) (a r : List ℕ) → IsFree 10 a → first_lines (suc k) (a ++ (10 ∷ r)) ≡ a ++ (10 ∷ first_lines k r)
first_lines_line k [] r f = refl
first_lines_line k (x ∷ xs) r f = let d = f.0 in let e = first_lines_line k xs r f.1 in grind (arith, nat_tests)

take_ascends : (n bound : ℕ) (ps : List (ℕ × Block)) → AscendsAbove bound ps → AscendsAbove bound (take n ps)
take_ascends zero bound ps a = tt
take_ascends (suc n) bound [] a = tt
take_ascends (suc n) bound (p ∷ ps) a = (a.0, take_ascends n p.0 ps a.1)

take_placed : (n : ℕ) (ps : List (ℕ × Block)) → ArePlaced ps → ArePlaced (take n ps)
take_placed zero ps a = tt
take_placed (suc n) [] a = tt
take_placed (suc n) (p ∷ ps) a = (a.0, a.1, take_placed n ps a.2)

take_below : (n m : ℕ) (ps : List (ℕ × Block)) → AreBelow m ps → AreBelow m (take n ps)
take_below zero m ps a = tt
take_below (suc n) m [] a = tt
take_below (suc n) m (p ∷ ps) a = (a.0, take_below n m ps a.1)

first_lines_listing : (n : ℕ) (ps : List (ℕ × Block)) → ArePlaced ps → first_lines n (listing_text ps) ≡ listing_text (take n ps)
first_lines_listing zero ps a = refl
first_lines_listing (suc n) [] a = refl
first_lines_listing (suc n) (p ∷ ps) a =
    first_lines_line n (block_text p) (listing_text ps) (block_free p a.0 a.1)
    ∙ ap (λ r. block_text p ++ (10 ∷ r)) (first_lines_listing n ps a.2)

-- the first lines of a heap file are one
pub first_lines_file : (a : List ℕ) (h : Heap) → IsHeapFile a h → (n : ℕ) → (k : Heap) × IsHeapFile (first_lines n a) k
first_lines_file a h i n =
    let ps = i.is_text.blocks in
    let p = listing_placed h ps i.is_heap i.is_text.is_listing in
    let e : first_lines n a ≡ listing_text (take n ps) = ap (first_lines n) i.is_text.written ∙ first_lines_listing n ps p in (
      heap_of_list (take n ps),
      subst (λ (t : List ℕ). IsHeapFile t (heap_of_list (take n ps))) (sym e)
          (file_of_listing (take n ps) (take_ascends n 0 ps i.is_text.is_listing.ascending) (take_placed n ps p)
          (take_below n (2 ^ 63) ps (listing_below a h i))),
    )

pub first_lines_twice : (m n : ℕ) (a : List ℕ) → m ≤ n → first_lines m (first_lines n a) ≡ first_lines m a
first_lines_twice zero n a h = refl
first_lines_twice (suc m) zero a h = absurd (omega (arith, h))
first_lines_twice (suc m) (suc n) [] h = refl
first_lines_twice (suc m) (suc n) (b ∷ a) h =
    ⊎_elim (λ (e : b ≡ 10). let r = first_lines_twice m n a (omega (arith, h)) in grind (arith, nat_tests))
    (λ (d : b ≡ 10 → ⊥). let r = first_lines_twice (suc m) (suc n) a h in grind (arith, nat_tests)) (cases_eq b 10)

-- ---- the laws

earlier_is_good : (a : List ℕ) (m n : ℕ) → IsBadLine a m → IsBadLine a n → m < n → ⊥
earlier_is_good a m n i j h =
    let f = first_lines_file (first_lines (n - 1) a) j.heap_before j.before m in
    i.bad f.0 (subst (λ (t : List ℕ). IsHeapFile t f.0) (first_lines_twice m (n - 1) a (omega (arith, h))) f.1)

no_line_is_nothing : (zs : List (ℕ × Block)) → [] ≡ listing_text zs → zs ≡ []
no_line_is_nothing [] e = refl
no_line_is_nothing (z ∷ zs) e = absurd (go (block_text z) e)
  where
    go : (a : List ℕ) → [] ≡ a ++ (10 ∷ listing_text zs) → ⊥
    go [] e = cc
    go (x ∷ xs) e = cc

pub same_listing : (h k : Heap) (a : List ℕ) → IsHeap h → IsHeap k → (i : IsHeapText h a) → (j : IsHeapText k a) → i.blocks ≡ j.blocks
same_listing h k a p q i j =
    let t =
    lines_tell i.blocks j.blocks [] (listing_placed h i.blocks p i.is_listing) (listing_placed k j.blocks q j.is_listing)
    (append-nil (listing_text i.blocks) ∙ sym i.written ∙ j.written) in
    sym (append-nil i.blocks) ∙ ap (λ zs. i.blocks ++ zs) (sym (no_line_is_nothing t.0 t.2)) ∙ sym t.1

pub heap_text_laws : HeapTextLaws
heap_text_laws = record {
  texts_agree = λ h a b i j. i.written ∙ ap listing_text (listings_agree h i.blocks j.blocks i.is_listing j.is_listing) ∙ sym j.written;
  heaps_agree = λ h k a p q i j. record {
    each = λ l.
        i.is_listing.same_blocks.each l ∙ ap (λ ps. heap_of_list ps l) (same_listing h k a p q i j) ∙ sym (j.is_listing.same_blocks.each l);
  };
  text_is_file = λ h a p i b. record { is_heap = p; is_text = i; below = b };
  bad_is_no_file = λ a line h i j. let f = first_lines_file a h j line in i.bad f.0 f.1;
  bad_lines_agree = λ a m n i j.
      ⊎_elim (λ (d : m < n). absurd (earlier_is_good a m n i j d))
      (λ (d : n ≤ m). ⊎_elim (λ (e : n < m). absurd (earlier_is_good a n m j i e)) (λ (e : m ≤ n). omega arith) (cases_lt n m))
      (cases_lt m n);
}
