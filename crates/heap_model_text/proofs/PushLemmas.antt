-- A block after all blocks of a listing.
use Rattle.std.proofs.Common.{◌≡◌, ℕ, ◌<◌, ◌^◌, List, [], ◌∷◌, ◌++◌, Some, None, refl, sym, ap, ◌∙◌, arith, ⊎_elim, inl}
use Rattle.std.proofs.lemmas.Bool.{cases_eq}
use Rattle.std.proofs.lemmas.Bool.Decides.{nat_tests}
use Rattle.std.proofs.lemmas.List.{append_assoc}
use Rattle.theory_values.specs.Heaps.{Block, InUse, with_block}
use Rattle.theory_meaning.specs.Choices.{IsGreatest}
use Rattle.heap_model_flat.specs.Listing.{heap_of_list, AscendsAbove}
use Rattle.heap_model_text.specs.HeapText.{block_text, listing_text}
use Rattle.heap_model_text.proofs.LineLemmas.{AreWords, ArePlaced}
use Rattle.heap_model_text.proofs.FileLemmas.{AreBelow, heap_at_first, heap_at_later}

pub listing_text-append : (xs ys : List (ℕ × Block)) → listing_text (xs ++ ys) ≡ listing_text xs ++ listing_text ys
listing_text-append [] ys = refl
listing_text-append (x ∷ xs) ys =
    ap (λ r. block_text x ++ (10 ∷ r)) (listing_text-append xs ys)
    ∙ sym (append_assoc (block_text x) (10 ∷ listing_text xs) (listing_text ys))

module _ (p : ℕ × Block) where
  -- the locations of a listing are all below that of p
  abbrev pub IsAfter : List (ℕ × Block) → Type 0
  IsAfter xs = (l : ℕ) → InUse (heap_of_list xs) l → l < p.0

  after_tail : (x : ℕ × Block) (xs : List (ℕ × Block)) → AscendsAbove x.0 xs → IsAfter (x ∷ xs) → IsAfter xs
  after_tail x xs a f l used = f l (used.0, heap_at_later x xs l used.0 a used.1)

  pub ascends_push : (bound : ℕ) (xs : List (ℕ × Block)) → AscendsAbove bound xs → bound < p.0 → IsAfter xs → AscendsAbove bound (xs ++ p ∷ [])
  ascends_push bound [] a h f = (h, tt)
  ascends_push bound (x ∷ xs) a h f = (a.0, ascends_push x.0 xs a.1 (f x.0 (x.1, heap_at_first x xs)) (after_tail x xs a.1 f))

  pub heap_push : (bound : ℕ) (xs : List (ℕ × Block))
      → AscendsAbove bound xs
      → IsAfter xs
      → (q : ℕ)
      → heap_of_list (xs ++ p ∷ []) q ≡ with_block (heap_of_list xs) p.0 p.1 q
  heap_push bound [] a f q = refl
  heap_push bound (x ∷ xs) a f q =
      let r = heap_push x.0 xs a.1 (after_tail x xs a.1 f) q in
      let d = f x.0 (x.1, heap_at_first x xs) in
      ⊎_elim
      (λ (e : q ≡ x.0). ⊎_elim (λ (g : q ≡ p.0). omega_absurd d e g) (λ (g : q ≡ p.0 → ⊥). grind (arith, nat_tests)) (cases_eq q p.0))
      (λ (e : q ≡ x.0 → ⊥).
      ⊎_elim (λ (g : q ≡ p.0). grind (arith, nat_tests)) (λ (g : q ≡ p.0 → ⊥). grind (arith, nat_tests)) (cases_eq q p.0)) (cases_eq q x.0)
    where
      omega_absurd : {A : Type 0} {m n k : ℕ} → m < n → k ≡ m → k ≡ n → A
      omega_absurd d e g = absurd (omega (arith, d, e, g))

  pub greatest_push : (xs : List (ℕ × Block)) → AscendsAbove 0 xs → IsAfter xs → IsGreatest (heap_of_list (xs ++ p ∷ [])) p.0
  greatest_push xs a f = record {
    none_above = λ k used.
        ⊎_elim (λ (e : k ≡ p.0). omega (arith, e))
        (λ (d : k ≡ p.0 → ⊥). let w = f k (used.0, other k used.0 d (sym (heap_push 0 xs a f k) ∙ used.1)) in omega (arith, w))
        (cases_eq k p.0);
    in_use_or_zero = inl (p.1, heap_push 0 xs a f p.0 ∙ here);
  }
    where
      here : with_block (heap_of_list xs) p.0 p.1 p.0 ≡ Some p.1
      here = grind (arith, nat_tests)

      other : (k : ℕ) (b : Block) → (k ≡ p.0 → ⊥) → with_block (heap_of_list xs) p.0 p.1 k ≡ Some b → heap_of_list xs k ≡ Some b
      other k b d e = grind (arith, nat_tests)

  -- in an ascending list, what stands before p is below it
  pub ascends_past : (bound : ℕ) (xs zs : List (ℕ × Block)) → AscendsAbove bound (xs ++ p ∷ zs) → (bound < p.0) × IsAfter xs
  ascends_past bound [] zs a = (a.0, λ l used. absurd (none_is_no_block used.0 used.1))
    where
      none_is_no_block : (b : Block) → None ≡ Some b → ⊥
      none_is_no_block b e = cc
  ascends_past bound (x ∷ xs) zs a =
      let r = ascends_past x.0 xs zs a.1 in (
        omega (arith, a.0, r.0),
        λ l used.
            ⊎_elim (λ (e : l ≡ x.0). omega (arith, e, r.0)) (λ (d : l ≡ x.0 → ⊥). r.1 l (used.0, later l used.0 d used.1)) (cases_eq l x.0),
      )
    where
      later : (l : ℕ) (b : Block) → (l ≡ x.0 → ⊥) → heap_of_list (x ∷ xs) l ≡ Some b → heap_of_list xs l ≡ Some b
      later l b d e = grind (arith, nat_tests)

pub placed_push : (xs : List (ℕ × Block)) (p : ℕ × Block) (zs : List (ℕ × Block)) → ArePlaced (xs ++ p ∷ zs) → (p.0 < 2 ^ 64) × AreWords p.1
placed_push [] p zs a = (a.0, a.1)
placed_push (x ∷ xs) p zs a = placed_push xs p zs a.2

pub below_push : (n : ℕ) (xs : List (ℕ × Block)) (p : ℕ × Block) (zs : List (ℕ × Block)) → AreBelow n (xs ++ p ∷ zs) → p.0 < n
below_push n [] p zs a = a.0
below_push n (x ∷ xs) p zs a = below_push n xs p zs a.1

pub push_placed : (xs : List (ℕ × Block)) (p : ℕ × Block) → ArePlaced xs → p.0 < 2 ^ 64 → AreWords p.1 → ArePlaced (xs ++ p ∷ [])
push_placed [] p a l w = (l, w, tt)
push_placed (x ∷ xs) p a l w = (a.0, a.1, push_placed xs p a.2 l w)

pub push_below : (n : ℕ) (xs : List (ℕ × Block)) (p : ℕ × Block) → AreBelow n xs → p.0 < n → AreBelow n (xs ++ p ∷ [])
push_below n [] p a l = (l, tt)
push_below n (x ∷ xs) p a l = (a.0, push_below n xs p a.1 l)
