-- The listing of a heap, and of the heap that a table keeps.
use Rattle.std.proofs.Common.{◌≡◌, ℕ, ◌+◌, ◌<◌, ◌≤◌, cond, List, [], ◌∷◌, length, Some, None, nat_eq, refl, sym, ap, ◌∙◌, arith, ◌⊎◌, ⊎_elim, inl, inr}
use Rattle.std.specs.Prelude.{sum_by}
use Rattle.std.proofs.lemmas.Bool.{cases_lt}
use Rattle.std.proofs.lemmas.Bool.Decides.{nat_tests}
use Rattle.std.proofs.lemmas.List.Sums.{sum_by-cons}
use Rattle.std.specs.List.{AllByRecursion}
use Rattle.std.specs.List.Sorted.{IsStrictlySortedBy}
use Rattle.std.specs.Ordering.{nat_cmp}
use Rattle.std.specs.declared.cmp.Ordering.TheVariants.{Less}
use Rattle.std.specs.Map.{lookup, keys_of, values_of}
use Rattle.std.specs.BTreeMap.{is_at}
use Rattle.theory_values.specs.Heaps.{Heap, Block, IsHeap}
use Rattle.heap_model_flat.specs.Listing.{heap_of_list, AscendsAbove, IsListing, listing_size, IsSize}
use Rattle.heap_model_flat.specs.Table.{table_heap, table_listing}
use Rattle.heap_model_flat.proofs.TableLemmas.{equal_keys, option_map-cond}

-- a list above a bound has nothing up to the bound
pub none_up_to : (bound : ℕ) (xs : List (ℕ × Block)) (l : ℕ) → AscendsAbove bound xs → l ≤ bound → heap_of_list xs l ≡ None
none_up_to bound [] l a h = refl
none_up_to bound (p ∷ ps) l a h = let r = none_up_to p.0 ps l a.1 (omega arith) in let d : l < p.0 = omega arith in grind (arith, nat_tests)

same_tails : (p q : ℕ × Block) (xs ys : List (ℕ × Block))
    → AscendsAbove p.0 xs
    → AscendsAbove q.0 ys
    → p.0 ≡ q.0
    → ((l : ℕ) → heap_of_list (p ∷ xs) l ≡ heap_of_list (q ∷ ys) l)
    → (l : ℕ)
    → heap_of_list xs l ≡ heap_of_list ys l
same_tails p q xs ys a b e s l =
    ⊎_elim (λ (d : l ≤ p.0). none_up_to p.0 xs l a d ∙ sym (none_up_to q.0 ys l b (omega arith)))
    (λ (d : p.0 < l). let t = s l in grind (arith, nat_tests)) (cases_le l p.0)
  where
    cases_le : (m n : ℕ) → (m ≤ n) ⊎ (n < m)
    cases_le m n = ⊎_elim (λ (d : n < m). inr d) (λ (d : m ≤ n). inl d) (cases_lt n m)

first_differs : (p q : ℕ × Block) (xs ys : List (ℕ × Block)) → AscendsAbove q.0 ys → p.0 < q.0 → heap_of_list (p ∷ xs) p.0 ≡ heap_of_list (q ∷ ys) p.0 → ⊥
first_differs p q xs ys b d s = let r = none_up_to q.0 ys p.0 b (omega arith) in grind (arith, nat_tests)

same_block : (p q : ℕ × Block) (xs ys : List (ℕ × Block)) → p.0 ≡ q.0 → heap_of_list (p ∷ xs) p.0 ≡ heap_of_list (q ∷ ys) p.0 → p.1 ≡ q.1
same_block p q xs ys e s = grind (arith, nat_tests)

same_first : (p q : ℕ × Block) (xs ys : List (ℕ × Block))
    → AscendsAbove p.0 xs
    → AscendsAbove q.0 ys
    → ((l : ℕ) → heap_of_list (p ∷ xs) l ≡ heap_of_list (q ∷ ys) l)
    → p.0 ≡ q.0
same_first p q xs ys a b s =
    ⊎_elim (λ (d : p.0 < q.0). absurd (first_differs p q xs ys b d (s p.0)))
    (λ (d : q.0 ≤ p.0).
    ⊎_elim (λ (u : q.0 < p.0). absurd (first_differs q p ys xs a u (sym (s q.0)))) (λ (u : p.0 ≤ q.0). omega arith) (cases_lt q.0 p.0))
    (cases_lt p.0 q.0)

-- two ascending lists with the same blocks are the same list
pub same_lists : (bound : ℕ) (xs ys : List (ℕ × Block))
    → AscendsAbove bound xs
    → AscendsAbove bound ys
    → ((l : ℕ) → heap_of_list xs l ≡ heap_of_list ys l)
    → xs ≡ ys
same_lists bound [] [] a b s = refl
same_lists bound [] (q ∷ ys) a b s = let t = s q.0 in absurd (grind (arith, nat_tests))
same_lists bound (p ∷ xs) [] a b s = let t = s p.0 in absurd (grind (arith, nat_tests))
same_lists bound (p ∷ xs) (q ∷ ys) a b s =
    let e = same_first p q xs ys a.1 b.1 s in
    let f = same_block p q xs ys e (s p.0) in
    let r = same_lists p.0 xs ys a.1 (rw e b.1) (same_tails p q xs ys a.1 b.1 e s) in
    λ j. (e j, f j) ∷ r j

pub listings_agree : (h : Heap) (xs ys : List (ℕ × Block)) → IsListing h xs → IsListing h ys → xs ≡ ys
listings_agree h xs ys i j = same_lists 0 xs ys i.ascending j.ascending (λ l. sym (i.same_blocks.each l) ∙ j.same_blocks.each l)

module _ {X : Type 0} (block : X → Block) where
  heap_of_listing : (es : List (ℕ × X)) (l : ℕ) → heap_of_list (table_listing block es) l ≡ table_heap block es l
  heap_of_listing [] l = refl
  heap_of_listing (e ∷ es) l =
      ap (λ o. cond (nat_eq l e.0) (Some (block e.1)) o) (heap_of_listing es l)
      ∙ ap (λ t. cond t (Some (block e.1)) (table_heap block es l)) (sym (equal_keys l e.0))
      ∙ sym (option_map-cond block (is_at (nat_cmp l) e.0) (Some e.1) (lookup (is_at (nat_cmp l)) es))

  less : (m n : ℕ) → nat_cmp m n ≡ Less → m < n
  less m n e = grind (arith, nat_tests)

  listing_ascends : (bound : ℕ) (es : List (ℕ × X))
      → AllByRecursion (λ y. nat_cmp bound y ≡ Less) (keys_of es)
      → IsStrictlySortedBy nat_cmp (keys_of es)
      → AscendsAbove bound (table_listing block es)
  unfolding IsStrictlySortedBy
  listing_ascends bound [] a s = tt
  listing_ascends bound (e ∷ es) a s = (less bound e.0 a.0, listing_ascends e.0 es s.0 s.1)

  first_above_zero : (es : List (ℕ × X)) → IsHeap (table_heap block es) → IsStrictlySortedBy nat_cmp (keys_of es) → AscendsAbove 0 (table_listing block es)
  unfolding IsStrictlySortedBy
  first_above_zero [] h s = tt
  first_above_zero (e ∷ es) h s = (h.above_zero e.0 (block e.1) (rw (equal_keys e.0 e.0) (grind (arith, nat_tests))), listing_ascends e.0 es s.0 s.1)

  -- the table's blocks in its order are the listing of its heap
  pub table_listed : (es : List (ℕ × X))
      → IsHeap (table_heap block es)
      → IsStrictlySortedBy nat_cmp (keys_of es)
      → IsListing (table_heap block es) (table_listing block es)
  table_listed es h s = record {
    ascending = first_above_zero es h s;
    same_blocks = record { each = λ l. sym (heap_of_listing es l) };
  }

  pub table_counted : (es : List (ℕ × X)) → sum_by (λ v. length (block v) + 1) (values_of es) ≡ listing_size (table_listing block es)
  table_counted [] = refl
  table_counted (e ∷ es) =
      sum_by-cons (λ v. length (block v) + 1) e.1 (values_of es)
      ∙ ap (λ n. length (block e.1) + 1 + n) (table_counted es)
      ∙ sym (sum_by-cons (λ (p : ℕ × Block). length p.1 + 1) (e.0, block e.1) (table_listing block es))

  -- so it has a size, which the table's values sum up to
  pub table_sized : (es : List (ℕ × X))
      → IsHeap (table_heap block es)
      → IsStrictlySortedBy nat_cmp (keys_of es)
      → (n : ℕ)
      → n ≡ sum_by (λ v. length (block v) + 1) (values_of es)
      → IsSize (table_heap block es) n
  table_sized es h s n e = record {
    blocks = table_listing block es;
    is_listing = table_listed es h s;
    counted = e ∙ table_counted es;
  }
