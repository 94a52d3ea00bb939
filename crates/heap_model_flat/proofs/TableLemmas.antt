-- What a table's heap is after a change of the table.
use Rattle.std.proofs.Common.{◌≡◌, ℕ, ◌+◌, ◌≤◌, Bool, true, false, cond, List, [], ◌∷◌, Option, Some, None, option_map, nat_eq, refl, ap, ◌∙◌, arith, ⊎_elim}
use Rattle.std.proofs.Common.{inl}
use Rattle.std.specs.Prelude.{fold, IsSome}
use Rattle.std.proofs.lemmas.Bool.{cases_eq}
use Rattle.std.proofs.lemmas.Bool.Decides.{nat_tests}
use Rattle.std.specs.List.{AllByRecursion}
use Rattle.std.specs.List.Sorted.{IsStrictlySortedBy}
use Rattle.std.specs.Ordering.{nat_cmp, is_eq, is_gt, is_lt}
use Rattle.std.specs.declared.cmp.Ordering.TheVariants.{Less}
use Rattle.std.specs.Map.{lookup, keys_of}
use Rattle.std.specs.BTreeMap.{is_at}
use Rattle.theory_values.specs.Heaps.{Heap, Block, with_place, with_block, empty_heap}
use Rattle.theory_meaning.specs.Choices.{IsGreatest}
use Rattle.heap_model_flat.specs.Places.{IsLeastAbove}
use Rattle.heap_model_flat.specs.Table.{table_heap}

pub equal_keys : (l k : ℕ) → is_eq (nat_cmp l k) ≡ nat_eq l k
equal_keys l k = grind (arith, nat_tests)

pub equal_keys_back : (l k : ℕ) → is_eq (nat_cmp k l) ≡ nat_eq l k
equal_keys_back l k = grind (arith, nat_tests)

pub option_map-cond : {X Y : Type 0} (f : X → Y) (t : Bool) (a b : Option X) → option_map f (cond t a b) ≡ cond t (option_map f a) (option_map f b)
option_map-cond f true a b = refl
option_map-cond f false a b = refl

-- the first key of a table in order isn't among those after it
pub no_later : {X : Type 0} (k : ℕ) (es : List (ℕ × X)) → AllByRecursion (λ y. nat_cmp k y ≡ Less) (keys_of es) → lookup (is_at (nat_cmp k)) es ≡ None
no_later k [] a = refl
no_later k (p ∷ es) a = let r = no_later k es a.1 in let b = a.0 in grind (arith, nat_tests)

pub not_greater : (m n : ℕ) → m ≤ n → is_gt (nat_cmp m n) ≡ false
not_greater m n h = grind (arith, nat_tests)

pub not_less : (m n : ℕ) → is_lt (nat_cmp m n) ≡ false → n ≤ m
not_less m n h = grind (arith, nat_tests)

abbrev in_place_of : Option Block → Option Block → Option Block
in_place_of None x = x
in_place_of (Some b) x = Some b

module _ {X : Type 0} (block : X → Block) where
  -- the heap with the table's blocks put one after the other
  abbrev pub heap_filled : Heap → List (ℕ × X) → Heap
  heap_filled h es = fold (λ g e. with_block g e.0 (block e.1)) h es

  filled_at : (h : Heap) (es : List (ℕ × X))
      → IsStrictlySortedBy nat_cmp (keys_of es)
      → (q : ℕ)
      → heap_filled h es q ≡ in_place_of (table_heap block es q) (h q)
  unfolding IsStrictlySortedBy
  filled_at h [] s q = refl
  filled_at h (e ∷ es) s q =
      filled_at (with_block h e.0 (block e.1)) es s.1 q
      ∙ ⊎_elim (λ (w : q ≡ e.0).
      let n = ap (λ k. table_heap block es k) w ∙ ap (option_map block) (no_later e.0 es s.0) in
      let b = equal_keys q e.0 in grind (arith, nat_tests)) (λ (d : q ≡ e.0 → ⊥). let b = equal_keys q e.0 in grind (arith, nat_tests))
      (cases_eq q e.0)

  none_is_kept : (o : Option Block) → in_place_of o None ≡ o
  none_is_kept None = refl
  none_is_kept (Some b) = refl

  pub filled_from_empty : (es : List (ℕ × X)) → IsStrictlySortedBy nat_cmp (keys_of es) → heap_filled empty_heap es ≡ table_heap block es
  filled_from_empty es s = λ j q. (filled_at empty_heap es s q ∙ none_is_kept (table_heap block es q)) j

  in_table : (o : Option X) (b : Block) → option_map block o ≡ Some b → IsSome o
  in_table None b e = absurd (none_is_no_block e)
    where
      none_is_no_block : None ≡ Some b → ⊥
      none_is_no_block e = cc
  in_table (Some x) b e = refl

  pub least_above : (es : List (ℕ × X)) (at next m : ℕ) (x : X)
      → next ≡ at + 1
      → next ≤ m
      → lookup (is_at (nat_cmp m)) es ≡ Some x
      → ((q : ℕ) → next ≤ q → IsSome (lookup (is_at (nat_cmp q)) es) → m ≤ q)
      → IsLeastAbove (table_heap block es) at m
  least_above es at next m x e low here least = record {
    above = omega (arith, e, low);
    in_use = (block x, ap (option_map block) here);
    least = λ k used d. least k (omega (arith, e, d)) (in_table (lookup (is_at (nat_cmp k)) es) used.0 used.1);
  }

  pub greatest_of : (es : List (ℕ × X)) (m : ℕ) (x : X)
      → lookup (is_at (nat_cmp m)) es ≡ Some x
      → ((q : ℕ) → IsSome (lookup (is_at (nat_cmp q)) es) → q ≤ m)
      → IsGreatest (table_heap block es) m
  greatest_of es m x here greatest = record {
    none_above = λ k used. greatest k (in_table (lookup (is_at (nat_cmp k)) es) used.0 used.1);
    in_use_or_zero = inl (block x, ap (option_map block) here);
  }

module _ {X : Type 0} (block : X → Block) where
  -- one key has another value, or none, and the others have what they had
  pub updated_table : (old new : List (ℕ × X)) (k : ℕ) (w : Option X)
      → ((q : ℕ) → lookup (is_at (nat_cmp q)) new ≡ cond (is_at (nat_cmp k) q) w (lookup (is_at (nat_cmp q)) old))
      → table_heap block new ≡ with_place (table_heap block old) k (option_map block w)
  updated_table old new k w u = λ j q. at q j
    where
      at : (q : ℕ) → option_map block (lookup (is_at (nat_cmp q)) new) ≡ with_place (table_heap block old) k (option_map block w) q
      at q =
          ap (option_map block) (u q)
          ∙ option_map-cond block (is_at (nat_cmp k) q) w (lookup (is_at (nat_cmp q)) old)
          ∙ ap (λ t. cond t (option_map block w) (option_map block (lookup (is_at (nat_cmp q)) old))) (equal_keys_back q k)

  pub empty_table : (entries : List (ℕ × X)) → entries ≡ [] → table_heap block entries ≡ (λ l. None)
  empty_table entries e = ap (table_heap block) e
