-- The two variants, in small heaps.
use Rattle.std.proofs.Common.{◌≡◌, ℕ, [], ◌∷◌, Option, Some, None, refl, arith}
use Rattle.std.specs.Prelude.{Bool, true, false, nat_eq, if◌then◌else◌}
use Rattle.std.proofs.lemmas.List.Elements.{All-nil, All-cons}
use Rattle.theory_renaming.specs.Renaming.{lift, rename_mono, rename_term, rename_formula}
use Rattle.theory_values.specs.Values.{IsWord}
use Rattle.theory_values.specs.Heaps.{Block, Heap, IsHeap, IsEmpty, IsOnly, IsJoin, Joins, empty_heap, single_block}
use Rattle.theory_values.proofs.Joins.{single_is_only, only_is_heap, join_of_empty, join_commutes, empty_is_heap}
use Rattle.theory_truth.specs.TermValue.{term_value}
use Rattle.theory_truth.specs.Truth.{Holds}
use Rattle.theory_states.specs.States.{past, at_heaps, at_heap, at_result, after}
use Rattle.theory_examples.specs.VariantLaws.{seven_at_five, eight, SetForgets, RunsAtEachSplit}

cell_is_heap : (n : ℕ) → IsWord n → IsHeap (single_block 5 (n ∷ []))
cell_is_heap n l = only_is_heap (single_is_only 5 (n ∷ [])) (omega arith) (omega arith) (All-cons IsWord n [] l (All-nil IsWord))

with_nothing : (h : Heap) → IsJoin h h empty_heap
with_nothing h = join_commutes (join_of_empty h)

chosen : (b : Bool) (x y : Block) → (if b then Some x else (if b then Some y else None)) ≡ (if b then Some x else None)
chosen true x y = refl
chosen false x y = refl

same_block : {x y : Block} → Some x ≡ Some y → x ≡ y
same_block e = cc

first_word : {m n : ℕ} → m ∷ [] ≡ n ∷ [] → m ≡ n
first_word e = cc

no_block_is : {x : Block} → Some x ≡ None → ⊥
no_block_is e = cc

other_word : IsOnly eight 5 (7 ∷ []) → ⊥
other_word o = let e = first_word (same_block o.here) in omega (arith, e)

pub set_forgets : SetForgets
unfolding Holds term_value rename_mono rename_term rename_formula past at_heaps after
set_forgets = record {
  runs = refl;
  ends = record { each = λ l. chosen (nat_eq l 5) (8 ∷ []) (7 ∷ []) };
  right = λ table b. b (
    seven_at_five,
    cell_is_heap 7 (omega arith),
    λ g. g (
      seven_at_five,
      cell_is_heap 7 (omega arith),
      λ n. n (
        eight,
        cell_is_heap 8 (omega arith),
        λ k. k (
          empty_heap,
          empty_is_heap,
          (
            single_is_only 5 (7 ∷ []),
            (
              (7 ∷ [], refl, single_is_only 5 (7 ∷ [])),
              (with_nothing seven_at_five, (single_is_only 5 (8 ∷ []), with_nothing eight)),
            ),
          ),
        ),
      ),
    ),
  );
  keeping = λ table h. other_word h.0;
}

nothing_joins : (x z : Option Block) (b : Block) → z ≡ Some b → x ≡ None → Joins z x None → ⊥
nothing_joins None (Some c) b e f j = no_block_is j
nothing_joins None None b e f j = cc
nothing_joins (Some c) z b e f j = cc

nothing_is_seven : (n : Heap) → IsJoin seven_at_five n empty_heap → IsEmpty n → ⊥
nothing_is_seven n j e = nothing_joins (n 5) (seven_at_five 5) (7 ∷ []) refl (e.each 5) (j.each 5)

pub runs_at_each_split : RunsAtEachSplit
unfolding Holds term_value rename_mono rename_term rename_formula lift past at_heaps at_heap at_result after
runs_at_each_split = record {
  each = λ table h. h (λ x. x.2.1 x.0 x.1 empty_heap empty_is_heap (with_nothing x.0, tt) (λ y. nothing_is_seven y.0 y.2.0 y.2.1));
  some = λ table b.
      b (
        seven_at_five,
        cell_is_heap 7 (omega arith),
        (
          record { each = λ l. refl },
          λ g.
              g (
                empty_heap,
                empty_is_heap,
                λ k.
                    k (
                      seven_at_five,
                      cell_is_heap 7 (omega arith),
                      (
                        join_of_empty seven_at_five,
                        (tt, λ n. n (empty_heap, empty_is_heap, (join_of_empty seven_at_five, record { each = λ l. refl }))),
                      ),
                    ),
              ),
        ),
      );
}
