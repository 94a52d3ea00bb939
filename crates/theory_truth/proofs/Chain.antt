-- A list of three cells is a chain.
use Rattle.std.proofs.Common.{◌≡◌, ℕ, zero, suc, ◌<◌, List, [], ◌∷◌, Option, Some, None, Bool, true, false, nat_eq, refl, sym, ap, arith, subst, ◌∙◌}
use Rattle.std.proofs.Common.{if◌then◌else◌}
use Rattle.std.specs.Prelude.{◌^◌, All}
use Rattle.std.proofs.lemmas.Bool.Decides.{nat_tests}
use Rattle.theory_values.specs.Values.{Value, v_word, v_loc, v_pair, IsWord, HasType, is_word, is_loc, is_pair}
use Rattle.theory_values.specs.Heaps.{Block, Heap, IsHeap, IsEmpty, IsOnly, IsJoin, Joins, empty_heap, single_block, with_block}
use Rattle.theory_values.proofs.Joins.{single_is_only, only_is_heap, join_is_heap, empty_is_heap}
use Rattle.theory_truth.specs.TermValue.{term_value, term_values}
use Rattle.theory_truth.specs.Truth.{Holds}
use Rattle.theory_truth.specs.Predicates.{recs_of, recs_below}
use Rattle.theory_truth.specs.Examples.{chain, last_cell, two_cells, three_cells}

joins_at : (t : Bool) (x : Option Block) (b : Block) → (t ≡ true → x ≡ None) → Joins (if t then Some b else x) (if t then Some b else None) x
joins_at true x b free = subst (λ y. Joins (Some b) (Some b) y) (sym (free refl)) refl
joins_at false x b free = refl

-- a new block beside a heap
block_joins : (h : Heap) (l : ℕ) (b : Block) → h l ≡ None → IsJoin (with_block h l b) (single_block l b) h
block_joins h l b free = record { each = λ m. joins_at (nat_eq m l) (h m) b (λ e. let s : m ≡ l = grind (arith, nat_tests) in ap h s ∙ free) }

two_words : (x y : ℕ) → IsWord x → IsWord y → All IsWord (x ∷ y ∷ [])
two_words x y p q zero d l = p
two_words x y p q (suc zero) d l = q
two_words x y p q (suc (suc k)) d l = absurd (omega (arith, l))

block_is_heap : (l x y : ℕ) → 0 < l → IsWord l → IsWord x → IsWord y → IsHeap (single_block l (x ∷ y ∷ []))
block_is_heap l x y above word p q = only_is_heap (single_is_only l (x ∷ y ∷ [])) above word (two_words x y p q)

last_is_heap : IsHeap last_cell
last_is_heap =
    join_is_heap (block_joins empty_heap 3 (12 ∷ 0 ∷ []) refl)
    (block_is_heap 3 12 0 (omega arith) (omega arith) (omega arith) (omega arith)) empty_is_heap

two_is_heap : IsHeap two_cells
two_is_heap =
    join_is_heap (block_joins last_cell 2 (11 ∷ 3 ∷ []) refl) (block_is_heap 2 11 3 (omega arith) (omega arith) (omega arith) (omega arith))
    last_is_heap

pub three_cells_chain : recs_of (chain ∷ []) 0 3 (v_loc 1 ∷ []) three_cells
unfolding Holds term_value term_values recs_below
three_cells_chain =
    λ k. k (
      v_pair (v_word 10) (v_loc 2),
      is_pair (is_word (omega arith)) (is_loc (omega arith)),
      λ k. k (
        single_block 1 (10 ∷ 2 ∷ []),
        block_is_heap 1 10 2 (omega arith) (omega arith) (omega arith) (omega arith),
        λ k. k (
          two_cells,
          two_is_heap,
          (
            block_joins two_cells 1 (10 ∷ 2 ∷ []) refl,
            (
              single_is_only 1 (10 ∷ 2 ∷ []),
              λ k. k (
                v_pair (v_word 11) (v_loc 3),
                is_pair (is_word (omega arith)) (is_loc (omega arith)),
                λ k. k (
                  single_block 2 (11 ∷ 3 ∷ []),
                  block_is_heap 2 11 3 (omega arith) (omega arith) (omega arith) (omega arith),
                  λ k. k (
                    last_cell,
                    last_is_heap,
                    (
                      block_joins last_cell 2 (11 ∷ 3 ∷ []) refl,
                      (
                        single_is_only 2 (11 ∷ 3 ∷ []),
                        λ k. k (
                          v_pair (v_word 12) (v_loc 0),
                          is_pair (is_word (omega arith)) (is_loc (omega arith)),
                          λ k. k (
                            single_block 3 (12 ∷ 0 ∷ []),
                            block_is_heap 3 12 0 (omega arith) (omega arith) (omega arith) (omega arith),
                            λ k.
                                k (
                                  empty_heap,
                                  empty_is_heap,
                                  (
                                    block_joins empty_heap 3 (12 ∷ 0 ∷ []) refl,
                                    (single_is_only 3 (12 ∷ 0 ∷ []), (record { each = λ l. refl }, refl)),
                                  ),
                                ),
                          ),
                        ),
                      ),
                    ),
                  ),
                ),
              ),
            ),
          ),
        ),
      ),
    )
