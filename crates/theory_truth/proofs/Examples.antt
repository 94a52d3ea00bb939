-- The worked examples hold.
use Rattle.std.proofs.Common.{◌≡◌, [], ◌∷◌, length, get_or, Some, None, refl, sym, ap, ◌∙◌, arith, ◌⊎◌, inl, inr, zero, suc, subst}
use Rattle.std.specs.Prelude.{true, false, ◌^◌, ◌<◌}
use Rattle.htt_syntax.specs.Trees.{m_bool}
use Rattle.theory_values.specs.Values.{Value, v_word, v_bool, HasType, is_word, is_bool}
use Rattle.theory_values.specs.Heaps.{Block, single_block, IsOnly, IsEmpty, Heap, IsHeap, empty_heap}
use Rattle.theory_values.proofs.Joins.{single_is_only}
use Rattle.theory_truth.specs.TermValue.{term_value, term_values}
use Rattle.theory_truth.specs.Truth.{Holds}
use Rattle.theory_truth.specs.Atoms.{AtomsMeet, IsFounded, IsFoundedTable}
use Rattle.theory_truth.specs.Predicates.{RecTree, recs_below}
use Rattle.theory_truth.proofs.Stable.{some_is_one}
use Rattle.theory_truth.proofs.Chain.{three_cells_chain}
use Rattle.theory_truth.specs.Examples.{WorkedExamples, doubles, twice_one}

some_is_not_none : (b : Block) → Some b ≡ None → ⊥
some_is_not_none b e = cc

other_block : IsOnly (single_block 5 (7 ∷ [])) 5 (8 ∷ []) → ⊥
other_block o = let e : 7 ∷ [] ≡ 8 ∷ [] = some_is_one o.here in let f : 7 ≡ 8 = ap (λ (b : Block). get_or b 0 0) e in omega (arith, f)

other_place : IsOnly (single_block 5 (7 ∷ [])) 6 (7 ∷ []) → ⊥
other_place o = some_is_not_none (7 ∷ []) (sym o.here)

full : IsEmpty (single_block 5 (7 ∷ [])) → ⊥
full o = some_is_not_none (7 ∷ []) (o.each 5)

one_word : (b : Block) → length b ≡ 2 → IsOnly (single_block 5 (7 ∷ [])) 5 b → ⊥
one_word b long o = let f : 7 ∷ [] ≡ b = some_is_one o.here in let g : 1 ≡ 2 = ap length f ∙ long in omega (arith, g)

bool_is : (v : Value) → HasType v m_bool → (v ≡ v_bool true) ⊎ (v ≡ v_bool false)
bool_is _ (is_bool {b = true}) = inl refl
bool_is _ (is_bool {b = false}) = inr refl

four_is_word : 4 < 2 ^ 64
four_is_word = omega arith

empty_is_heap : IsHeap empty_heap
empty_is_heap = record {
  above_zero = λ l b e. absurd (some_is_not_none b (sym e));
  at_words = λ l b e. absurd (some_is_not_none b (sym e));
  of_words = λ l b e. absurd (some_is_not_none b (sym e));
}

not_at_null : (h : Heap) → IsHeap h → IsOnly h 0 (1 ∷ []) → ⊥
not_at_null h is o = let l : 0 < 0 = is.above_zero 0 (1 ∷ []) o.here in omega (arith, l)

same_entry : {r s : RecTree} → Some r ≡ Some s → r ≡ s
same_entry e = cc

no_entry : {s : RecTree} → None ≡ Some s → ⊥
no_entry e = cc

doubles_founded : IsFounded 0 doubles
unfolding AtomsMeet
doubles_founded = record { zero_founded = tt; next_founded = inr (refl, refl) }

twice_one_founded : IsFounded 1 twice_one
unfolding AtomsMeet
twice_one_founded = record { zero_founded = omega arith; next_founded = tt }

founded : IsFoundedTable (doubles ∷ twice_one ∷ [])
founded zero r e = subst (IsFounded 0) (same_entry e) doubles_founded
founded (suc zero) r e = subst (IsFounded 1) (same_entry e) twice_one_founded
founded (suc (suc p)) r e = absurd (no_entry e)

pub worked : WorkedExamples
unfolding Holds term_value term_values recs_below
worked = record {
  mono_variable = refl;
  sum_of_variable = refl;
  chosen_part = refl;
  equal_places = refl;
  eq_at_a_variable = refl;
  equation = refl;
  no_equation = λ e. cc;
  cell_holds = single_is_only 5 (7 ∷ []);
  other_word = other_block;
  other_place = other_place;
  not_empty = full;
  block_of_one_word = (7 ∷ [], refl, single_is_only 5 (7 ∷ []));
  block_of_two_words = λ b. one_word b.0 b.1 b.2;
  every_bool_is_one_of_two = λ v typed k. k (bool_is v typed);
  some_word_is_above = λ k. k (v_word 4, is_word four_is_word, refl);
  some_heap_is_empty = λ k. k (empty_heap, empty_is_heap, record { each = λ l. refl });
  same_as_itself = record { each = λ l. refl };
  no_join_with_itself = λ j. j.each 5;
  unit_takes_an_empty_block = single_is_only 5 [];
  no_cell_at_null = not_at_null;
  four_is_twice_two = refl;
  five_is_not = λ e. cc;
  two_is_twice_one = refl;
  the_table_is_founded = founded;
  no_such_predicate = λ e. e;
  three_cells_are_a_chain = three_cells_chain;
}
