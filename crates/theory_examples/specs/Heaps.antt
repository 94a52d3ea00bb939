-- Values, heaps and choices that were worked out by hand.
use Rattle.std.specs.Prelude.{◌≡◌, [], ◌∷◌, true, false, Some, None}
use Rattle.htt_syntax.specs.Trees.{m_word, m_bool, m_loc, m_unit, m_pair, m_var}
use Rattle.theory_values.specs.Values.{Value, v_word, v_bool, v_loc, v_unit, v_pair, HasType, IsClosed}
use Rattle.theory_values.specs.Heaps.{Heap, IsHeap, IsSame, IsJoin, empty_heap, single_block, with_block, without_block}
use Rattle.theory_values.specs.Heaps.{is_fresh}
use Rattle.theory_meaning.specs.Closures.{base, nothing, with_mono, with_value, closed_mono}
use Rattle.theory_meaning.specs.Choices.{IsGreatest, AreShipped}

pub record TheValues : Type 0 where
  pub of_a_pair : HasType (v_pair (v_word 7) (v_bool true)) (m_pair m_word m_bool)
  pub last_location : HasType (v_loc 18446744073709551615) m_loc
  pub no_word_beyond : HasType (v_word 18446744073709551616) m_word → ⊥
  pub no_location_for_a_word : HasType (v_loc 5) m_word → ⊥
  pub of_no_variable : (v : Value) → HasType v (m_var 0) → ⊥
  pub closed : IsClosed (m_pair m_unit (m_pair m_bool m_loc))
  pub not_closed : IsClosed (m_pair m_word (m_var 0)) → ⊥
  -- a monotype is closed by the monotypes of an environment, and by no value in it
  pub closed_by_environment :
      closed_mono (with_value (base v_unit) (with_mono m_bool nothing)) (m_pair (m_var 1) m_word)
      ≡ Some (m_pair m_bool m_word)
  pub not_by_a_value : closed_mono (with_value (base v_unit) (with_mono m_bool nothing)) (m_pair (m_var 0) m_word)
      ≡ None

pub record TheHeaps : Type 0 where
  pub one_block : IsHeap (single_block 5 (7 ∷ []))
  pub no_block_at_null : IsHeap (single_block 0 []) → ⊥
  pub no_block_beyond : IsHeap (single_block 18446744073709551616 []) → ⊥
  pub no_large_word : IsHeap (single_block 5 (18446744073709551616 ∷ [])) → ⊥
  -- a block that is put back, and one that is taken away
  pub put_back : IsSame (with_block (without_block (single_block 5 (7 ∷ [])) 5) 5 (7 ∷ [])) (single_block 5 (7 ∷ []))
  pub taken_away : IsSame (without_block (single_block 5 (7 ∷ [])) 5) empty_heap
  pub two_blocks : IsJoin (with_block (single_block 5 (7 ∷ [])) 6 []) (single_block 5 (7 ∷ [])) (single_block 6 [])
  -- no heap is the union of two that share a location, and a part isn't the whole
  pub no_overlap : (h : Heap) → IsJoin h (single_block 5 []) (single_block 5 (1 ∷ [])) → ⊥
  pub no_part_left_out : IsJoin (single_block 5 []) (single_block 5 []) (single_block 6 []) → ⊥
  pub nothing_more : IsJoin (single_block 5 []) empty_heap empty_heap → ⊥

pub record TheChoices : Type 0 where
  pub free_location : is_fresh (single_block 5 []) 6 ≡ true
  pub used_location : is_fresh (single_block 5 []) 5 ≡ false
  pub null : is_fresh empty_heap 0 ≡ false
  pub greatest_of_none : IsGreatest empty_heap 0
  pub greatest_of_two : IsGreatest (with_block (single_block 9 []) 5 []) 9
  pub no_unused_greatest : IsGreatest (single_block 5 []) 6 → ⊥
  pub not_above : IsGreatest (single_block 5 []) 0 → ⊥
  pub shipped : AreShipped (single_block 5 []) 2 (6 ∷ 7 ∷ [])
  pub shipped_from_none : AreShipped empty_heap 3 (1 ∷ 2 ∷ 3 ∷ [])
