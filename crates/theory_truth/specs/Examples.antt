-- Truths that were worked out by hand. Index 0 is a word in w, index 1 a heap, index 2 a monotype.
use Rattle.std.specs.Prelude.{◌≡◌, [], ◌∷◌, true, false, ℕ}
use Rattle.htt_syntax.specs.declared.mono.Op.TheVariants.{Add, Lt}
use Rattle.htt_syntax.specs.Trees.{m_word, m_bool, m_loc, m_unit, m_pair, m_var, t_var, t_word, t_bool, t_loc, t_pair}
use Rattle.htt_syntax.specs.Trees.{t_snd, t_not, t_bin, t_eq, t_sel, t_at, no_terms, more_terms, f_tt, f_or, f_all_t}
use Rattle.htt_syntax.specs.Trees.{f_ex_t, f_emp, f_cell, f_block, f_eq, f_rec, t_unit, f_ex_h, f_join, f_same, f_and}
use Rattle.theory_values.specs.Values.{v_word, v_bool, v_loc}
use Rattle.theory_values.specs.Heaps.{empty_heap, single_block, Heap, IsHeap, with_block}
use Rattle.theory_truth.specs.Worlds.{World, th_mono, th_value, th_heap, mono_under}
use Rattle.theory_truth.specs.TermValue.{term_value}
use Rattle.theory_truth.specs.Truth.{Recs, Holds}
use Rattle.theory_truth.specs.Atoms.{IsFoundedTable}
use Rattle.theory_truth.specs.Predicates.{RecTree, recs_of}

abbrev pub w : World
w = th_value (v_word 18446744073709551615) ∷ th_heap (single_block 5 (7 ∷ [])) ∷ th_mono (m_pair m_word m_bool) ∷ []

abbrev pub none : Recs
none p j vs h = ⊥

-- the word x is twice the index: at 0 it is 0, and at n + 1 the word x - 2 is twice n
abbrev pub doubles : RecTree
doubles = record {
  params = m_word ∷ [];
  at_zero = f_eq m_word (t_var 1) (t_word 0);
  at_next = f_rec 0 0 (t_var 2) (more_terms (t_bin Add (t_var 1) (t_word 18446744073709551614)) no_terms);
}

-- at 0 the word is twice 1, by the predicate before
abbrev pub twice_one : RecTree
twice_one = record {
  params = m_word ∷ [];
  at_zero = f_rec 0 0 (t_word 1) (more_terms (t_var 1) no_terms);
  at_next = f_tt;
}

-- a list of n cells from a place: none at null, or one with a word and the next place, and the rest
abbrev pub chain : RecTree
chain = record {
  params = m_loc ∷ [];
  at_zero = f_and (f_emp 0) (f_eq m_loc (t_var 1) (t_loc 0));
  at_next =
      f_ex_t (m_pair m_word m_loc)
      (f_ex_h (f_ex_h (f_and (f_join 3 1 0)
      (f_and (f_cell (m_pair m_word m_loc) 1 (t_var 4) (t_var 2))
      (f_rec 0 0 (t_var 5) (more_terms (t_snd (t_var 2)) no_terms))))));
}

-- three cells from place 1: 10 and on to 2, 11 and on to 3, 12 and no further
abbrev pub last_cell : Heap
last_cell = with_block empty_heap 3 (12 ∷ 0 ∷ [])

abbrev pub two_cells : Heap
two_cells = with_block last_cell 2 (11 ∷ 3 ∷ [])

abbrev pub three_cells : Heap
three_cells = with_block two_cells 1 (10 ∷ 2 ∷ [])

pub record WorkedExamples : Type 0 where
  pub mono_variable : mono_under w (m_pair (m_var 2) m_unit) ≡ m_pair (m_pair m_word m_bool) m_unit
  pub sum_of_variable : term_value w (t_bin Add (t_var 0) (t_word 2)) ≡ v_word 1
  pub chosen_part :
      term_value w (t_sel m_word (t_not (t_bool true)) (t_word 1) (t_snd (t_pair (t_word 3) (t_at 9 (t_word 4)))))
      ≡ v_word 4
  pub equal_places : term_value w (t_eq m_loc (t_loc 3) (t_loc 3)) ≡ v_bool true
  pub eq_at_a_variable : term_value (th_mono m_bool ∷ []) (t_eq (m_var 0) (t_bool false) (t_bool true)) ≡ v_bool false
  pub equation : Holds none w (f_eq m_word (t_bin Add (t_var 0) (t_word 1)) (t_word 0))
  pub no_equation : Holds none w (f_eq m_word (t_var 0) (t_word 0)) → ⊥
  pub cell_holds : Holds none w (f_cell m_word 1 (t_loc 5) (t_word 7))
  pub other_word : Holds none w (f_cell m_word 1 (t_loc 5) (t_word 8)) → ⊥
  pub other_place : Holds none w (f_cell m_word 1 (t_loc 6) (t_word 7)) → ⊥
  pub not_empty : Holds none w (f_emp 1) → ⊥
  pub block_of_one_word : Holds none w (f_block m_bool 1 (t_loc 5))
  pub block_of_two_words : Holds none w (f_block (m_var 2) 1 (t_loc 5)) → ⊥
  pub every_bool_is_one_of_two :
      Holds none w (f_all_t m_bool (f_or (f_eq m_bool (t_var 0) (t_bool true)) (f_eq m_bool (t_var 0) (t_bool false))))
  pub some_word_is_above : Holds none w (f_ex_t m_word (f_eq m_bool (t_bin Lt (t_word 3) (t_var 0)) (t_bool true)))
  pub some_heap_is_empty : Holds none w (f_ex_h (f_emp 0))
  pub same_as_itself : Holds none w (f_same 1 1)
  pub no_join_with_itself : Holds none w (f_join 1 1 1) → ⊥
  pub unit_takes_an_empty_block : Holds none (th_heap (single_block 5 []) ∷ []) (f_cell m_unit 0 (t_loc 5) t_unit)
  pub no_cell_at_null : (h : Heap) → IsHeap h → Holds none (th_heap h ∷ []) (f_cell m_word 0 (t_loc 0) (t_word 1)) → ⊥
  pub four_is_twice_two : recs_of (doubles ∷ []) 0 2 (v_word 4 ∷ []) empty_heap
  pub five_is_not : recs_of (doubles ∷ []) 0 2 (v_word 5 ∷ []) empty_heap → ⊥
  pub two_is_twice_one : recs_of (doubles ∷ twice_one ∷ []) 1 0 (v_word 2 ∷ []) empty_heap
  pub the_table_is_founded : IsFoundedTable (doubles ∷ twice_one ∷ [])
  pub no_such_predicate : recs_of (doubles ∷ []) 1 0 (v_word 0 ∷ []) empty_heap → ⊥
  pub three_cells_are_a_chain : recs_of (chain ∷ []) 0 3 (v_loc 1 ∷ []) three_cells
