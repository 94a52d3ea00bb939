-- Instances that were worked out by hand.
use Rattle.std.specs.Prelude.{◌≡◌, [], ◌∷◌, true, false, Some, None}
use Rattle.htt_syntax.specs.declared.mono.Op.TheVariants.{Add}
use Rattle.htt_syntax.specs.Trees.{TermTree, FormulaTree, m_word, m_bool, m_loc, m_unit, m_pair, m_var, t_var, t_word}
use Rattle.htt_syntax.specs.Trees.{t_bool, t_loc, t_pair, t_bin, f_ff, f_and, f_ex_t, f_ex_h, f_emp, f_cell, f_block}
use Rattle.htt_syntax.specs.Trees.{f_join, f_eq, a_heap, a_term}
use Rattle.theory_logic_axioms.specs.Names.{text_of, emp_some, join_assoc, join_cross, cell_make, block_word}
use Rattle.theory_logic_axioms.specs.Names.{block_null, block_width, add_comm, add_zero, sub_add, lt_zero, lt_pred}
use Rattle.theory_logic_axioms.specs.Names.{eq_yes, pair_eta, shl_one}
use Rattle.theory_logic_axioms.specs.Table.{◌⇒◌, formula_of, IsInstance}

pub record TheWordInstances : Type 0 where
  pub nothing_is_below_zero : formula_of lt_zero [] (a_term (t_word 3) ∷ [])
      ≡ Some (f_eq m_bool (t_bool false) (t_bool false))
  pub sum_of_literals : formula_of add_comm [] (a_term (t_word 1) ∷ a_term (t_word 2) ∷ [])
      ≡ Some (f_eq m_word (t_word 3) (t_word 3))
  pub sum_of_a_variable : formula_of add_comm [] (a_term (t_var 0) ∷ a_term (t_word 2) ∷ [])
      ≡ Some (f_eq m_word (t_bin Add (t_var 0) (t_word 2)) (t_bin Add (t_word 2) (t_var 0)))
  pub zero_stays : formula_of add_zero [] (a_term (t_var 0) ∷ [])
      ≡ Some (f_eq m_word (t_bin Add (t_var 0) (t_word 0)) (t_var 0))
  pub difference_wraps : formula_of sub_add [] (a_term (t_word 1) ∷ a_term (t_word 2) ∷ [])
      ≡ Some (f_eq m_word (t_word 1) (t_word 1))
  pub before_zero : formula_of lt_pred [] (a_term (t_word 0) ∷ [])
      ≡ Some ((f_eq m_word (t_word 0) (t_word 0) ⇒ f_ff) ⇒ f_eq m_bool (t_bool false) (t_bool true))
  pub moved_up : formula_of shl_one [] (a_term (t_word 5) ∷ []) ≡ Some (f_eq m_word (t_word 10) (t_word 10))
  pub equal_words : formula_of eq_yes (m_word ∷ []) (a_term (t_word 2) ∷ a_term (t_word 2) ∷ [])
      ≡ Some (f_eq m_bool (t_bool true) (t_bool true) ⇒ f_eq m_word (t_word 2) (t_word 2))
  pub parts_of_a_pair : formula_of pair_eta (m_word ∷ m_bool ∷ []) (a_term (t_pair (t_word 1) (t_bool true)) ∷ [])
      ≡ Some (f_eq (m_pair m_word m_bool) (t_pair (t_word 1) (t_bool true)) (t_pair (t_word 1) (t_bool true)))

-- The heaps of a row are the variables 4, 3, 2, 1, 0 in its order.
pub record TheHeapInstances : Type 0 where
  pub some_heap_is_empty : formula_of emp_some [] [] ≡ Some (f_ex_h (f_emp 0))
  pub regrouped : formula_of join_assoc [] (a_heap 4 ∷ a_heap 3 ∷ a_heap 2 ∷ a_heap 1 ∷ a_heap 0 ∷ [])
      ≡ Some (f_join 4 3 2 ⇒ f_join 3 1 0 ⇒ f_ex_h (f_and (f_join 5 2 0) (f_join 0 1 3)))
  pub split_crosswise : formula_of join_cross [] (a_heap 4 ∷ a_heap 3 ∷ a_heap 2 ∷ a_heap 1 ∷ a_heap 0 ∷ [])
      ≡ Some (f_join 4 3 2
      ⇒ f_join 4 1 0
      ⇒ f_ex_h
      (f_ex_h (f_ex_h (f_ex_h (f_and (f_join 7 3 2) (f_and (f_join 6 1 0) (f_and (f_join 5 3 1) (f_join 4 2 0))))))))
  -- a cell of the monotype 3 at the place 2, which holds the term 0
  pub cell_made : formula_of cell_make (m_var 3 ∷ []) (a_term (t_var 2) ∷ a_term (t_var 0) ∷ [])
      ≡ Some ((f_eq m_loc (t_var 2) (t_loc 0) ⇒ f_ff) ⇒ f_ex_h (f_cell (m_var 4) 0 (t_var 3) (t_var 1)))
  pub word_in_a_block : formula_of block_word [] (a_heap 1 ∷ a_term (t_var 0) ∷ [])
      ≡ Some (f_block m_word 1 (t_var 0) ⇒ f_ex_t m_word (f_cell m_word 2 (t_var 1) (t_var 0)))
  pub no_block_at_null : formula_of block_null (m_word ∷ []) (a_heap 2 ∷ []) ≡ Some (f_block m_word 2 (t_loc 0) ⇒ f_ff)

pub record TheSideConditions : Type 0 where
  pub word_for_bool :
      IsInstance block_width (m_word ∷ m_bool ∷ []) (a_heap 1 ∷ a_term (t_var 0) ∷ [])
      (f_block m_word 1 (t_var 0) ⇒ f_block m_bool 1 (t_var 0))
  pub no_word_for_two : (formula : FormulaTree)
      → IsInstance block_width (m_word ∷ m_pair m_word m_loc ∷ []) (a_heap 1 ∷ a_term (t_var 0) ∷ []) formula
      → ⊥
  -- the parts may change places, and unit takes no room
  pub changed_places :
      IsInstance block_width (m_pair (m_var 2) m_word ∷ m_pair m_loc (m_pair m_unit (m_var 2)) ∷ [])
      (a_heap 1 ∷ a_term (t_var 0) ∷ [])
      (f_block (m_pair (m_var 2) m_word) 1 (t_var 0) ⇒ f_block (m_pair m_loc (m_pair m_unit (m_var 2))) 1 (t_var 0))
  pub no_other_variable : (formula : FormulaTree)
      → IsInstance block_width (m_var 2 ∷ m_var 3 ∷ []) (a_heap 1 ∷ a_term (t_var 0) ∷ []) formula
      → ⊥
  pub no_eq_at_unit : (m n : TermTree) (formula : FormulaTree)
      → IsInstance eq_yes (m_unit ∷ []) (a_term m ∷ a_term n ∷ []) formula
      → ⊥

pub record TheRefusals : Type 0 where
  pub one_argument : formula_of add_comm [] (a_term (t_word 1) ∷ []) ≡ None
  pub a_monotype_too_many : formula_of add_comm (m_word ∷ []) (a_term (t_word 1) ∷ a_term (t_word 2) ∷ []) ≡ None
  pub heap_for_a_term : formula_of add_comm [] (a_term (t_word 1) ∷ a_heap 0 ∷ []) ≡ None
  pub text : text_of lt_zero ≡ 108 ∷ 116 ∷ 95 ∷ 122 ∷ 101 ∷ 114 ∷ 111 ∷ []
