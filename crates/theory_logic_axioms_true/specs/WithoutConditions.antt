-- What two axioms would say without their conditions, which is false in a world.
use Rattle.std.specs.Prelude.{◌≡◌, [], ◌∷◌, List, true, Some}
use Rattle.htt_syntax.specs.Trees.{TermTree, FormulaTree, m_word, m_loc, m_pair, y_mono, t_var, t_word, a_heap, a_term}
use Rattle.theory_values.specs.Values.{v_word, v_loc}
use Rattle.theory_values.specs.Heaps.{single_block}
use Rattle.theory_truth.specs.Worlds.{World, th_value, th_heap}
use Rattle.theory_truth.specs.Truth.{Holds}
use Rattle.theory_truth.specs.Predicates.{RecTree, recs_of}
use Rattle.theory_typing.specs.Contexts.{en_heap, en_term}
use Rattle.theory_typing.specs.Worlds.{IsWorldOf}
use Rattle.theory_logic_axioms.specs.Names.{block_width, lt_step}
use Rattle.theory_logic_axioms.specs.Table.{◌⇒◌, less, plus, SideCondition, formula_of}

-- x < x + 1, without a word above x
abbrev pub next_is_above : FormulaTree
next_is_above = less (t_var 0) (plus (t_var 0) (t_word 1)) true

-- x is the greatest word
abbrev pub at_greatest : World
at_greatest = th_value (v_word 18446744073709551615) ∷ []

-- a place, and a heap that is a block of one word there
abbrev pub one_word_held : World
one_word_held = th_value (v_loc 5) ∷ th_heap (single_block 5 (7 ∷ [])) ∷ []

pub record ConditionsAreNeeded : Type 0 where
  -- the row of the axiom is this conclusion behind its premise
  pub row_of_next_word : (y : TermTree)
      → formula_of lt_step [] (a_term (t_var 0) ∷ a_term y ∷ []) ≡ Some (less (t_var 0) y true ⇒ next_is_above)
  pub greatest_is_a_word : IsWorldOf (en_term (y_mono m_word) ∷ []) at_greatest
  pub no_word_above_greatest : (table : List RecTree) → Holds (recs_of table) at_greatest next_is_above → ⊥
  pub place_and_heap : IsWorldOf (en_term (y_mono m_loc) ∷ en_heap ∷ []) one_word_held
  pub other_width : SideCondition block_width (m_word ∷ m_pair m_word m_word ∷ []) → ⊥
  pub no_block_of_another_width : (table : List RecTree) (F : FormulaTree)
      → formula_of block_width (m_word ∷ m_pair m_word m_word ∷ []) (a_heap 1 ∷ a_term (t_var 0) ∷ []) ≡ Some F
      → Holds (recs_of table) one_word_held F
      → ⊥
