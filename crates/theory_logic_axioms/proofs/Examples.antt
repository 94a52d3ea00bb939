-- The worked examples compute.
use Rattle.std.proofs.Common.{◌≡◌, ℕ, refl, arith}
use Rattle.htt_syntax.specs.Trees.{m_word, m_loc, m_unit, m_pair, m_var}
use Rattle.theory_renaming.specs.Renaming.{rename_mono, rename_term}
use Rattle.theory_canonical.specs.Folding.{contractum}
use Rattle.theory_typing.specs.Contexts.{IsComparable}
use Rattle.theory_logic_axioms.specs.Table.{formula_of, count_of_words, uses_of, SideCondition, SameWidth}
use Rattle.theory_logic_axioms.specs.Examples.{TheWordInstances, TheHeapInstances, TheSideConditions, TheRefusals}

pub word_instances : TheWordInstances
unfolding formula_of contractum
word_instances = record {
  nothing_is_below_zero = refl;
  sum_of_literals = refl;
  sum_of_a_variable = refl;
  zero_stays = refl;
  difference_wraps = refl;
  before_zero = refl;
  moved_up = refl;
  equal_words = refl;
  parts_of_a_pair = refl;
}

pub heap_instances : TheHeapInstances
unfolding formula_of rename_mono rename_term
heap_instances = record {
  some_heap_is_empty = refl;
  regrouped = refl;
  split_crosswise = refl;
  cell_made = refl;
  word_in_a_block = refl;
  no_block_at_null = refl;
}

no_width : SameWidth m_word (m_pair m_word m_loc) → ⊥
unfolding count_of_words
no_width w = let e : 1 ≡ 2 = w.same_words in omega (arith, e)

no_variable : SameWidth (m_var 2) (m_var 3) → ⊥
unfolding uses_of
no_variable w = let e : 1 ≡ 0 = w.same_variables 2 in omega (arith, e)

turned : (index : ℕ) → uses_of index (m_pair (m_var 2) m_word) ≡ uses_of index (m_pair m_loc (m_pair m_unit (m_var 2)))
unfolding uses_of
turned index = omega arith

no_comparison : IsComparable m_unit → ⊥
no_comparison c = elim c [ ]

pub side_conditions : TheSideConditions
unfolding formula_of SideCondition count_of_words uses_of
side_conditions = record {
  word_for_bool = record { side_condition = record { same_words = refl; same_variables = λ index. refl }; row = refl };
  no_word_for_two = λ formula i. no_width i.side_condition;
  changed_places = record { side_condition = record { same_words = refl; same_variables = turned }; row = refl };
  no_other_variable = λ formula i. no_variable i.side_condition;
  no_eq_at_unit = λ m n formula i. no_comparison i.side_condition;
}

pub refusals : TheRefusals
unfolding formula_of
refusals = record { one_argument = refl; a_monotype_too_many = refl; heap_for_a_term = refl; text = refl }
