-- The worked worlds, contexts and sorts.
use Rattle.std.proofs.Common.{[], ◌∷◌, refl}
use Rattle.htt_syntax.specs.Trees.{TyTree, m_word, m_bool, m_var, y_mono}
use Rattle.theory_renaming.specs.Renaming.{rename_mono, rename_ty}
use Rattle.theory_values.specs.Values.{v_word, is_bool, closed_bool, IsClosed, HasType}
use Rattle.theory_values.specs.Heaps.{IsHeap as IsWholeHeap, empty_heap}
use Rattle.theory_truth.specs.Worlds.{th_mono, th_value, th_heap}
use Rattle.theory_typing.specs.Contexts.{en_mono, en_heap, en_term, IsHeapEntry, HasEntryType, FormsMono, heap_here, heap_there, type_here, type_there}
use Rattle.theory_typing.specs.Contexts.{mono_here, mono_there, forms_unit, forms_pair, forms_var}
use Rattle.theory_typing.specs.Worlds.{IsWorldOf, world_none, world_mono, world_value, world_heap}
use Rattle.theory_typing.specs.Positions.{plain_ty}
use Rattle.theory_logic_axioms.specs.Table.{argument_sorts, count_of_words, uses_of}
use Rattle.theory_examples.specs.Contexts.{TheWorlds, TheContexts, TheAxiomSorts}

empty_is_heap : IsWholeHeap empty_heap
empty_is_heap = record { above_zero = λ l b e. cc; at_words = λ l b e. cc; of_words = λ l b e. cc }

no_word_for_bool : HasType (v_word 1) m_bool → ⊥
no_word_for_bool d = elim d [ ]

other_monotype : IsWorldOf (en_term (y_mono (m_var 1)) ∷ en_heap ∷ en_mono ∷ []) (th_value (v_word 1) ∷ th_heap empty_heap ∷ th_mono m_bool ∷ []) → ⊥
other_monotype (world_value d rest) = no_word_for_bool d

no_closed_variable : IsClosed (m_var 0) → ⊥
no_closed_variable d = elim d [ ]

open_monotype : IsWorldOf (en_mono ∷ []) (th_mono (m_var 0) ∷ []) → ⊥
open_monotype (world_mono d rest) = no_closed_variable d

no_second_entry : IsWorldOf (en_heap ∷ []) [] → ⊥
no_second_entry d = elim d [ ]

entry_too_few : IsWorldOf (en_heap ∷ en_heap ∷ []) (th_heap empty_heap ∷ []) → ⊥
entry_too_few (world_heap h rest) = no_second_entry rest

pub worlds : TheWorlds
worlds = record {
  world = world_value is_bool (world_heap empty_is_heap (world_mono closed_bool world_none));
  other_monotype = other_monotype;
  open_monotype = open_monotype;
  entry_too_few = entry_too_few;
  monotype_in_it = refl;
}

heap_is_no_term : (A : TyTree) → HasEntryType (en_heap ∷ []) 0 A → ⊥
heap_is_no_term A d = elim d [ ]

term_is_no_heap : IsHeapEntry (en_term (y_mono m_word) ∷ en_heap ∷ []) 0 → ⊥
term_is_no_heap d = elim d [ ]

term_is_no_monotype : FormsMono (en_term (y_mono m_word) ∷ en_mono ∷ []) (m_var 0) → ⊥
term_is_no_monotype (forms_var d) = elim d [ ]

pub contexts : TheContexts
unfolding rename_mono rename_ty plain_ty
contexts = record {
  own_entry = type_here;
  outer_entry = type_there type_here;
  heap_is_no_term = heap_is_no_term;
  heap_entry = heap_there heap_here;
  term_is_no_heap = term_is_no_heap;
  formed_monotype = forms_pair (forms_var (mono_there mono_here)) forms_unit;
  term_is_no_monotype = term_is_no_monotype;
  ends_in_a_computation = tt;
  ends_in_a_word = λ d. d;
  type_without_positions = refl;
  recursion_without_positions = refl;
  formula_without_positions = refl;
}

pub sorts : TheAxiomSorts
unfolding argument_sorts count_of_words uses_of
sorts = record {
  of_cell_val = refl;
  no_monotype = refl;
  of_join_assoc = refl;
  of_pair_eta = refl;
  of_block_width = refl;
  heap_for_a_term = refl;
  all_in_place = refl;
  one_too_many = refl;
  words_of_a_pair = refl;
  uses_of_a_variable = refl;
}
