-- What a slot stands for, where t is the monotype of values.
use Rattle.htt_syntax.specs.Trees.{MonoTree, m_word, m_bool, m_loc, m_unit}
use Rattle.logic_axioms_shapes.specs.declared.slots.Slot.{Slot}
use Rattle.logic_axioms_shapes.specs.declared.slots.Slot.TheVariants.{Heap, Place, Word, Truth, Unit, Value}
use Rattle.theory_logic_axioms.specs.Table.{ArgSort, heap_sort, term_sort}

abbrev pub slot_sort : MonoTree → Slot → ArgSort
slot_sort t Heap = heap_sort
slot_sort t Place = term_sort m_loc
slot_sort t Word = term_sort m_word
slot_sort t Truth = term_sort m_bool
slot_sort t Unit = term_sort m_unit
slot_sort t Value = term_sort t
