-- A world is a list of things: closed monotypes, values and heaps.
use Rattle.std.specs.Prelude.{ℕ, zero, suc, List, [], ◌∷◌}
use Rattle.htt_syntax.specs.Trees.{MonoTree, m_word, m_bool, m_loc, m_unit, m_pair, m_var}
use Rattle.theory_values.specs.Values.{Value, v_unit}
use Rattle.theory_values.specs.Heaps.{Heap, empty_heap}

pub data Thing : Type 0 where
  th_mono : MonoTree → Thing
  th_value : Value → Thing
  th_heap : Heap → Thing

-- The innermost entry comes first.
abbrev pub World : Type 0
World = List Thing

-- The thing of an index. An index without an entry, and one of another sort, has a harmless thing on
-- which nothing rests.
abbrev pub thing_at : World → ℕ → Thing
thing_at [] n = th_value v_unit
thing_at (x ∷ w) zero = x
thing_at (x ∷ w) (suc n) = thing_at w n

abbrev pub mono_of : Thing → MonoTree
mono_of (th_mono t) = t
mono_of _ = m_unit

abbrev pub value_of : Thing → Value
value_of (th_value v) = v
value_of _ = v_unit

abbrev pub heap_of : Thing → Heap
heap_of (th_heap h) = h
heap_of _ = empty_heap

abbrev pub mono_at : World → ℕ → MonoTree
mono_at w n = mono_of (thing_at w n)

abbrev pub value_at : World → ℕ → Value
value_at w n = value_of (thing_at w n)

abbrev pub heap_at : World → ℕ → Heap
heap_at w n = heap_of (thing_at w n)

-- A monotype under a world: each variable is replaced by its closed monotype.
abbrev pub mono_under : World → MonoTree → MonoTree
mono_under w m_word = m_word
mono_under w m_bool = m_bool
mono_under w m_loc = m_loc
mono_under w m_unit = m_unit
mono_under w (m_pair t u) = m_pair (mono_under w t) (mono_under w u)
mono_under w (m_var index) = mono_at w index
