-- The worlds of a context: each entry has a thing of its sort, a value one of the entry's monotype. A context
-- with an entry of another type than a monotype has no world.
use Rattle.std.specs.Prelude.{[], ◌∷◌}
use Rattle.htt_syntax.specs.Trees.{MonoTree, y_mono}
use Rattle.theory_values.specs.Values.{Value, HasType, IsClosed}
use Rattle.theory_values.specs.Heaps.{Heap, IsHeap}
use Rattle.theory_truth.specs.Worlds.{World, th_mono, th_value, th_heap, mono_under}
use Rattle.theory_typing.specs.Contexts.{Context, en_mono, en_heap, en_term}

-- The innermost entry comes first in both; an entry's monotype stands under the entries further out.
pub data IsWorldOf : Context → World → Type 0 where
  world_none : IsWorldOf [] []
  world_mono : {g : Context} {w : World} {t : MonoTree}
      → IsClosed t
      → IsWorldOf g w
      → IsWorldOf (en_mono ∷ g) (th_mono t ∷ w)
  world_value : {g : Context} {w : World} {t : MonoTree} {v : Value}
      → HasType v (mono_under w t)
      → IsWorldOf g w
      → IsWorldOf (en_term (y_mono t) ∷ g) (th_value v ∷ w)
  world_heap : {g : Context} {w : World} {h : Heap}
      → IsHeap h
      → IsWorldOf g w
      → IsWorldOf (en_heap ∷ g) (th_heap h ∷ w)
