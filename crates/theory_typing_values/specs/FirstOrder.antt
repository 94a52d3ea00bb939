-- First-order contexts: each entry is a monotype variable, a heap variable, or a term variable of a
-- monotype that is formed under the entries further out.
use Rattle.std.specs.Prelude.{[], ◌∷◌}
use Rattle.htt_syntax.specs.Trees.{MonoTree, y_mono}
use Rattle.theory_typing.specs.Contexts.{EntryTree, en_mono, en_heap, en_term, Context, FormsMono}
use Rattle.theory_logic_sorts.specs.Sorts.{Sort, Sorts, for_mono, for_value, for_heap}

pub data IsFirstOrder : Context → Type 0 where
  fo_none : IsFirstOrder []
  fo_mono : {g : Context} → IsFirstOrder g → IsFirstOrder (en_mono ∷ g)
  fo_heap : {g : Context} → IsFirstOrder g → IsFirstOrder (en_heap ∷ g)
  fo_value : {g : Context} {t : MonoTree} → FormsMono g t → IsFirstOrder g → IsFirstOrder (en_term (y_mono t) ∷ g)

-- What the variables of a context stand for.
abbrev pub sort_of_entry : EntryTree → Sort
sort_of_entry en_mono = for_mono
sort_of_entry en_heap = for_heap
sort_of_entry (en_term ty) = for_value

abbrev pub sorts_of : Context → Sorts
sorts_of [] = []
sorts_of (entry ∷ g) = sort_of_entry entry ∷ sorts_of g
