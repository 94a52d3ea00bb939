-- A test for monotypes that are as wide as each other, which looks at the variables that they have.
use Rattle.std.specs.Prelude.{Bool, true, ◌&&◌, nat_eq}
use Rattle.htt_syntax.specs.Trees.{MonoTree, m_pair, m_var}
use Rattle.theory_logic_axioms.specs.Table.{count_of_words, uses_of}

-- t and s use each variable of `among` equally often
unfoldable pub are_used_alike : MonoTree → MonoTree → MonoTree → Bool
are_used_alike (m_pair left right) t s = are_used_alike left t s && are_used_alike right t s
are_used_alike (m_var index) t s = nat_eq (uses_of index t) (uses_of index s)
are_used_alike _ t s = true

-- t and s have as many words, and use each variable equally often that one of them has
unfoldable pub are_as_wide : MonoTree → MonoTree → Bool
are_as_wide t s = nat_eq (count_of_words t) (count_of_words s) && (are_used_alike t t s && are_used_alike s t s)
