-- What stands at an index of a context.
use Rattle.std.specs.Prelude.{Bool, true, false, Option, Some, None}
use Rattle.htt_syntax.specs.Trees.{TyTree}
use Rattle.theory_typing.specs.Contexts.{EntryTree, en_mono, en_heap, en_term}

abbrev pub is_heap_tree : Option EntryTree → Bool
is_heap_tree (Some en_heap) = true
is_heap_tree _ = false

abbrev pub is_mono_tree : Option EntryTree → Bool
is_mono_tree (Some en_mono) = true
is_mono_tree _ = false

abbrev pub term_tree_of : Option EntryTree → Option TyTree
term_tree_of (Some (en_term ty)) = Some ty
term_tree_of _ = None
