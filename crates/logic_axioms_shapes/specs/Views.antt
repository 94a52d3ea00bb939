-- The sort of the written table that each value of the Rust type is.
use Rattle.htt_syntax.specs.Views.{mono_tree}
use Rattle.logic_axioms_shapes.specs.declared.sort.ArgSort.{ArgSort}
use Rattle.logic_axioms_shapes.specs.declared.sort.ArgSort.TheVariants as sort
use Rattle.theory_logic_axioms.specs.Table as table

abbrev pub arg_sort : ArgSort → table.ArgSort
arg_sort sort.Heap = table.heap_sort
arg_sort (sort.Term a) = table.term_sort (mono_tree a)
