use Rattle.std.proofs.Common.{◌≡◌, map, take}
use Rattle.htt_syntax.specs.Views.{mono_tree}
use Rattle.logic_axioms_shapes.specs.Views.{arg_sort}
use Rattle.logic_axioms_shapes.specs.Slots.{slot_sort}
use Rattle.logic_axioms_shapes.proofs.slots.sorts_of.Given as goal

abbrev pub invariant-loop-slot : goal.invariant-loop-slot
invariant-loop-slot l = map arg_sort l.sorts.items ≡ map (slot_sort (mono_tree l.value)) (take l.slot-index l.slots)
