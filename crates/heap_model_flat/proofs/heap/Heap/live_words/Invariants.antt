use Rattle.std.proofs.Common.{◌≡◌, map}
use Rattle.std.specs.Map.Iter.{deref_pair}
use Rattle.heap_model_flat.specs.Spans.{live_words}
use Rattle.heap_model_flat.proofs.heap.Heap.live_words.Given as goal

abbrev pub invariant-loop-span : goal.invariant-loop-span
invariant-loop-span l =
    (goal.iterator-loop-span).can_next l.span-iterator ×
    (goal.iterator-loop-span).is_finite l.span-iterator ×
    (l.live.items ≡ live_words l.self.words.items (map deref_pair l.yielded))
