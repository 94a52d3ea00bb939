use Rattle.std.proofs.Common.{sym, ◌∙◌}
use Rattle.theory_views.specs.Contexts.{context_of}
use Rattle.theory_checking.specs.Stops.{holds, fails}
use Rattle.kinds_types_entries.proofs.Standing.{heap_true, heap_false}
use Rattle.kinds_types_entries.proofs.entries.is_heap.Goals as goal

pub returns-then-heap_at : goal.returns-then-heap_at
returns-then-heap_at c =
    record { comes = holds (heap_true (context_of c.args.entries.now) c.args.index (sym c.if-heap_at.true ∙ c.heap_at.ensures.stands)) }

pub returns-else-heap_at : goal.returns-else-heap_at
returns-else-heap_at c =
    record { comes = fails (heap_false (context_of c.args.entries.now) c.args.index (sym c.if-heap_at.false ∙ c.heap_at.ensures.stands)) }
