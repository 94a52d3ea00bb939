use Rattle.theory_checking.specs.Stops.{holds, fails}
use Rattle.kinds_types_entries.proofs.monotypes.comparable.Goals as goal

pub returns-then-is_comparable : goal.returns-then-is_comparable
returns-then-is_comparable c = record { comes = holds c.if-is_comparable.ensures.compared }

pub returns-else-is_comparable : goal.returns-else-is_comparable
returns-else-is_comparable c = record { comes = fails c.if-is_comparable.ensures.not_compared }
