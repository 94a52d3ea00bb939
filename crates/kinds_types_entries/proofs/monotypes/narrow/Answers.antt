use Rattle.std.proofs.Common.{arith}
use Rattle.theory_checking.specs.Stops.{holds, fails}
use Rattle.kinds_types_entries.proofs.monotypes.narrow.Goals as goal

pub returns-then-is_narrow : goal.returns-then-is_narrow
returns-then-is_narrow c = record { comes = holds c.if-is_narrow.ensures.narrow }

pub returns-else-is_narrow : goal.returns-else-is_narrow
returns-else-is_narrow c = let wide = c.if-is_narrow.ensures.wide in record { comes = fails (λ h. omega (arith, wide, h)) }
