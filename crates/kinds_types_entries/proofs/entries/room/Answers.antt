use Rattle.std.proofs.Common.{arith}
use Rattle.theory_views.proofs.Turned.{turned}
use Rattle.theory_checking.specs.Stops.{holds, fails}
use Rattle.kinds_types_entries.proofs.entries.room.Goals as goal

pub returns-then-has_room : goal.returns-then-has_room
returns-then-has_room c =
    let many = turned.as_many c.args.entries.now in
    let some = c.if-has_room.ensures.room in
    record { comes = holds (omega (arith, many, some)) }

pub returns-else-has_room : goal.returns-else-has_room
returns-else-has_room c =
    let many = turned.as_many c.args.entries.now in
    let none = c.if-has_room.ensures.no_room in
    record { comes = fails (λ h. omega (arith, many, none, h)) }
