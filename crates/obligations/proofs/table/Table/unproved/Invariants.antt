use Rattle.std.proofs.Common.{◌≡◌, ◌++◌, drop}
use Rattle.obligations.specs.Rows.{open_places}
use Rattle.obligations.proofs.table.Table.unproved.Given as goal

abbrev pub invariant-loop-place : goal.invariant-loop-place
invariant-loop-place l =
    l.left.items ++ open_places l.place (drop l.place l.row-items) ≡ open_places 0 l.row-items
