use Rattle.std.proofs.Common.{◌≡◌, ◌++◌}
use Rattle.obligations.specs.Rows.{numbered}
use Rattle.obligations.proofs.table.numbered.Given as goal

abbrev pub invariant-loop-place : goal.invariant-loop-place
invariant-loop-place l =
    l.rows.items ++ numbered l.fn.item l.place-iterator.count l.place-iterator.iter.rest.items ≡ numbered l.fn.item 0 l.fn.owed.items
