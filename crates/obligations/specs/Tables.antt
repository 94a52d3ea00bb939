-- What callers see of a table: its rows.
use Rattle.std.specs.Prelude.{List}
use Rattle.obligations.specs.declared.row.Row.{Row}
use Rattle.obligations.specs.declared.table.Table.{Table}

abbrev pub rows_of : Table → List Row
rows_of table = table.rows.items
