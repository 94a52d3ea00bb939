-- A table, as the list of what its rows stand for.
use Rattle.std.specs.Prelude.{List, [], ◌∷◌, ◌++◌, ◌≡◌, ◌⊎◌}
use Rattle.shared_terms_rows.specs.declared.row.Row.{Row}
use Rattle.shared_terms_rows.specs.Parts.{Part}
use Rattle.shared_terms_rows.specs.Rows.{node, stood_for}
use Rattle.shared_terms_table.specs.declared.table.Table.{Table}

unfoldable pub parts_of : Table → List Part
parts_of table = stood_for [] table.rows.keys

-- the list stays, or what the row stands for goes last
abbrev pub Appends : List Part → Row → List Part → Type 0
Appends old row new = (new ≡ old) ⊎ (new ≡ old ++ node old row ∷ [])
