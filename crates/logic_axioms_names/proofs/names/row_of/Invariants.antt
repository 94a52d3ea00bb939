use Rattle.std.proofs.Common.{◌≡◌, map, drop}
use Rattle.logic_axioms_names.specs.Tables.{lookup, spelled}
use Rattle.logic_axioms_names.proofs.names.row_of.Given as goal

-- the rows before this one have another text
abbrev pub invariant-loop-name : goal.invariant-loop-name
invariant-loop-name l = lookup (map spelled (drop l.name-index l.table)) l.text ≡ lookup (map spelled l.table) l.text
