use Rattle.std.proofs.Common.{◌≡◌, map, drop}
use Rattle.htt_lexer.specs.Tables.{lookup}
use Rattle.htt_lexer.specs.Pieces.{spelled}
use Rattle.htt_lexer.proofs.tables.row_of.Given as goal

-- the rows before this one have another spelling
abbrev pub invariant-loop-text : goal.invariant-loop-text
invariant-loop-text g l = lookup (map spelled (drop l.text-index l.table)) l.spelling ≡ lookup (map spelled l.table) l.spelling
