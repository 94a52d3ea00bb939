use Rattle.std.specs.List.{list_any}
use Rattle.std.proofs.Common.{◌≡◌, ◌+◌, ◌*◌, length, take, false}
use Rattle.htt_parser_recogniser.specs.Chart.{row_follows}
use Rattle.htt_parser_recogniser.proofs.rows.+row.Given as goal

-- a row calls a phrase and what follows it
abbrev pub decreases-phrase_then : goal.decreases-phrase_then
decreases-phrase_then l = 2 * length l.row.now + 1

abbrev pub decreases-row_spans : goal.decreases-row_spans
decreases-row_spans l = 2 * length l.row.now

-- no edge before this one is followed by the row
abbrev pub invariant-phrase_then-loop-edge : goal.invariant-phrase_then-loop-edge
invariant-phrase_then-loop-edge l = list_any (row_follows l.nonterminal l.row l.tokens l.chart l.from l.to) (take l.edge-index l.chart) ≡ false
