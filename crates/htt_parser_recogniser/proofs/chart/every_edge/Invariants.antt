use Rattle.std.proofs.Common.{length}
use Rattle.htt_parser_recogniser.proofs.Filling.{Filled}
use Rattle.htt_parser_recogniser.proofs.chart.every_edge.Given as goal

abbrev pub invariant-loop-width : goal.invariant-loop-width
invariant-loop-width l = Filled l.edges.items (length l.tokens) l.width 0

abbrev pub invariant-loop-from : goal.invariant-loop-from
invariant-loop-from l = Filled l.edges.items (length l.tokens) l.width l.from
