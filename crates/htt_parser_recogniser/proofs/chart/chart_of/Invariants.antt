use Rattle.std.proofs.Common.{length}
use Rattle.htt_parser_recogniser.proofs.Rounding.{Cover}
use Rattle.htt_parser_recogniser.proofs.chart.chart_of.Given as goal

abbrev pub invariant-loop-pending : goal.invariant-loop-pending
invariant-loop-pending l = Cover l.tokens l.chart.items l.pending.items

abbrev pub decreases-loop-pending : goal.decreases-loop-pending
decreases-loop-pending l = length l.pending.items
