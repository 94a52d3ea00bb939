use Rattle.std.proofs.Common.{◌≡◌, [], drop}
use Rattle.htt_parser_recogniser.specs.Rounds.{round_of}
use Rattle.htt_parser_recogniser.proofs.chart.round.Given as goal

-- what is still to come ends as the whole round does
abbrev pub invariant-loop-edge : goal.invariant-loop-edge
invariant-loop-edge l = round_of (drop l.edge-index l.pending) l.tokens l.chart.items l.left.items ≡ round_of l.pending l.tokens l.initial.chart.items []
