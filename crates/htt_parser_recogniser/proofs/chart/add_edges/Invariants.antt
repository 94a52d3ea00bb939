use Rattle.std.proofs.Common.{◌≡◌, ◌++◌, take, map}
use Rattle.htt_parser_recogniser.specs.Rounds.{edge_of}
use Rattle.htt_parser_recogniser.proofs.chart.add_edges.Given as goal

abbrev pub invariant-loop-nonterminal : goal.invariant-loop-nonterminal
invariant-loop-nonterminal l = l.edges.items ≡ l.initial.edges.items ++ map (edge_of l.from l.to) (take l.nonterminal-index l.nonterminal-items)
