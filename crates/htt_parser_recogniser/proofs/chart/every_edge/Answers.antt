use Rattle.std.proofs.Common.{length, ◌+◌, sym, subst, arith}
use Rattle.htt_parser_recogniser.proofs.Filling.{Filled, filled_next, filled_width, filled_all}
use Rattle.htt_parser_recogniser.proofs.chart.every_edge.Goals as goal

pub loop-from-preserved : goal.loop-from-preserved
loop-from-preserved c =
    subst (λ edges. Filled edges (length c.args.tokens.now) c.loop-width.width (c.loop-from.from + 1)) (sym c.in_ok-add_edges.ensures)
    (filled_next c.loop-from.edges.items (length c.args.tokens.now) c.loop-width.width c.loop-from.from c.loop-from.invariant)

pub loop-width-preserved : goal.loop-width-preserved
loop-width-preserved c = filled_width c.loop-from.edges.items (length c.args.tokens.now) c.loop-width.width c.loop-from.from (omega arith) c.loop-from.invariant

pub returns : goal.returns
returns c = filled_all c.args.tokens.now c.loop-width.edges.items c.loop-width.width (omega arith) c.loop-width.invariant
