use Rattle.std.proofs.Common.{◌∙◌, sym, ap}
use Rattle.htt_parser_recogniser.proofs.Rounding.{round_ends, step_in, step_stays}
use Rattle.htt_parser_recogniser.proofs.chart.round.Goals as goal
use Rattle.htt_parser_recogniser.proofs.chart.round.Goals.{then-phrase_spans+in_ok-push, else-phrase_spans+in_ok-push-2}

pub loop-edge-preserved : goal.loop-edge-preserved
loop-edge-preserved c =
    elim c.if-phrase_spans.branch [
      | then-phrase_spans+in_ok-push w ↦
          step_in c.args.pending.now c.loop-edge.edge-index _ c.args.tokens.now c.loop-edge.chart.items c.loop-edge.left.items
          c.if-phrase_spans.chart.items c.if-phrase_spans.left.items c.deref.result.now _ c.phrase_spans.result c.loop-edge-test.true
          c.phrase_spans.ensures c.deref.ensures.value w.if-phrase_spans.true (ap (λ v. v.items) w.chart-is ∙ w.in_ok-push.ensures.items)
          (ap (λ v. v.items) w.left-is) c.loop-edge.invariant
      | else-phrase_spans+in_ok-push-2 w ↦
          step_stays c.args.pending.now c.loop-edge.edge-index _ c.args.tokens.now c.loop-edge.chart.items c.loop-edge.left.items
          c.if-phrase_spans.chart.items c.if-phrase_spans.left.items c.deref.result.now _ c.phrase_spans.result c.loop-edge-test.true
          c.phrase_spans.ensures c.deref.ensures.value w.if-phrase_spans.false (ap (λ v. v.items) w.chart-is)
          (ap (λ v. v.items) w.left-is ∙ w.in_ok-push-2.ensures.items) c.loop-edge.invariant
    ]

pub returns-clause-added : goal.returns-clause-added
returns-clause-added c =
    ap (λ r. r.chart) (sym (round_ends c.args.pending.now c.loop-edge.edge-index c.args.tokens.now c.loop-edge.chart.items
    c.loop-edge.left.items c.loop-edge-test.false)
    ∙ c.loop-edge.invariant)

pub returns-clause-left : goal.returns-clause-left
returns-clause-left c =
    ap (λ r. r.left) (sym (round_ends c.args.pending.now c.loop-edge.edge-index c.args.tokens.now c.loop-edge.chart.items
    c.loop-edge.left.items c.loop-edge-test.false)
    ∙ c.loop-edge.invariant)
