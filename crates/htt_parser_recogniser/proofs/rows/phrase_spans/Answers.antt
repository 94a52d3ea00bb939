use Rattle.std.proofs.Common.{◌∙◌, sym, ap}
use Rattle.std.specs.List.{list_any}
use Rattle.std.proofs.lemmas.List.Folds.{list_any_at}
use Rattle.htt_parser_recogniser.specs.Chart.{row_spans_of}
use Rattle.htt_parser_recogniser.proofs.FirstSymbols.{any_of_map, any_of_all}
use Rattle.htt_parser_recogniser.proofs.rows.phrase_spans.Goals as goal

pub returns-then-row_spans : goal.returns-then-row_spans
returns-then-row_spans c =
    sym (sym (ap (list_any (λ row. row_spans_of row c.args.tokens.now c.args.chart.now c.args.edge.now.from c.args.edge.now.to))
    c.alternatives-row-items.ensures)
    ∙ any_of_map (λ row. row_spans_of row c.args.tokens.now c.args.chart.now c.args.edge.now.from c.args.edge.now.to) (λ row. row.now)
    c.alternatives-row-items.result.now
    ∙ list_any_at (λ row. row_spans_of row.now c.args.tokens.now c.args.chart.now c.args.edge.now.from c.args.edge.now.to)
    c.alternatives-row-items.result.now c.loop-row.row-index _ c.loop-row-test.true (sym c.row_spans.ensures ∙ c.if-row_spans.true))

pub returns : goal.returns
returns c =
    sym (sym (ap (list_any (λ row. row_spans_of row c.args.tokens.now c.args.chart.now c.args.edge.now.from c.args.edge.now.to))
    c.alternatives-row-items.ensures)
    ∙ any_of_map (λ row. row_spans_of row c.args.tokens.now c.args.chart.now c.args.edge.now.from c.args.edge.now.to) (λ row. row.now)
    c.alternatives-row-items.result.now
    ∙ any_of_all (λ row. row_spans_of row.now c.args.tokens.now c.args.chart.now c.args.edge.now.from c.args.edge.now.to)
    c.alternatives-row-items.result.now c.loop-row.row-index c.loop-row-test.false c.loop-row.invariant)
