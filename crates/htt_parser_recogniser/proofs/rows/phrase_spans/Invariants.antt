use Rattle.std.specs.List.{list_any}
use Rattle.std.proofs.Common.{◌≡◌, take, false}
use Rattle.htt_parser_recogniser.specs.Chart.{row_spans_of}
use Rattle.htt_parser_recogniser.proofs.rows.phrase_spans.Given as goal

-- no row before this one spans the tokens
abbrev pub invariant-loop-row : goal.invariant-loop-row
invariant-loop-row l = list_any (λ row. row_spans_of row.now l.tokens l.chart l.edge.from l.edge.to) (take l.row-index l.row-items) ≡ false
