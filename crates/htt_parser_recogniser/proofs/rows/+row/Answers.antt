use Rattle.std.proofs.Common.{suc, ◌∙◌, sym, ap, add-one}
use Rattle.std.specs.Prelude.{◌&&◌}
use Rattle.htt_parser_recogniser.specs.Chart.{row_spans_of}
use Rattle.htt_parser_recogniser.proofs.FirstSymbols.{nothing_spans, phrase_row, token_row}
use Rattle.htt_parser_recogniser.proofs.rows.+row.Goals as goal

pub row_spans-returns-in-None : goal.row_spans-returns-in-None
row_spans-returns-in-None t c = sym (nothing_spans c.args.row.now c.args.tokens.now c.args.chart.now c.args.from c.args.to c.in-None.ensures.cases)

pub row_spans-returns-in-Phrase : goal.row_spans-returns-in-Phrase
row_spans-returns-in-Phrase t c =
    c.phrase_then.ensures
    ∙ sym (phrase_row c.args.row.now c.in-Some.rest.now c.in-Some.symbol.now c.in-Phrase.nonterminal c.args.tokens.now c.args.chart.now
    c.args.from c.args.to c.in-Some.ensures.cases.0 c.in-Phrase.is)

pub row_spans-returns-then-token_spans : goal.row_spans-returns-then-token_spans
row_spans-returns-then-token_spans t c =
    let there = sym c.token_spans.ensures.value ∙ c.if-token_spans.true in
    c.row_spans.ensures ∙ ap (λ k. row_spans_of c.in-Some.rest.now c.args.tokens.now c.args.chart.now k c.args.to) (add-one c.args.from)
    ∙ sym (token_row c.args.row.now c.in-Some.rest.now c.in-Some.symbol.now c.args.tokens.now c.args.chart.now c.args.from c.args.to
    c.in-Some.ensures.cases.0 c.in_default.not-Phrase
    ∙ ap (λ b. b && row_spans_of c.in-Some.rest.now c.args.tokens.now c.args.chart.now (suc c.args.from) c.args.to) there)

pub row_spans-returns-else-token_spans : goal.row_spans-returns-else-token_spans
row_spans-returns-else-token_spans t c =
    let there = sym c.token_spans.ensures.value ∙ c.if-token_spans.false in
    c.if-token_spans.false
    ∙ sym (token_row c.args.row.now c.in-Some.rest.now c.in-Some.symbol.now c.args.tokens.now c.args.chart.now c.args.from c.args.to
    c.in-Some.ensures.cases.0 c.in_default.not-Phrase
    ∙ ap (λ b. b && row_spans_of c.in-Some.rest.now c.args.tokens.now c.args.chart.now (suc c.args.from) c.args.to) there)
