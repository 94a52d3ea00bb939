use Rattle.std.proofs.Common.{◌∙◌, sym, ap, length}
use Rattle.htt_parser_recogniser.specs.Chart.{phrase_spans_of}
use Rattle.htt_parser_recogniser.specs.Rounds.{edge_of}
use Rattle.htt_parser_recogniser.proofs.Deriving.{shown_is_derived, derived_is_shown}
use Rattle.htt_parser_recogniser.proofs.chart.derives.Goals as goal

pub returns : goal.returns
returns c =
    let told =
    c.phrase_spans.ensures
    ∙ ap (λ edges. phrase_spans_of c.args.tokens.now edges (edge_of 0 (length c.args.tokens.now) c.args.nonterminal))
    c.deref.ensures.value in (
      λ h. shown_is_derived c.args.tokens.now c.in_ok-chart.chart.items c.args.nonterminal c.in_ok-chart.ensures (sym told ∙ h),
      λ d. told ∙ derived_is_shown c.args.tokens.now c.in_ok-chart.chart.items c.args.nonterminal c.in_ok-chart.ensures d,
    )
