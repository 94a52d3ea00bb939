use Rattle.std.proofs.Common.{◌≡◌, ◌∙◌, ◌≤◌, [], sym, ap, subst, length, arith}
use Rattle.std.proofs.lemmas.Grind.{common_steps}
use Rattle.htt_parser_recogniser.specs.Rounds.{IsChart, round_of}
use Rattle.htt_parser_recogniser.proofs.Rounding.{Cover, next_cover, last_cover, no_more_left}
use Rattle.htt_parser_recogniser.proofs.chart.chart_of.Goals as goal

pub returns-then-len : goal.returns-then-len
returns-then-len c =
    let left_is = c.in_ok-left.ensures.left ∙ ap (λ p. (round_of p c.args.tokens.now c.loop-pending.chart.items []).left) c.deref.ensures.value in
    let chart_is = c.in_ok-left.ensures.added ∙ ap (λ p. (round_of p c.args.tokens.now c.loop-pending.chart.items []).chart) c.deref.ensures.value in
    let same : length c.in_ok-left.left.items ≡ length c.loop-pending.pending.items = grind (arith, common_steps) in
    subst (IsChart c.args.tokens.now) (sym chart_is)
    (last_cover c.args.tokens.now c.loop-pending.chart.items c.loop-pending.pending.items c.loop-pending.invariant
    (sym (ap length left_is) ∙ same))

pub loop-pending-smaller : goal.loop-pending-smaller
loop-pending-smaller c =
    let left_is = c.in_ok-left.ensures.left ∙ ap (λ p. (round_of p c.args.tokens.now c.loop-pending.chart.items []).left) c.deref.ensures.value in
    let few : length c.in_ok-left.left.items ≤ length c.loop-pending.pending.items =
    subst (λ edges. length edges ≤ length c.loop-pending.pending.items) (sym left_is)
    (no_more_left c.loop-pending.pending.items c.args.tokens.now c.loop-pending.chart.items) in
    grind (arith, common_steps, few)

pub loop-pending-preserved : goal.loop-pending-preserved
loop-pending-preserved c =
    let left_is = c.in_ok-left.ensures.left ∙ ap (λ p. (round_of p c.args.tokens.now c.loop-pending.chart.items []).left) c.deref.ensures.value in
    let chart_is = c.in_ok-left.ensures.added ∙ ap (λ p. (round_of p c.args.tokens.now c.loop-pending.chart.items []).chart) c.deref.ensures.value in
    subst (λ edges. Cover c.args.tokens.now edges c.in_ok-left.left.items) (sym chart_is)
    (subst (Cover c.args.tokens.now (round_of c.loop-pending.pending.items c.args.tokens.now c.loop-pending.chart.items []).chart)
    (sym left_is) (next_cover c.args.tokens.now c.loop-pending.chart.items c.loop-pending.pending.items c.loop-pending.invariant))
