use Rattle.std.proofs.Common.{◌<◌, ◌^◌, sym, ◌∙◌, arith, rules}
use Rattle.std.proofs.lemmas.Fmt.{decimal_injective}
use Rattle.heap_model_text.proofs.line.location_of.Goals as goal

pub returns-in_default : goal.returns-in_default
returns-in_default c = λ l above below e.
    let f : c.in-Some.at < 2 ^ 64 = search rules in
    let d = decimal_injective c.in-Some.at l f (omega (arith, below)) (sym c.in-Some.ensures ∙ e) in
    omega (arith, d, below, c.if-at-lt-LIMIT.false)

pub returns-in_default-2 : goal.returns-in_default-2
returns-in_default-2 c = λ l above below e.
    let f : c.in-Some.at < 2 ^ 64 = search rules in
    let d = decimal_injective c.in-Some.at l f (omega (arith, below)) (sym c.in-Some.ensures ∙ e) in
    omega (arith, d, above, c.if-last-at.false)
