use Rattle.std.proofs.Common.{◌∙◌, sym}
use Rattle.std.proofs.lemmas.Result.{err_from_is_err_and}
use Rattle.word_loader.proofs.Steps.{passed, failed}
use Rattle.word_loader.proofs.ValiditySteps.{next_body, no_bodies}
use Rattle.word_loader.proofs.validity.check_bodies.Goals as goal

pub returns-in_err-check_body : goal.returns-in_err-check_body
returns-in_err-check_body c =
    let p = err_from_is_err_and c.from_residual.result c.from_residual.ensures.1 in
    let cut =
    next_body c.args.code.now c.args.functions.now c.loop-function.function-index c.function-item.result c.loop-function-test.true
    c.function-item.is in
    rw (p.1, p.2) (sym (failed c.in_err-check_body.field-0.0 c.loop-function.invariant cut (sym c.in_err-check_body.ensures)))

pub loop-function-preserved : goal.loop-function-preserved
loop-function-preserved c =
    let cut =
    next_body c.args.code.now c.args.functions.now c.loop-function.function-index c.function-item.result c.loop-function-test.true
    c.function-item.is in
    passed c.loop-function.invariant cut (sym c.in_ok-check_body.ensures)

pub returns : goal.returns
returns c = sym (c.loop-function.invariant.same ∙ no_bodies c.args.code.now c.args.functions.now c.loop-function.function-index c.loop-function-test.false)
