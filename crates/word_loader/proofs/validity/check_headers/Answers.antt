use Rattle.std.proofs.Common.{◌∙◌, sym}
use Rattle.std.proofs.lemmas.Result.{err_from_is_err_and}
use Rattle.std.specs.Prelude.{nat_eq}
use Rattle.word_loader.proofs.Steps.{passed, failed}
use Rattle.word_loader.proofs.ValiditySteps.{next_function, no_functions, few_after}
use Rattle.word_loader.proofs.validity.check_headers.Goals as goal

pub returns-in_err-check_header : goal.returns-in_err-check_header
returns-in_err-check_header c =
    let p = err_from_is_err_and c.from_residual.result c.from_residual.ensures.1 in
    let cut =
    next_function c.args.functions.now c.loop-i.i c.index-functions-i.result c.header_of-header.result (nat_eq c.loop-i.i 0) c.loop-i.before
    c.loop-i-test.true c.index-functions-i.is c.header_of-header.ensures in
    rw (p.1, p.2) (sym (failed c.in_err-check_header.field-0.0 c.loop-i.invariant.left cut (sym c.in_err-check_header.ensures)))

pub loop-i-preserved : goal.loop-i-preserved
loop-i-preserved c =
    let cut =
    next_function c.args.functions.now c.loop-i.i c.index-functions-i.result c.header_of-header.result (nat_eq c.loop-i.i 0) c.loop-i.before
    c.loop-i-test.true c.index-functions-i.is c.header_of-header.ensures in
    let met = sym c.in_ok-check_header.ensures in
    record { left = passed c.loop-i.invariant.left cut met; few = few_after 0 c.loop-i.before (nat_eq c.loop-i.i 0) c.header_of-header.result met }

pub returns : goal.returns
returns c = sym (c.loop-i.invariant.left.same ∙ no_functions c.args.functions.now c.loop-i.i (nat_eq c.loop-i.i 0) c.loop-i.before c.loop-i-test.false)
