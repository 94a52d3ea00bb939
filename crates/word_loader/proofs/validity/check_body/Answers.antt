use Rattle.std.proofs.Common.{◌∙◌, length, sym, ap, arith}
use Rattle.std.proofs.lemmas.Result.{err_from_is_err_and}
use Rattle.word_loader_code.specs.declared.code.Instr.TheVariants.{Const}
use Rattle.word_loader.proofs.Steps.{passed, failed}
use Rattle.word_loader.proofs.ValiditySteps.{next_instr, no_instrs}
use Rattle.word_loader.proofs.validity.check_body.Goals as goal

pub returns-in_err-check_instr : goal.returns-in_err-check_instr
returns-in_err-check_instr c =
    let p = err_from_is_err_and c.from_residual.result c.from_residual.ensures.1 in
    let cut =
    next_instr c.args.code.now c.args.function.now c.args.function.now.body c.as_slice-body.result.now c.loop-i.i (Const 0 0)
    c.as_slice-body.ensures.same_items c.loop-i-test.true in
    rw (p.1, p.2) (sym (failed c.in_err-check_instr.field-0.0 c.loop-i.invariant cut (sym c.in_err-check_instr.ensures)))

pub loop-i-preserved : goal.loop-i-preserved
loop-i-preserved c =
    let cut =
    next_instr c.args.code.now c.args.function.now c.args.function.now.body c.as_slice-body.result.now c.loop-i.i (Const 0 0)
    c.as_slice-body.ensures.same_items c.loop-i-test.true in
    passed c.loop-i.invariant cut (sym c.in_ok-check_instr.ensures)

pub returns : goal.returns
returns c =
    sym (c.loop-i.invariant.same
    ∙ no_instrs c.args.code.now c.args.function.now c.args.function.now.body c.loop-i.i
    (omega (arith, ap length c.as_slice-body.ensures.same_items, c.loop-i-test.false)))
