use Rattle.std.proofs.Common.{◌∙◌, sym, arith}
use Rattle.std.proofs.lemmas.Result.{err_from_is_err_and}
use Rattle.word_loader_format.specs.declared.table.Operand.TheVariants.{Place}
use Rattle.word_loader_format.specs.declared.table.Words.TheVariants.{One}
use Rattle.word_loader.specs.Answers.{site_seen}
use Rattle.word_loader.proofs.Steps.{passed, failed}
use Rattle.word_loader.proofs.ValiditySteps.{next_part, no_parts}
use Rattle.word_loader.proofs.validity.check_parts.Goals as goal

pub returns-in_err-check_operand : goal.returns-in_err-check_operand
returns-in_err-check_operand c =
    let p = err_from_is_err_and c.from_residual.result c.from_residual.ensures.1 in
    let cut =
    next_part (site_seen c.args.site.now) c.args.operands.now c.args.site.now.numbers.now c.loop-i.i (Place One) c.loop-i-test.true
    (omega (arith, c.requires, c.loop-i-test.true)) in
    rw (p.1, p.2) (sym (failed c.in_err-check_operand.field-0.0 c.loop-i.invariant cut (sym c.in_err-check_operand.ensures)))

pub loop-i-preserved : goal.loop-i-preserved
loop-i-preserved c =
    let cut =
    next_part (site_seen c.args.site.now) c.args.operands.now c.args.site.now.numbers.now c.loop-i.i (Place One) c.loop-i-test.true
    (omega (arith, c.requires, c.loop-i-test.true)) in
    passed c.loop-i.invariant cut (sym c.in_ok-check_operand.ensures)

pub returns : goal.returns
returns c = sym (c.loop-i.invariant.same ∙ no_parts (site_seen c.args.site.now) c.args.operands.now c.args.site.now.numbers.now c.loop-i.i c.loop-i-test.false)
