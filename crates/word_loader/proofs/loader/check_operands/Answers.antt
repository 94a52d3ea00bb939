use Rattle.std.proofs.Common.{◌∙◌, arith}
use Rattle.std.proofs.lemmas.Result.{err_from_is_err_and}
use Rattle.word_loader_format.specs.declared.table.Operand.TheVariants.{Place}
use Rattle.word_loader_format.specs.declared.table.Words.TheVariants.{One}
use Rattle.word_loader.specs.Answers.{site_seen}
use Rattle.word_loader.proofs.Steps.{passed, failed, next_operand, width_more, no_operands, width_none}
use Rattle.word_loader.proofs.loader.check_operands.Goals as goal

pub returns-in_err-place : goal.returns-in_err-place
returns-in_err-place c =
    let p = err_from_is_err_and c.from_residual.result c.from_residual.ensures.1 in
    let next =
    next_operand c.args.file.now (site_seen c.args.site.now) c.loop-operand.place c.args.operands.now c.loop-operand.operand-index
    (Place One) c.loop-operand-test.true in
    rw (p.1, p.2) (failed c.in_err-place.field-0.0 c.loop-operand.invariant.left next c.in_err-place.ensures)

pub loop-operand-preserved : goal.loop-operand-preserved
loop-operand-preserved c =
    let next =
    next_operand c.args.file.now (site_seen c.args.site.now) c.loop-operand.place c.args.operands.now c.loop-operand.operand-index
    (Place One) c.loop-operand-test.true in
    let width = width_more c.args.operands.now c.loop-operand.operand-index (Place One) c.loop-operand-test.true in
    record {
      left = rw c.in_ok-place.ensures.1.0 (passed c.loop-operand.invariant.left next c.in_ok-place.ensures.0);
      width = omega (arith, width, c.loop-operand.invariant.width, c.in_ok-place.ensures.1.0);
      room = c.in_ok-place.ensures.1.1;
    }

pub returns : goal.returns
returns c = (
  c.loop-operand.invariant.left.same
      ∙ no_operands c.args.file.now (site_seen c.args.site.now) c.loop-operand.place c.args.operands.now c.loop-operand.operand-index
      c.loop-operand-test.false,
  (
    omega (arith, c.loop-operand.invariant.width, width_none c.args.operands.now c.loop-operand.operand-index c.loop-operand-test.false),
    c.loop-operand.invariant.room,
  ),
)
