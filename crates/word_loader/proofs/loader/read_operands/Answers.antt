use Rattle.std.proofs.Common.{◌+◌, ◌∙◌, ap, sym}
use Rattle.std.proofs.lemmas.Result.{err_from_is_err_and}
use Rattle.word_loader_format.specs.Table.{operands_of}
use Rattle.word_loader_format.specs.Rows.{checked, whole_test, operands_tests, site_at, width_all}
use Rattle.word_loader_format.proofs.Tests.{checked_after}
use Rattle.word_loader.proofs.Instrs.{operands_same, instr_same}
use Rattle.word_loader.proofs.loader.read_operands.Goals as goal

pub returns-in_err-next : goal.returns-in_err-next
returns-in_err-next c =
    let p = err_from_is_err_and c.from_residual-in_err-next.result c.from_residual-in_err-next.ensures.1 in
    let file = c.args.file.now in
    let op = c.args.opcode in
    let same =
    operands_same file c.args.headers.now c.args.own c.args.at op c.operands-operands.result.now c.numbers_at-numbers.result
    c.callee_of.result c.operands-operands.ensures.kinds c.numbers_at-numbers.ensures c.callee_of.ensures in
    rw (p.1, p.2) (checked_after (whole_test file c.args.at op)
    (operands_tests file (site_at file c.args.headers.now c.args.own c.args.at op) c.args.at (operands_of op))
    (sym c.in_ok-check_whole.ensures)
    ∙ ap checked (sym same)
    ∙ c.in_err-next.ensures)

pub returns : goal.returns
returns c =
    let file = c.args.file.now in
    let op = c.args.opcode in
    let kinds = c.operands-operands.ensures.kinds in
    let same =
    operands_same file c.args.headers.now c.args.own c.args.at op c.operands-operands.result.now c.numbers_at-numbers.result
    c.callee_of.result kinds c.numbers_at-numbers.ensures c.callee_of.ensures in (
      checked_after (whole_test file c.args.at op)
          (operands_tests file (site_at file c.args.headers.now c.args.own c.args.at op) c.args.at (operands_of op))
          (sym c.in_ok-check_whole.ensures)
          ∙ ap checked (sym same)
          ∙ c.in_ok-next.ensures.0,
      (
        c.instr_of.ensures
            ∙ instr_same file c.args.at op c.operands-operands.result.now c.numbers_at-numbers.result kinds c.numbers_at-numbers.ensures,
        c.in_ok-next.ensures.1.0 ∙ ap (λ os. c.args.at + width_all os) kinds,
        c.in_ok-next.ensures.1.1,
      ),
    )
