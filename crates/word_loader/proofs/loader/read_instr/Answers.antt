use Rattle.std.proofs.lemmas.Result.{err_from_is_err_and}
use Rattle.word_loader_format.specs.Rows.{instr_tests}
use Rattle.word_loader.proofs.Steps.{failed}
use Rattle.word_loader.proofs.Instrs.{itself, after_opcode, whole_instr}
use Rattle.word_loader.proofs.loader.read_instr.Goals as goal

pub returns-in_err-opcode : goal.returns-in_err-opcode
returns-in_err-opcode c =
    let p = err_from_is_err_and c.from_residual.result c.from_residual.ensures.1 in
    let a = c.args in
    rw (p.1, p.2) (failed c.in_err-opcode.field-0.0 (itself (instr_tests a.file.now a.version a.headers.now a.own a.is_last a.at))
    (after_opcode a.file.now a.version a.headers.now a.own a.is_last a.at) c.in_err-opcode.ensures)

pub returns : goal.returns
returns c =
    let a = c.args in
    let is = c.in_ok-opcode.ensures in
    whole_instr a.file.now a.version a.headers.now a.own a.is_last a.at c.in_ok-opcode.opcode c.read_operands.result is.1.0 is.0 c.read_operands.ensures
