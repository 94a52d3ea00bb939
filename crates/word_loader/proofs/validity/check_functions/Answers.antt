use Rattle.std.proofs.Common.{true, ◌∙◌, sym}
use Rattle.std.proofs.lemmas.Result.{err_from_is_err_and}
use Rattle.word_loader_format.proofs.Tests.{checked_after, checked_before}
use Rattle.word_loader.specs.Validity.{code_headers_tests, code_bodies_tests}
use Rattle.word_loader.proofs.validity.check_functions.Goals as goal

pub returns-in_err-check_headers : goal.returns-in_err-check_headers
returns-in_err-check_headers c =
    let p = err_from_is_err_and c.from_residual.result c.from_residual.ensures.1 in
    rw (p.1, p.2) (sym (checked_before (code_headers_tests true 0 c.args.functions.now)
    (code_bodies_tests c.args.code.now c.args.functions.now) c.in_err-check_headers.field-0.0 (sym c.in_err-check_headers.ensures)))

pub returns : goal.returns
returns c =
    c.check_bodies.ensures
    ∙ sym (checked_after (code_headers_tests true 0 c.args.functions.now) (code_bodies_tests c.args.code.now c.args.functions.now)
    (sym c.in_ok-check_headers.ensures))
