use Rattle.std.proofs.Common.{◌+◌, ◌*◌, List, refl, sym, ap, ◌∙◌}
use Rattle.std.proofs.lemmas.Result.{err_from_is_err_and}
use Rattle.word_loader_code.specs.declared.code.Function.{Function}
use Rattle.word_loader_format.specs.Rows.{file_tests}
use Rattle.word_loader.proofs.Steps.{passed, failed, stopped}
use Rattle.word_loader.proofs.Instrs.{itself}
use Rattle.word_loader.proofs.Files.{IsOpened, opening_cut, headers_cut, bodies_cut, end_cut, code_is}
use Rattle.word_loader.proofs.loader.read_code.Goals as goal

pub returns-in_err-opening : goal.returns-in_err-opening
returns-in_err-opening c =
    let p = err_from_is_err_and c.from_residual.result c.from_residual.ensures.1 in
    rw (p.1, p.2) (failed c.in_err-opening.field-0.0 (itself (file_tests c.args.file.now)) (opening_cut c.args.file.now) c.in_err-opening.ensures)

pub returns-in_err-headers : goal.returns-in_err-headers
returns-in_err-headers c =
    let p = err_from_is_err_and c.from_residual-in_err-headers.result c.from_residual-in_err-headers.ensures.1 in
    let file = c.args.file.now in
    let opening = c.in_ok-opening.ensures in
    let opened = passed (itself (file_tests file)) (opening_cut file) opening.0 in
    rw (p.1, p.2) (stopped _ _ c.in_err-headers.field-0.0 opened (headers_cut file c.in_ok-opening.opening.count opening.1.1) c.in_err-headers.ensures)

pub returns-in_err-functions : goal.returns-in_err-functions
returns-in_err-functions c =
    let p = err_from_is_err_and c.from_residual-in_err-functions.result c.from_residual-in_err-functions.ensures.1 in
    let file = c.args.file.now in
    let opening = c.in_ok-opening.ensures in
    let count = c.in_ok-opening.opening.count in
    let version = c.in_ok-opening.opening.version in
    let opened = passed (itself (file_tests file)) (opening_cut file) opening.0 in
    let headed = passed opened (headers_cut file count opening.1.1) c.in_ok-headers.ensures.0 in
    let is : IsOpened file count version (9 + 10 * count) c.as_slice.result.now = record {
      count_is = opening.1.1;
      version_is = opening.1.0;
      first_is = refl;
      headers_are = c.as_slice.ensures.value ∙ c.in_ok-headers.ensures.1.0;
    } in
    rw (p.1, p.2) (stopped _ _ c.in_err-functions.field-0.0 headed (bodies_cut is) c.in_err-functions.ensures)

pub returns-in_err-rule : goal.returns-in_err-rule
returns-in_err-rule c =
    let p = err_from_is_err_and c.from_residual-in_err-rule.result c.from_residual-in_err-rule.ensures.1 in
    let file = c.args.file.now in
    let opening = c.in_ok-opening.ensures in
    let count = c.in_ok-opening.opening.count in
    let version = c.in_ok-opening.opening.version in
    let opened = passed (itself (file_tests file)) (opening_cut file) opening.0 in
    let headed = passed opened (headers_cut file count opening.1.1) c.in_ok-headers.ensures.0 in
    let is : IsOpened file count version (9 + 10 * count) c.as_slice.result.now = record {
      count_is = opening.1.1;
      version_is = opening.1.0;
      first_is = refl;
      headers_are = c.as_slice.ensures.value ∙ c.in_ok-headers.ensures.1.0;
    } in
    let bodied = passed headed (bodies_cut is) c.in_ok-functions.ensures.0 in
    rw (p.1, p.2) (failed c.in_err-rule.field-0.0 bodied (end_cut c.in_ok-functions.end is c.in_ok-functions.ensures.1.1) (sym c.in_err-rule.ensures))

pub returns : goal.returns
returns c =
    let file = c.args.file.now in
    let opening = c.in_ok-opening.ensures in
    let count = c.in_ok-opening.opening.count in
    let version = c.in_ok-opening.opening.version in
    let opened = passed (itself (file_tests file)) (opening_cut file) opening.0 in
    let headed = passed opened (headers_cut file count opening.1.1) c.in_ok-headers.ensures.0 in
    let is : IsOpened file count version (9 + 10 * count) c.as_slice.result.now = record {
      count_is = opening.1.1;
      version_is = opening.1.0;
      first_is = refl;
      headers_are = c.as_slice.ensures.value ∙ c.in_ok-headers.ensures.1.0;
    } in
    let bodied = passed headed (bodies_cut is) c.in_ok-functions.ensures.0 in
    let ended = passed bodied (end_cut c.in_ok-functions.end is c.in_ok-functions.ensures.1.1) (sym c.in_ok-rule.ensures) in (
      ended.same,
      ap (λ (fs : List Function). record { version = version; functions = fs }) (c.of.ensures.same_items ∙ c.in_ok-functions.ensures.1.0)
          ∙ code_is is,
    )
