use Rattle.std.proofs.Common.{List, [], ◌∷◌, ◌++◌, get_or, ◌∙◌, sym, ap}
use Rattle.std.proofs.lemmas.Result.{err_from_is_err_and}
use Rattle.word_loader_code.specs.declared.code.Instr.{Instr}
use Rattle.word_loader_format.specs.declared.rows.Header.{Header}
use Rattle.word_loader_format.specs.Reading.{function_at, functions_at}
use Rattle.word_loader.proofs.Steps.{passed, stopped, next_body, function_more, after_function, no_bodies, function_none, after_last, one_more, none_left}
use Rattle.word_loader.proofs.loader.read_functions.Goals as goal

pub returns-in_err-body : goal.returns-in_err-body
returns-in_err-body c =
    let p = err_from_is_err_and c.from_residual.result c.from_residual.ensures.1 in
    let hs = c.args.headers.now in
    let cut =
    next_body c.args.file.now c.args.version hs c.loop-header.place hs c.loop-header.header-index
    (record { params = 0; locals = 0; result = 0; count = 0 }) c.loop-header-test.true in
    rw (p.1, p.2) (stopped _ _ c.in_err-body.field-0.0 c.loop-header.invariant.left cut c.in_err-body.ensures)

pub loop-header-preserved : goal.loop-header-preserved
loop-header-preserved c =
    let file = c.args.file.now in
    let version = c.args.version in
    let hs = c.args.headers.now in
    let blank : Header = record { params = 0; locals = 0; result = 0; count = 0 } in
    let at = c.loop-header.place in
    let i = c.loop-header.header-index in
    let here = c.loop-header-test.true in
    let h : Header = get_or hs i blank in
    let is = c.in_ok-body.ensures in
    let left = passed c.loop-header.invariant.left (next_body file version hs at hs i blank here) is.0 in
    let body = c.of.ensures.same_items ∙ is.1.0 in
    let push =
    c.in_ok-push.ensures.items
    ∙ ap
    (λ (b : List Instr). c.loop-header.functions.items ++ record { params = h.params; locals = h.locals; result = h.result; body = b } ∷ [])
    body in
    record {
      left = rw is.1.1 left;
      said =
          rw is.1.1 (one_more c.loop-header.functions.items c.push.new.self.items (functions_at file version c.args.at hs)
          (function_at file version at h) _ _ c.loop-header.invariant.said (function_more file version at hs i blank here) push);
      next = rw is.1.1 (sym (after_function file version at hs i blank here) ∙ c.loop-header.invariant.next);
      room = is.1.2;
    }

pub returns : goal.returns
returns c =
    let file = c.args.file.now in
    let version = c.args.version in
    let hs = c.args.headers.now in
    let done = c.loop-header-test.false in (
      c.loop-header.invariant.left.same ∙ no_bodies file version hs c.loop-header.place hs c.loop-header.header-index done,
      (
        none_left c.loop-header.functions.items _ _ c.loop-header.invariant.said
            (function_none file version c.loop-header.place hs c.loop-header.header-index done),
        sym (after_last file version c.loop-header.place hs c.loop-header.header-index done) ∙ c.loop-header.invariant.next,
      ),
    )
