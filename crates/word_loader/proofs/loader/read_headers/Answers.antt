use Rattle.std.proofs.Common.{◌-◌, [], ◌∷◌, ◌++◌, ◌∙◌, ap, arith}
use Rattle.std.specs.Prelude.{nat_eq}
use Rattle.std.proofs.lemmas.Result.{err_from_is_err_and}
use Rattle.word_loader_format.specs.Rows.{headers_at, header_at}
use Rattle.word_loader.proofs.Steps.{passed, failed, next_header, header_more, no_headers, header_none, one_more, none_left}
use Rattle.word_loader.proofs.loader.read_headers.Goals as goal

pub returns-in_err-header : goal.returns-in_err-header
returns-in_err-header c =
    let p = err_from_is_err_and c.from_residual.result c.from_residual.ensures.1 in
    let next = next_header c.args.file.now c.loop-i.at (nat_eq c.loop-i.i 0) c.loop-i.before c.args.count c.loop-i.i c.loop-i-test.true in
    rw (p.1, p.2) (failed c.in_err-header.field-0.0 c.loop-i.invariant.left next c.in_err-header.ensures)

pub loop-i-preserved : goal.loop-i-preserved
loop-i-preserved c =
    let next = next_header c.args.file.now c.loop-i.at (nat_eq c.loop-i.i 0) c.loop-i.before c.args.count c.loop-i.i c.loop-i-test.true in
    let left = passed c.loop-i.invariant.left next c.in_ok-header.ensures.0 in
    let more = header_more c.args.file.now c.loop-i.at c.args.count c.loop-i.i c.loop-i-test.true in
    let read = c.in_ok-header.ensures.1.0 in
    record {
      left = rw read left;
      said =
          one_more c.loop-i.headers.items c.push.new.self.items (headers_at c.args.file.now 9 c.args.count)
          (header_at c.args.file.now c.loop-i.at) _ _ c.loop-i.invariant.said more
          (c.in_ok-push.ensures.items ∙ ap (λ h. c.loop-i.headers.items ++ h ∷ []) read);
      place = omega (arith, c.loop-i.invariant.place);
      room = c.in_ok-header.ensures.1.1;
      few = c.in_ok-header.ensures.1.2;
    }

pub returns : goal.returns
returns c =
    let done = c.loop-i-test.false in
    let same = c.loop-i.auto.i-end in (
      c.loop-i.invariant.left.same
          ∙ no_headers c.args.file.now c.loop-i.at (nat_eq c.loop-i.i 0) c.loop-i.before (c.args.count - c.loop-i.i) (omega (arith, done)),
      (
        none_left c.loop-i.headers.items _ _ c.loop-i.invariant.said
            (header_none c.args.file.now c.loop-i.at (c.args.count - c.loop-i.i) (omega (arith, done))),
        omega (arith, c.loop-i.invariant.place, c.loop-i.invariant.room, done, same),
      ),
    )
