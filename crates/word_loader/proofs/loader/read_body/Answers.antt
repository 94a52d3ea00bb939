use Rattle.std.proofs.Common.{◌-◌, ◌≡◌, [], ◌∷◌, ◌++◌, ◌∙◌, sym, ap, arith}
use Rattle.std.proofs.lemmas.Result.{err_from_is_err_and}
use Rattle.word_loader_format.specs.Reading.{instr_in, body_in}
use Rattle.word_loader.proofs.Steps.{passed, failed, next_instr, instr_more, after_more, no_instrs, instr_none, after_none, one_more, none_left}
use Rattle.word_loader.proofs.loader.read_body.Goals as goal

pub returns-in_err-instr : goal.returns-in_err-instr
returns-in_err-instr c =
    let p = err_from_is_err_and c.from_residual.result c.from_residual.ensures.1 in
    let next = next_instr c.args.file.now c.args.version c.args.headers.now c.args.own c.loop-i.place c.args.own.count c.loop-i.i c.loop-i-test.true in
    rw (p.1, p.2) (failed c.in_err-instr.field-0.0 c.loop-i.invariant.left next c.in_err-instr.ensures)

pub loop-i-preserved : goal.loop-i-preserved
loop-i-preserved c =
    let file = c.args.file.now in
    let version = c.args.version in
    let count = c.args.own.count in
    let next = next_instr file version c.args.headers.now c.args.own c.loop-i.place count c.loop-i.i c.loop-i-test.true in
    let left = passed c.loop-i.invariant.left next c.in_ok-instr.ensures.0 in
    let is = c.in_ok-instr.ensures.1 in
    let more = instr_more file version c.loop-i.place count c.loop-i.i c.loop-i-test.true in
    record {
      left = rw is.next left;
      said =
          rw is.next (one_more c.loop-i.body.items c.push.new.self.items (body_in file version c.args.at count)
          (instr_in file version c.loop-i.place) _ _ c.loop-i.invariant.said more
          (c.in_ok-push.ensures.items ∙ ap (λ i. c.loop-i.body.items ++ i ∷ []) is.instr));
      next = rw is.next (sym (after_more file version c.loop-i.place count c.loop-i.i c.loop-i-test.true) ∙ c.loop-i.invariant.next);
      room = is.within;
    }

pub returns : goal.returns
returns c =
    let file = c.args.file.now in
    let version = c.args.version in
    let none : c.args.own.count - c.loop-i.i ≡ 0 = omega (arith, c.loop-i-test.false) in (
      c.loop-i.invariant.left.same
          ∙ no_instrs file version c.args.headers.now c.args.own c.loop-i.place (c.args.own.count - c.loop-i.i) none,
      (
        none_left c.loop-i.body.items _ _ c.loop-i.invariant.said
            (instr_none file version c.loop-i.place (c.args.own.count - c.loop-i.i) none),
        sym (after_none file version c.loop-i.place (c.args.own.count - c.loop-i.i) none) ∙ c.loop-i.invariant.next,
        c.loop-i.invariant.room,
      ),
    )
