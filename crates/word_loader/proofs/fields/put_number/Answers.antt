use Rattle.std.proofs.Common.{◌-◌, ◌++◌, ap, sym, ◌∙◌, arith, append-nil}
use Rattle.word_loader.proofs.FieldLemmas.{put_next, little_endian-none}
use Rattle.word_loader.proofs.fields.put_number.Goals as goal

pub loop-preserved : goal.loop-preserved
loop-preserved c =
    put_next c.loop.out.items c.push.new.self.items c.args.width c.loop.counter c.loop.rest c.loop-test.true c.in_ok-push.ensures.items ∙ c.loop.invariant

pub returns : goal.returns
returns c =
    sym (append-nil c.loop.out.items)
    ∙ ap (λ t. c.loop.out.items ++ t)
    (sym (little_endian-none (c.args.width - c.loop.counter) c.loop.rest (omega (arith, c.loop-test.false))))
    ∙ c.loop.invariant
