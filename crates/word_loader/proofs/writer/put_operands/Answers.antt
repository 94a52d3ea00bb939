use Rattle.std.proofs.Common.{arith}
use Rattle.word_loader.proofs.Writing.{put_more}
use Rattle.word_loader.proofs.writer.put_operands.Goals as goal

pub loop-i-preserved : goal.loop-i-preserved
loop-i-preserved c =
    put_more c.args.out.now.items c.loop-i.out.items c.put_number.new.out.items c.args.operands.now c.args.numbers.now c.loop-i.i _
    c.width.result c.loop-i-test.true (omega (arith, c.told-numbers, c.requires, c.loop-i-test.true)) c.loop-i.invariant
    c.width.ensures.width c.in_ok-put_number.ensures
