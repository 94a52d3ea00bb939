use Rattle.std.proofs.Common.{arith}
use Rattle.word_loader.proofs.PartLemmas.{no_numbers, next_number, next_width, all_numbers}
use Rattle.word_loader.proofs.parts.numbers_at.Goals as goal

pub loop-i-init : goal.loop-i-init
loop-i-init c = record { made = no_numbers c.args.file.now c.args.at; place = omega arith; near = omega arith }

pub loop-i-preserved : goal.loop-i-preserved
loop-i-preserved c = record {
  made =
      next_number c.args.file.now c.args.at c.args.operands.now c.loop-i.i _ c.loop-i.numbers c.loop-i.place c.width.result
      c.number_at.result c.requires.few c.loop-i-test.true c.loop-i.invariant.made c.loop-i.invariant.place c.width.ensures.width
      c.number_at.ensures.value;
  place =
      next_width c.args.operands.now c.loop-i.i _ c.loop-i.place c.args.at c.width-place.result c.loop-i-test.true c.loop-i.invariant.place
      c.width-place.ensures.width;
  near = omega (arith, c.loop-i.invariant.near, c.width-place.ensures.narrow);
}

pub returns : goal.returns
returns c =
    all_numbers c.args.file.now c.args.at c.args.operands.now c.loop-i.i c.loop-i.numbers c.loop-i.auto.i-end c.loop-i-test.false
    c.loop-i.invariant.made
