use Rattle.std.proofs.Common.{length, sym, ap, ◌∙◌, arith}
use Rattle.heap_model_text.proofs.WordLemmas.{line_told, line_parts, tails}
use Rattle.heap_model_text.proofs.line.line_of.Goals as goal

pub returns-in_default : goal.returns-in_default
returns-in_default c = λ p i.
    let parts = line_parts c.args.text.now c.args.last p i in
    c.in_default.ensures p.0 i.above i.below (c.cut.ensures.before ∙ parts.0)

pub returns-in_default-split_first : goal.returns-in_default-split_first
returns-in_default-split_first c = λ p i.
    let parts = line_parts c.args.text.now c.args.last p i in
    omega (arith, c.in_default-split_first.ensures.cases, ap length (c.cut.ensures.from ∙ parts.1))

pub returns-in-Some-2 : goal.returns-in-Some-2
returns-in-Some-2 c =
    let l = c.in-Some.ensures in
    let b = rw c.in-Some-2.is at c.in_ok-block.ensures in
    record {
      written =
          line_told c.args.text.now c.in-Some-split_first.tail.now c.in-Some-split_first.field-0-0.now c.in-Some.at c.in-Some-2.block.items
          (sym c.cut.ensures.before ∙ l.0) (sym c.cut.ensures.from ∙ c.in-Some-split_first.ensures.cases.0) b.0;
      above = l.1;
      below = l.2;
      of_words = b.1;
    }

pub returns-in-None : goal.returns-in-None
returns-in-None c = λ p i.
    let parts = line_parts c.args.text.now c.args.last p i in
    let n = rw c.in-None.is at c.in_ok-block.ensures in
    n p.1 i.of_words (tails (sym c.in-Some-split_first.ensures.cases.0 ∙ c.cut.ensures.from ∙ parts.1))
