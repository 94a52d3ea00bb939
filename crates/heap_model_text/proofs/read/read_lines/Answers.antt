use Rattle.std.proofs.Common.{◌≡◌, ◌∷◌, ◌++◌, length, sym, ap, ◌∙◌, arith}
use Rattle.heap_model_flat.specs.Blocks.{blocks_of}
use Rattle.heap_model_text.specs.Cutting.{before_mark, from_mark}
use Rattle.heap_model_text.proofs.CutLemmas.{parts_join, from_begins, from-length, nothing_left}
use Rattle.heap_model_text.proofs.ReadLemmas.{read_nothing, read_bad, read_more, read_all, no_line_feed, no_next}
use Rattle.heap_model_text.proofs.read.read_lines.Goals as goal

pub loop-rest-init : goal.loop-rest-init
loop-rest-init c = rw c.new-heap.ensures.empty (read_nothing c.args.bytes.now)

pub returns-in_default : goal.returns-in_default
returns-in_default c =
    let l = c.loop-rest in
    let n : length (from_mark 10 l.rest.now) ≡ 0 = ap length (sym c.cut.ensures.from) ∙ c.in_default.ensures.cases in
    read_bad c.args.bytes.now l.rest.now (blocks_of l.heap) l.last l.line l.invariant
    (no_line_feed c.args.bytes.now l.rest.now (blocks_of l.heap) l.last l.line l.invariant n) (grind arith)

pub returns-in_default-2 : goal.returns-in_default-2
returns-in_default-2 c =
    let l = c.loop-rest in
    let n = rw c.in_default-2.is at c.in_ok-next.ensures in
    read_bad c.args.bytes.now l.rest.now (blocks_of l.heap) l.last l.line l.invariant
    (no_next c.args.bytes.now l.rest.now (blocks_of l.heap) l.last l.line l.invariant (λ p i. n p (rw c.cut.ensures.before i)))
    (grind arith)

pub loop-rest-smaller : goal.loop-rest-smaller
loop-rest-smaller c = omega (arith, c.in-Some.ensures.cases.1, ap length c.cut.ensures.from, from-length 10 c.loop-rest.rest.now)

pub loop-rest-preserved : goal.loop-rest-preserved
loop-rest-preserved c =
    let l = c.loop-rest in
    let next = c.in-Some-2.next in
    let f = sym c.cut.ensures.from ∙ c.in-Some.ensures.cases.0 in
    let m = from_begins 10 c.in-Some.field-0-0.now l.rest.now c.in-Some.after.now f in
    let i = rw c.in-Some-2.is at c.in_ok-next.ensures in
    let e : l.rest.now ≡ before_mark 10 l.rest.now ++ (10 ∷ c.in-Some.after.now) =
    parts_join 10 l.rest.now ∙ ap (λ t. before_mark 10 l.rest.now ++ t) (f ∙ ap (λ x. x ∷ c.in-Some.after.now) m) in
    read_more c.args.bytes.now l.rest.now (blocks_of l.heap) l.last l.line l.invariant (before_mark 10 l.rest.now) c.in-Some.after.now
    (next.at, next.block.items) (blocks_of c.put.new.self) e (rw c.cut.ensures.before at i) c.in_ok-put.ensures.ok

pub returns : goal.returns
returns c =
    let l = c.loop-rest in
    read_all c.args.bytes.now l.rest.now (blocks_of l.heap) l.last l.line l.invariant (nothing_left l.rest.now (grind arith))
