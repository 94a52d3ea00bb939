use Rattle.std.proofs.Common.{string_bytes}
use Rattle.heap_model_flat.specs.Blocks.{blocks_of}
use Rattle.heap_model_flat.proofs.BlockLemmas.{blocks_are_heap}
use Rattle.heap_model_text.proofs.WriteLemmas.{written_nothing, written_more, written_all}
use Rattle.heap_model_text.proofs.write.write_heap.Goals as goal

pub loop-at-init : goal.loop-at-init
loop-at-init c = rw c.new-text.ensures.bytes (written_nothing (blocks_of c.args.heap.now) (blocks_are_heap c.args.heap.now))

pub loop-at-preserved : goal.loop-at-preserved
loop-at-preserved c =
    let next = c.in-Some.ensures.next in
    let line = c.in_ok-push_line.ensures next.in_use.0 next.in_use.1 in
    rw line (written_more (blocks_of c.args.heap.now) c.loop-at.last (string_bytes c.loop-at.text) c.loop-at.invariant c.in-Some.at
    next.in_use.0 next next.in_use.1)

pub returns : goal.returns
returns c = record {
  text =
      rw c.into_bytes.ensures.value
      (written_all (blocks_of c.args.heap.now) c.loop-at.last (string_bytes c.loop-at.text) c.loop-at.invariant c.in_default.ensures.next);
}
