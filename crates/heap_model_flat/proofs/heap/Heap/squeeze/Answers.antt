use Rattle.std.proofs.Common.{arith, sym, subst}
use Rattle.theory_values.specs.Heaps.{Heap, IsHeap}
use Rattle.heap_model_flat.specs.Blocks.{blocks_of}
use Rattle.heap_model_flat.proofs.MoveLemmas.{moved_total, live_length, blocks_moved, moved_laid_out}
use Rattle.heap_model_flat.proofs.heap.Heap.squeeze.Goals as goal

pub invariant_of-self : goal.invariant_of-self
invariant_of-self c =
    let h = c.args.self.now in
    let b = blocks_moved h.words.items h.table.entries h.laid_out c.move_spans.ensures.was_ordered in
    let n = live_length h.words.items h.table.entries h.laid_out.within c.move_spans.ensures.was_ordered in
    record {
      is_heap = rw (c.in_ok-words.ensures, c.move_spans.ensures.moved) (subst (λ (b : Heap). IsHeap b) (sym b) h.is_heap);
      laid_out = rw (c.in_ok-words.ensures, c.move_spans.ensures.moved) (moved_laid_out h.table.entries _ n);
      counted = rw (c.in_ok-words.ensures, c.move_spans.ensures.moved) (omega (arith, n, moved_total 0 h.table.entries));
    }

pub returns : goal.returns
unfolding blocks_of
returns c =
    let h = c.args.self.now in
    record {
      same =
          rw (c.in_ok-words.ensures, c.move_spans.ensures.moved)
          (blocks_moved h.words.items h.table.entries h.laid_out c.move_spans.ensures.was_ordered);
    }
