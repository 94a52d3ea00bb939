use Rattle.std.proofs.Common.{◌≡◌, ◌+◌, arith}
use Rattle.std.proofs.lemmas.Map.Keys.{le_from_not_gt}
use Rattle.heap_model_flat.specs.Blocks.{blocks_of}
use Rattle.heap_model_flat.specs.Spans.{span_words}
use Rattle.heap_model_flat.proofs.TableLemmas.{least_above, not_greater}
use Rattle.heap_model_flat.proofs.heap.Heap.above.Goals as goal

pub returns-in-Some : goal.returns-in-Some
unfolding blocks_of
returns-in-Some c =
    let h = c.args.self.now in
    let r = c.range.ensures.in_range tt in
    let first = rw c.in-Some.ensures.steps at r.1 in
    let least = rw c.in-Some.ensures.steps at r.2 in
    let n : c.in_ok-next.next ≡ c.args.at + 1 = grind arith in
    record {
      next =
          least_above (span_words h.words.items) h.table.entries c.args.at c.in_ok-next.next c.in-Some.location.now c.in-Some.field-0-1.now
          n (le_from_not_gt _ _ first.0.0) first.1 (λ q d s. le_from_not_gt _ _ (least q (not_greater _ _ d, tt) s));
    }
