use Rattle.heap_model_flat.specs.Blocks.{blocks_of}
use Rattle.heap_model_flat.specs.Spans.{span_words}
use Rattle.heap_model_flat.proofs.TableLemmas.{greatest_of, not_less}
use Rattle.heap_model_flat.proofs.heap.Heap.greatest.Goals as goal

pub returns-in-Some : goal.returns-in-Some
unfolding blocks_of
returns-in-Some c =
    let h = c.args.self.now in
    let r = c.in-Some.ensures in
    record {
      greatest =
          greatest_of (span_words h.words.items) h.table.entries c.in-Some.location.now c.in-Some.field-0-1.now r.value
          (λ q s. not_less _ _ (r.greatest q s));
    }
