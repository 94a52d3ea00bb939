use Rattle.std.proofs.Common.{arith, ◌≡◌, Some, length, sym, ap, ◌∙◌, subst, option_map}
use Rattle.std.proofs.lemmas.List.Elements.{All-from_get_or}
use Rattle.theory_values.specs.Values.{IsWord}
use Rattle.theory_values.specs.Heaps.{Heap, IsHeap}
use Rattle.heap_model_flat.specs.Blocks.{blocks_of}
use Rattle.heap_model_flat.specs.Spans.{span_words, span_at, with_span_words}
use Rattle.heap_model_flat.proofs.HeapLemmas.{with_block_is_heap}
use Rattle.heap_model_flat.proofs.WriteLemmas.{taken_back, block_written, still_laid_out, same_count}
use Rattle.heap_model_flat.proofs.heap.Heap.write.Goals as goal

pub invariant_of-self-clause-is_heap : goal.invariant_of-self-clause-is_heap
invariant_of-self-clause-is_heap c =
    let h = c.args.self.now in
    let s = c.in-Some.span in
    let here : span_at h.table.entries c.args.at ≡ Some s = grind arith in
    let within = h.laid_out.within c.args.at s here in
    let e = c.overwrite.ensures ∙ ap (λ w. with_span_words w s c.args.words.now) c.deref_mut.ensures.value in
    let n : length c.overwrite.new.all ≡ h.words.len =
    omega (arith, ap length e, same_count h.words.items c.args.words.now s within (sym c.if-span-words.false), h.words.ok.0) in
    let words = All-from_get_or IsWord c.args.words.now 0 (λ i l. omega (arith, c.type_inv.words i)) in
    let low = h.is_heap.above_zero c.args.at _ (ap (option_map (span_words h.words.items)) here) in
    let w = block_written h.words.items c.args.words.now s within (sym c.if-span-words.false) h.table.entries c.args.at here h.laid_out in
    rw (taken_back h.words.items c.overwrite.new.all h.words.len n, e)
    (subst (λ (b : Heap). IsHeap b) (sym w) (with_block_is_heap _ c.args.at _ h.is_heap low c.ranges.at.fits words))

pub invariant_of-self-clause-laid_out : goal.invariant_of-self-clause-laid_out
invariant_of-self-clause-laid_out c =
    let h = c.args.self.now in
    let s = c.in-Some.span in
    let here : span_at h.table.entries c.args.at ≡ Some s = grind arith in
    let within = h.laid_out.within c.args.at s here in
    let e = c.overwrite.ensures ∙ ap (λ w. with_span_words w s c.args.words.now) c.deref_mut.ensures.value in
    let n : length c.overwrite.new.all ≡ h.words.len =
    omega (arith, ap length e, same_count h.words.items c.args.words.now s within (sym c.if-span-words.false), h.words.ok.0) in
    rw (taken_back h.words.items c.overwrite.new.all h.words.len n, e)
    (still_laid_out h.words.items c.args.words.now s within (sym c.if-span-words.false) h.table.entries h.laid_out)

pub invariant_of-self-clause-counted : goal.invariant_of-self-clause-counted
invariant_of-self-clause-counted c =
    let h = c.args.self.now in
    let s = c.in-Some.span in
    let here : span_at h.table.entries c.args.at ≡ Some s = grind arith in
    let within = h.laid_out.within c.args.at s here in
    let e = c.overwrite.ensures ∙ ap (λ w. with_span_words w s c.args.words.now) c.deref_mut.ensures.value in
    let n : length c.overwrite.new.all ≡ h.words.len =
    omega (arith, ap length e, same_count h.words.items c.args.words.now s within (sym c.if-span-words.false), h.words.ok.0) in
    rw (taken_back h.words.items c.overwrite.new.all h.words.len n) (omega (arith, n, h.words.ok.0, h.counted))

pub returns-clause-written : goal.returns-clause-written
unfolding blocks_of
returns-clause-written c =
    let h = c.args.self.now in
    let s = c.in-Some.span in
    let here : span_at h.table.entries c.args.at ≡ Some s = grind arith in
    let within = h.laid_out.within c.args.at s here in
    let e = c.overwrite.ensures ∙ ap (λ w. with_span_words w s c.args.words.now) c.deref_mut.ensures.value in
    let n : length c.overwrite.new.all ≡ h.words.len =
    omega (arith, ap length e, same_count h.words.items c.args.words.now s within (sym c.if-span-words.false), h.words.ok.0) in
    rw (taken_back h.words.items c.overwrite.new.all h.words.len n, e)
    (block_written h.words.items c.args.words.now s within (sym c.if-span-words.false) h.table.entries c.args.at here h.laid_out)
