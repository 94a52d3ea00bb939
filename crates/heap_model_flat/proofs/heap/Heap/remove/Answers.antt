use Rattle.std.proofs.Common.{arith, ◌≡◌, ◌+◌, ◌≤◌, Some, None, length, sym, ap, subst, unwrap_or, option_map}
use Rattle.std.proofs.lemmas.List.{length-take-le}
use Rattle.std.specs.Ordering.{nat_cmp}
use Rattle.std.specs.BTreeMap.{is_at}
use Rattle.std.proofs.lemmas.Map.Entries.{sum_by-remove_entry}
use Rattle.theory_values.specs.Heaps.{Heap, IsHeap}
use Rattle.heap_model_flat.specs.declared.span.Span.{Span}
use Rattle.heap_model_flat.specs.Blocks.{blocks_of}
use Rattle.heap_model_flat.specs.Spans.{span_words, span_at}
use Rattle.heap_model_flat.proofs.HeapLemmas.{without_block_is_heap}
use Rattle.heap_model_flat.proofs.TableLemmas.{updated_table}
use Rattle.heap_model_flat.proofs.SpanLemmas.{laid_out_without, laid_out_cut, block_cut}
use Rattle.heap_model_flat.proofs.heap.Heap.remove.Goals as goal

pub invariant_of-self-else-span-len-clause-is_heap : goal.invariant_of-self-else-span-len-clause-is_heap
invariant_of-self-else-span-len-clause-is_heap c =
    let h = c.args.self.now in
    subst (λ (b : Heap). IsHeap b)
    (sym (updated_table (span_words h.words.items) h.table.entries c.remove.new.self.entries c.args.at None c.remove.ensures.updates.0))
    (without_block_is_heap _ c.args.at h.is_heap)

pub invariant_of-self-else-span-len-clause-laid_out : goal.invariant_of-self-else-span-len-clause-laid_out
invariant_of-self-else-span-len-clause-laid_out c =
    let h = c.args.self.now in
    laid_out_without h.table.entries c.remove.new.self.entries c.args.at (length h.words.items) h.laid_out c.remove.ensures.updates.0

pub invariant_of-self-else-span-len-clause-counted : goal.invariant_of-self-else-span-len-clause-counted
invariant_of-self-else-span-len-clause-counted c =
    let h = c.args.self.now in
    let s = sum_by-remove_entry (λ (s : Span). s.len) (is_at (nat_cmp c.args.at)) h.table.entries in
    let o : span_at h.table.entries c.args.at ≡ Some c.in_ok-span.span = grind arith in
    let e = ap (λ o. unwrap_or (option_map (λ (s : Span). s.len) o) 0) o in
    rw c.remove.ensures.entries (omega (arith, s, e, h.counted))

pub invariant_of-self-then-span-len-clause-is_heap : goal.invariant_of-self-then-span-len-clause-is_heap
invariant_of-self-then-span-len-clause-is_heap c =
    let h = c.args.self.now in
    let o : span_at h.table.entries c.args.at ≡ Some c.in_ok-span.span = grind arith in
    let laid =
    laid_out_cut h.table.entries c.remove.new.self.entries c.args.at (length h.words.items) c.in_ok-span.span o (omega arith) h.laid_out
    c.remove.ensures.updates.0 in
    let b = block_cut h.words.items h.table.entries c.remove.new.self.entries c.args.at c.in_ok-span.span.start (omega arith) laid c.remove.ensures.updates.0 in
    rw c.truncate.ensures.items (subst (λ (b : Heap). IsHeap b) (sym b) (without_block_is_heap _ c.args.at h.is_heap))

pub invariant_of-self-then-span-len-clause-laid_out : goal.invariant_of-self-then-span-len-clause-laid_out
invariant_of-self-then-span-len-clause-laid_out c =
    let h = c.args.self.now in
    let o : span_at h.table.entries c.args.at ≡ Some c.in_ok-span.span = grind arith in
    let low : c.in_ok-span.span.start ≤ length h.words.items = omega arith in
    rw (c.truncate.ensures.items, length-take-le c.in_ok-span.span.start h.words.items low)
    (laid_out_cut h.table.entries c.remove.new.self.entries c.args.at (length h.words.items) c.in_ok-span.span o (omega arith) h.laid_out
    c.remove.ensures.updates.0)

pub invariant_of-self-then-span-len-clause-counted : goal.invariant_of-self-then-span-len-clause-counted
invariant_of-self-then-span-len-clause-counted c =
    let h = c.args.self.now in
    let s = sum_by-remove_entry (λ (s : Span). s.len) (is_at (nat_cmp c.args.at)) h.table.entries in
    let o : span_at h.table.entries c.args.at ≡ Some c.in_ok-span.span = grind arith in
    let e = ap (λ o. unwrap_or (option_map (λ (s : Span). s.len) o) 0) o in
    let low : c.in_ok-span.span.start ≤ length h.words.items = omega arith in
    let last : c.in_ok-span.span.start + c.in_ok-span.span.len ≡ length h.words.items = omega arith in
    rw (c.remove.ensures.entries, c.truncate.ensures.items, length-take-le c.in_ok-span.span.start h.words.items low) (omega (arith, s, e, h.counted, last))

pub returns-then-span-len-clause-removed : goal.returns-then-span-len-clause-removed
unfolding blocks_of
returns-then-span-len-clause-removed c =
    let h = c.args.self.now in
    let o : span_at h.table.entries c.args.at ≡ Some c.in_ok-span.span = grind arith in
    let laid =
    laid_out_cut h.table.entries c.remove.new.self.entries c.args.at (length h.words.items) c.in_ok-span.span o (omega arith) h.laid_out
    c.remove.ensures.updates.0 in
    let b = block_cut h.words.items h.table.entries c.remove.new.self.entries c.args.at c.in_ok-span.span.start (omega arith) laid c.remove.ensures.updates.0 in
    rw c.truncate.ensures.items b
