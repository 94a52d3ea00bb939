use Rattle.std.proofs.Common.{arith, ◌≡◌, ◌∙◌, ℕ, cond, ◌++◌, List, length, Some, sym, ap, subst, unwrap_or, option_map, length-append}
use Rattle.std.specs.Ordering.{nat_cmp}
use Rattle.std.specs.BTreeMap.{is_at}
use Rattle.std.specs.Cmp.{nat_cmp_total}
use Rattle.std.proofs.lemmas.List.Elements.{All-from_get_or}
use Rattle.std.proofs.lemmas.Map.Entries.{sum_by-insert_entry}
use Rattle.theory_values.specs.Values.{IsWord}
use Rattle.theory_values.specs.Heaps.{Heap, IsHeap}
use Rattle.heap_model_flat.specs.declared.span.Span.{Span}
use Rattle.heap_model_flat.specs.Spans.{span_at, span_from}
use Rattle.heap_model_flat.specs.Blocks.{blocks_of}
use Rattle.heap_model_flat.proofs.HeapLemmas.{with_block_is_heap}
use Rattle.heap_model_flat.proofs.SpanLemmas.{laid_out_with, block_appended}
use Rattle.heap_model_flat.proofs.heap.Heap.append.Goals as goal

-- the span that is put is the one of the words that were appended
put_is : (old new : List (ℕ × Span)) (k : ℕ) (s t : Span)
    → s ≡ t
    → ((q : ℕ) → span_at new q ≡ cond (is_at (nat_cmp k) q) (Some s) (span_at old q))
    → (q : ℕ)
    → span_at new q ≡ cond (is_at (nat_cmp k) q) (Some t) (span_at old q)
put_is old new k s t e u = subst (λ (x : Span). (q : ℕ) → span_at new q ≡ cond (is_at (nat_cmp k) q) (Some x) (span_at old q)) e u

pub invariant_of-self-in-Ok-clause-is_heap : goal.invariant_of-self-in-Ok-clause-is_heap
invariant_of-self-in-Ok-clause-is_heap c =
    let h = c.args.self.now in
    let e : c.extend_from_slice.new.self.items ≡ h.words.items ++ c.args.block.now = grind arith in
    let s : c.new.result ≡ span_from (length h.words.items) (length c.args.block.now) = grind arith in
    let words = All-from_get_or IsWord c.args.block.now 0 (λ i l. omega (arith, c.type_inv.block i)) in
    let b =
    block_appended h.words.items c.args.block.now h.table.entries c.insert.new.self.entries c.args.at h.laid_out
    (put_is _ _ _ _ _ s c.in-Ok.ensures.updates.0) in
    rw e (subst (λ (k : Heap). IsHeap k) (sym b) (with_block_is_heap _ c.args.at _ h.is_heap c.requires c.ranges.at.fits words))

pub invariant_of-self-in-Ok-clause-laid_out : goal.invariant_of-self-in-Ok-clause-laid_out
invariant_of-self-in-Ok-clause-laid_out c =
    let h = c.args.self.now in
    let e : c.extend_from_slice.new.self.items ≡ h.words.items ++ c.args.block.now = grind arith in
    let s : c.new.result ≡ span_from (length h.words.items) (length c.args.block.now) = grind arith in
    rw (e, length-append) (laid_out_with h.table.entries c.insert.new.self.entries c.args.at (length h.words.items)
    (length c.args.block.now) h.laid_out (put_is _ _ _ _ _ s c.in-Ok.ensures.updates.0))

pub invariant_of-self-in-Ok-clause-counted : goal.invariant_of-self-in-Ok-clause-counted
invariant_of-self-in-Ok-clause-counted c =
    let h = c.args.self.now in
    let e : c.extend_from_slice.new.self.items ≡ h.words.items ++ c.args.block.now = grind arith in
    let n : c.new.result.len ≡ length c.args.block.now = ap (λ (s : Span). s.len) c.new.ensures ∙ grind arith in
    let s = sum_by-insert_entry (λ (s : Span). s.len) nat_cmp_total h.table.entries c.args.at c.new.result c.insert.ensures.was_ordered in
    let o : c.in-Ok.old ≡ span_at h.table.entries c.args.at = grind arith in
    let f = ap (λ o. unwrap_or (option_map (λ (s : Span). s.len) o) 0) o in
    rw (c.in-Ok.ensures.entries, e, length-append) (omega (arith, s, n, f, h.counted, c.len_of.ensures))

pub returns-clause-ok : goal.returns-clause-ok
unfolding blocks_of
returns-clause-ok c =
    let h = c.args.self.now in
    let e : c.extend_from_slice.new.self.items ≡ h.words.items ++ c.args.block.now = grind arith in
    let s : c.new.result ≡ span_from (length h.words.items) (length c.args.block.now) = grind arith in
    rw e (block_appended h.words.items c.args.block.now h.table.entries c.insert.new.self.entries c.args.at h.laid_out
    (put_is _ _ _ _ _ s c.in-Ok.ensures.updates.0))
