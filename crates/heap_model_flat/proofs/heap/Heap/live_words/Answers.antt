use Rattle.std.proofs.Common.{rules, ◌≡◌, ap, ◌∙◌}
use Rattle.std.specs.Cmp.{nat_cmp_total}
use Rattle.std.specs.Ordering.{nat_cmp}
use Rattle.std.specs.BTreeMap.{IsOrdered}
use Rattle.std.specs.Map.Iter.{deref_pair}
use Rattle.std.proofs.lemmas.Map.Iter.{btree_map_turn, iter_end}
use Rattle.heap_model_flat.specs.Spans.{live_words}
use Rattle.heap_model_flat.proofs.heap.Heap.live_words.Goals as goal

pub span_words-requires : goal.span_words-requires
span_words-requires c =
    let h = c.args.self.now in
    let start : c.into_iter-span-iterator.result ≡ h.table.entries = search rules in
    let sorted : IsOrdered nat_cmp h.table = search rules in
    let t =
    btree_map_turn deref_pair c.loop-span.yielded c.into_iter-span-iterator.result c.loop-span.span-iterator c.next.new.self c.next.result
    (c.in-Some.field-0-0, c.in-Some.span) c.loop-span.yielded_by c.in-Some.is c.next.ensures.steps nat_cmp_total h.table start sorted in
    h.laid_out.within c.in-Some.field-0-0.now c.in-Some.span.now t.1

pub returns : goal.returns
returns c =
    let h = c.args.self.now in
    let start : c.into_iter-span-iterator.result ≡ h.table.entries = search rules in
    let e =
    iter_end deref_pair h.table.entries c.loop-span.yielded c.into_iter-span-iterator.result c.loop-span.span-iterator c.next.new.self
    c.next.result start c.loop-span.yielded_by c.in-None.is c.next.ensures.steps in
    c.loop-span.invariant.2 ∙ ap (live_words h.words.items) e.0
