use Rattle.shared_terms_table.specs.View.{parts_of}
use Rattle.shared_terms_sizes.proofs.Column.{next_sized}
use Rattle.shared_terms_sizes.proofs.sizes.Sizes.follow.Goals as goal

pub loop-place-preserved : goal.loop-place-preserved
loop-place-preserved c =
    next_sized (parts_of c.args.table.now) c.loop-place.self.nodes.items c.as_slice.result.now _ c.loop-place.place
    c.count-place-end.result c.row_size-size.result c.row.result c.loop-place.invariant.0 c.loop-place.invariant.1
    c.loop-place-test.true c.count-place-end.ensures.count c.as_slice.ensures.value c.row.ensures.row
    c.row_size-size.ensures.size c.in_ok-push.ensures.items
