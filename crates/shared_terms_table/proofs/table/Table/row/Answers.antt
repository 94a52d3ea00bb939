use Rattle.std.proofs.Common.{length, ap, arith}
use Rattle.shared_terms_table.specs.View.{parts_of}
use Rattle.shared_terms_table.proofs.Facts.{row_is, counted, seen}
use Rattle.shared_terms_table.proofs.table.Table.row.Goals as goal

pub offset_bounds-as_slice-place : goal.offset_bounds-as_slice-place
offset_bounds-as_slice-place c =
    let e = counted c.args.self.now in
    let k = ap length c.as_slice.ensures.keys in
    omega (arith, e, k, c.requires.within, c.as_slice.type_inv)

pub bounds-as_slice-place : goal.bounds-as_slice-place
bounds-as_slice-place c =
    let e = counted c.args.self.now in
    let k = ap length c.as_slice.ensures.keys in
    omega (arith, e, k, c.requires.within)

pub returns : goal.returns
unfolding parts_of
returns c = record { row = row_is _ _ _ c.args.self.now.backward c.args.self.now.fitting (seen _ _ _ _ c.as_slice.ensures.keys c.requires.within) }
