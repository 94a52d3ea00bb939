use Rattle.std.proofs.Common.{refl, length, arith}
use Rattle.std.proofs.lemmas.Option.{slice_get_read}
use Rattle.obligations.proofs.table.Table.change.Goals as goal

pub returns : goal.returns
returns c =
    let rows = c.args.self.now.rows.items in
    let was = c.index_mut.result.now in
    record { changed = record { was = was; stood = slice_get_read rows (length rows) c.args.row was refl c.requires.is_row (let e = c.index_mut.ensures.value in grind (arith, e)); changed = refl } }
