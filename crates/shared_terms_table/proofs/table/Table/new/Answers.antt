use Rattle.std.proofs.Common.{[], ap}
use Rattle.shared_terms_rows.specs.Rows.{stood_for}
use Rattle.shared_terms_table.specs.View.{parts_of}
use Rattle.shared_terms_table.proofs.table.Table.new.Goals as goal

pub returns : goal.returns
unfolding parts_of stood_for
returns c = record { empty = ap (stood_for []) c.new.ensures.empty }
