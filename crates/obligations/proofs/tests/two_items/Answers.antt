use Rattle.std.proofs.Common.{arith}
use Rattle.obligations.specs.Tables.{rows_of}
use Rattle.obligations.proofs.Rows.{none_of_none, none_of_others}
use Rattle.obligations.proofs.tests.two_items.Goals as goal

pub add-requires-2 : goal.add-requires-2
add-requires-2 c =
    let old = rows_of c.new-table.result in
    let none = none_of_none old 5 c.new-table.ensures.empty in
    record { new_item = none_of_others old (rows_of c.add.new.self) 5 3 c.in_ok-owed.field-0.items c.in_ok-add.ensures.added none (λ e. grind (arith, e)) }
