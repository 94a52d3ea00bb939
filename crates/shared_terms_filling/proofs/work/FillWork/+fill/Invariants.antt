use Rattle.std.proofs.Common.{◌+◌, ◌*◌}
use Rattle.shared_terms_rows.specs.Rows.{behind}
use Rattle.shared_terms_filling.proofs.work.FillWork.+fill.Given as goal

-- the parts of a row stand before it
abbrev pub decreases-fill : goal.decreases-fill
decreases-fill l = 4 * l.task.place + 3

abbrev pub decreases-fill_anew : goal.decreases-fill_anew
decreases-fill_anew l = 4 * l.task.place + 2

abbrev pub decreases-fill_slots : goal.decreases-fill_slots
decreases-fill_slots l = 4 * l.task.place + 1

abbrev pub decreases-fill_slot : goal.decreases-fill_slot
decreases-fill_slot l = 4 * behind l.slot l.place
