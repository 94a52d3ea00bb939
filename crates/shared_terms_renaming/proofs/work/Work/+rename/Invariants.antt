use Rattle.std.proofs.Common.{◌+◌, ◌*◌}
use Rattle.shared_terms_rows.specs.Rows.{behind}
use Rattle.shared_terms_renaming.proofs.work.Work.+rename.Given as goal

-- the parts of a row stand before it
abbrev pub decreases-rename : goal.decreases-rename
decreases-rename l = 3 * l.place + 2

abbrev pub decreases-rename_anew : goal.decreases-rename_anew
decreases-rename_anew l = 3 * l.place + 1

abbrev pub decreases-rename_slot : goal.decreases-rename_slot
decreases-rename_slot l = 3 * behind l.slot l.place
