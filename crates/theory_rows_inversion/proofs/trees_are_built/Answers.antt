use Rattle.theory_rows_inversion.proofs.Told.{trees_are_built, parts_are_of_slots}
use Rattle.theory_rows_inversion.proofs.trees_are_built.Goals as goal

pub returns : goal.returns
returns c = record { built = trees_are_built; kinds = parts_are_of_slots }
