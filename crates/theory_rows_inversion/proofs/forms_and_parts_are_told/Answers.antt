use Rattle.theory_rows_inversion.proofs.Told.{forms_are_told, parts_are_told}
use Rattle.theory_rows_inversion.proofs.forms_and_parts_are_told.Goals as goal

pub returns : goal.returns
returns c = record { forms = forms_are_told; parts = parts_are_told }
