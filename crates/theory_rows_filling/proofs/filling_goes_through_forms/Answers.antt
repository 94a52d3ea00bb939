use Rattle.theory_rows_filling.proofs.Through.{filled_slot_by_slot}
use Rattle.theory_rows_filling.proofs.filling_goes_through_forms.Goals as goal

pub returns : goal.returns
returns c = record { law = filled_slot_by_slot }
