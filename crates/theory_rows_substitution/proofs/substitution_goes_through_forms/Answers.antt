use Rattle.theory_rows_substitution.proofs.Through.{put_slot_by_slot}
use Rattle.theory_rows_substitution.proofs.substitution_goes_through_forms.Goals as goal

pub returns : goal.returns
returns c = record { law = put_slot_by_slot }
