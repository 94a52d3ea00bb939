use Rattle.theory_rows_renaming.proofs.Through.{kind_renamed, renamed_slot_by_slot, slots_renamed}
use Rattle.theory_rows_renaming.proofs.renaming_goes_through_forms.Goals as goal

pub returns : goal.returns
returns c = record { law = renamed_slot_by_slot; slots = slots_renamed; kinds = kind_renamed }
