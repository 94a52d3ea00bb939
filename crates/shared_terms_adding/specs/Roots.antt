-- The root of a tree: its form, and what stands in each of the form's slots.
use Rattle.std.specs.Prelude.{Option, Some, None}
use Rattle.shared_terms_rows.specs.declared.form.Form.{Form}
use Rattle.shared_terms_rows.specs.declared.slots.Slot.{Slot}
use Rattle.shared_terms_rows.specs.Parts.{Part}
use Rattle.shared_terms_rows.specs.Forms.{slots}
use Rattle.theory_rows_inversion.specs.Inversion.{form_at, parts_at}

pub record Root : Type 0 where
  pub form : Form
  pub first : Option Part
  pub second : Option Part
  pub third : Option Part
  pub fourth : Option Part

abbrev pub root : Form → Option Part → Option Part → Option Part → Option Part → Root
root form a b c d = record { form = form; first = a; second = b; third = c; fourth = d }

abbrev pub in_slot : Option Slot → Part → Option Part
in_slot None part = None
in_slot (Some slot) part = Some part

unfoldable pub root_of : Part → Root
root_of p =
    root (form_at p) (in_slot ((slots (form_at p)).first) ((parts_at p).first))
    (in_slot ((slots (form_at p)).second) ((parts_at p).second))
    (in_slot ((slots (form_at p)).third) ((parts_at p).third))
    (in_slot ((slots (form_at p)).fourth) ((parts_at p).fourth))
