-- A form over its parts, renamed, is the renamed form over its parts, renamed under its binders.
use Rattle.std.specs.Prelude.{◌≡◌}
use Rattle.theory_renaming.specs.Renaming.{Map}
use Rattle.shared_terms_rows.specs.declared.form.Form.{Form}
use Rattle.shared_terms_rows.specs.Parts.{Part, build, kind_of}
use Rattle.shared_terms_rows.specs.Forms.{slots}
use Rattle.theory_rows_renaming.specs.Renaming.{rename_part, rename_form, rename_slot}

abbrev pub RenamedSlotBySlot : Type 0
RenamedSlotBySlot =
    (m : Map) (f : Form) (a b c d : Part)
    → rename_part m (build f a b c d)
    ≡ build (rename_form m f) (rename_slot m ((slots f).first) a) (rename_slot m ((slots f).second) b)
    (rename_slot m ((slots f).third) c) (rename_slot m ((slots f).fourth) d)

-- The slots of a form, and what a part is of, stay.
abbrev pub SlotsStay : Type 0
SlotsStay = (m : Map) (f : Form) → slots (rename_form m f) ≡ slots f

abbrev pub KindsStay : Type 0
KindsStay = (m : Map) (a : Part) → kind_of (rename_part m a) ≡ kind_of a
