-- A tree is what one form stands for over one list of parts.
use Rattle.std.specs.Prelude.{◌≡◌}
use Rattle.shared_terms_rows.specs.declared.form.Form.{Form}
use Rattle.shared_terms_rows.specs.Parts.{Part, build}
use Rattle.shared_terms_rows.specs.Forms.{slots}
use Rattle.shared_terms_rows.specs.Rows.{IsOfSlot}
use Rattle.theory_rows_inversion.specs.Inversion.{form_at, parts_at, all_taken}

-- The form is told by the tree, and so are the parts, where they are of the kinds of the form's slots.
abbrev pub FormsAreTold : Type 0
FormsAreTold = (f : Form) (a b c d : Part) → form_at (build f a b c d) ≡ f

abbrev pub PartsAreTold : Type 0
PartsAreTold =
    (f : Form) (a b c d : Part)
    → IsOfSlot ((slots f).first) a
    → IsOfSlot ((slots f).second) b
    → IsOfSlot ((slots f).third) c
    → IsOfSlot ((slots f).fourth) d
    → parts_at (build f a b c d) ≡ all_taken (slots f) a b c d

-- Each tree is built of these, and they are of the kinds of the form's slots.
abbrev pub TreesAreBuilt : Type 0
TreesAreBuilt =
    (p : Part)
    → p ≡ build (form_at p) ((parts_at p).first) ((parts_at p).second) ((parts_at p).third) ((parts_at p).fourth)

abbrev pub PartsAreOfSlots : Type 0
PartsAreOfSlots =
    (p : Part)
    → IsOfSlot ((slots (form_at p)).first) ((parts_at p).first)
    × IsOfSlot ((slots (form_at p)).second) ((parts_at p).second)
    × IsOfSlot ((slots (form_at p)).third) ((parts_at p).third)
    × IsOfSlot ((slots (form_at p)).fourth) ((parts_at p).fourth)
