-- A form over its parts is filled slot by slot, and folded.
use Rattle.std.specs.Prelude.{◌≡◌, false}
use Rattle.theory_renaming.specs.Renaming.{Map}
use Rattle.theory_substitution.specs.Monotypes.{Filling}
use Rattle.shared_terms_rows.specs.declared.form.Form.{Form}
use Rattle.shared_terms_rows.specs.Parts.{Part, build}
use Rattle.shared_terms_rows.specs.Forms.{slots}
use Rattle.theory_rows_renaming.specs.Renaming.{rename_form}
use Rattle.theory_rows_substitution.specs.Substitution.{fold_part}
use Rattle.theory_rows_filling.specs.Filling.{fill_part, fill_slot, is_mono_variable}

abbrev pub FilledSlotBySlot : Type 0
FilledSlotBySlot =
    (f : Filling) (m : Map) (g : Form)
    → is_mono_variable g ≡ false
    → (a b c d : Part)
    → fill_part f m (build g a b c d)
    ≡ fold_part
    (build (rename_form m g) (fill_slot f m ((slots g).first) a) (fill_slot f m ((slots g).second) b)
    (fill_slot f m ((slots g).third) c) (fill_slot f m ((slots g).fourth) d))
