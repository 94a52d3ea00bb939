-- The law of forms.
use Rattle.std.specs.Prelude.{◌≡◌}
use Rattle.shared_terms_rows.specs.declared.form.Form.{Form}
use Rattle.shared_terms_rows.specs.Parts.{Part, kind_of, build}
use Rattle.shared_terms_rows.specs.Forms.{kind}

abbrev pub RowsAreOfTheirKind : Type 0
RowsAreOfTheirKind = (f : Form) (a b c d : Part) → kind_of (build f a b c d) ≡ kind f
