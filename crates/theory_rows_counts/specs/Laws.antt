-- The nodes of what a form stands for are its own and those of its parts, where these are of the kinds of its slots.
use Rattle.std.specs.Prelude.{◌≡◌, ◌+◌}
use Rattle.shared_terms_rows.specs.declared.form.Form.{Form}
use Rattle.shared_terms_rows.specs.Parts.{Part, build}
use Rattle.shared_terms_rows.specs.Forms.{slots}
use Rattle.shared_terms_rows.specs.Rows.{IsOfSlot}
use Rattle.theory_rows_counts.specs.Counts.{nodes_part, own_nodes, slot_nodes}

abbrev pub NodesAddUp : Type 0
NodesAddUp =
    (f : Form) (a b c d : Part)
    → IsOfSlot ((slots f).first) a
    → IsOfSlot ((slots f).second) b
    → IsOfSlot ((slots f).third) c
    → IsOfSlot ((slots f).fourth) d
    → nodes_part (build f a b c d)
    ≡ own_nodes f + slot_nodes ((slots f).first) a + slot_nodes ((slots f).second) b + slot_nodes ((slots f).third) c
    + slot_nodes ((slots f).fourth) d
