-- Sizes beside a list of parts: each is the count of nodes of the part at its place, as far as 64 bits go.
use Rattle.std.specs.Prelude.{◌≡◌, ℕ, ◌+◌, ◌<◌, ◌≤◌, List, length, slice_index_or, Option, Some, None}
use Rattle.shared_terms_rows.specs.declared.row.Row.{Row}
use Rattle.shared_terms_rows.specs.declared.slots.Slot.{Slot}
use Rattle.shared_terms_rows.specs.Parts.{Part}
use Rattle.shared_terms_rows.specs.Forms.{slots}
use Rattle.shared_terms_rows.specs.Rows.{at}
use Rattle.theory_rows_counts.specs.Counts.{nodes_part, own_nodes}
use Rattle.theory_saturation.specs.Saturation.{saturated}
use Rattle.shared_terms_sizes.specs.declared.sizes.Sizes.{Sizes}

abbrev pub sizes_of : Sizes → List ℕ
sizes_of sizes = sizes.nodes.items

abbrev pub size_in_slot : List ℕ → Option Slot → ℕ → ℕ
size_in_slot sizes None place = 0
size_in_slot sizes (Some slot) place = slice_index_or sizes place 0

-- the size of a row, from those before it, summed from the left to the right
unfoldable pub size_in_row : List ℕ → Row → ℕ
size_in_row sizes row =
    saturated
    (saturated
    (saturated
    (saturated (own_nodes row.form + size_in_slot sizes ((slots row.form).first) row.first)
    + size_in_slot sizes ((slots row.form).second) row.second)
    + size_in_slot sizes ((slots row.form).third) row.third)
    + size_in_slot sizes ((slots row.form).fourth) row.fourth)

pub record Sized (parts : List Part) (sizes : List ℕ) : Type 0 where
  pub within : length sizes ≤ length parts
  pub each : (place : ℕ) → place < length sizes → slice_index_or sizes place 0 ≡ saturated (nodes_part (at parts place))
