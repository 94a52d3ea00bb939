-- Scopes of the code as definitions speak of them.
use Rattle.std.specs.Prelude.{ℕ, ◌-◌, List, map, reverse, suc, length, slice_get}
use Rattle.theory_text_names.specs.Scopes as scopes
use Rattle.theory_printing.specs.Pieces.{Printed}
use Rattle.theory_printing.specs.Names.{PrintScope, entry_of_sort}
use Rattle.htt_resolve_scopes.specs.declared.local.Sort.{Sort}
use Rattle.htt_resolve_scopes.specs.Views.{sort_of}
use Rattle.htt_printer_names.specs.declared.scope.NameScope.{NameScope}

-- the entries around a phrase, which the code keeps with the outermost first
unfoldable pub innermost_sorts : List Sort → List scopes.Sort
innermost_sorts entries = reverse (map sort_of entries)

abbrev pub print_scope : NameScope → PrintScope
print_scope s =
    record {
      entries = innermost_sorts s.entries.items;
      hypotheses = s.hypotheses;
      vals = s.vals.now;
      recs = s.recs.now;
    }

-- what is printed of the entry at a position, which counts from the outermost one
abbrev pub entry_at : List Sort → ℕ → Printed
entry_at entries position =
    let index = length entries - suc position in
    entry_of_sort (slice_get (innermost_sorts entries) index) index (innermost_sorts entries)
