-- Declared names, looked up from the first row on.
use Rattle.std.proofs.Common.{◌≡◌, ℕ, List, [], ◌∷◌, length, refl, arith}
use Rattle.std.specs.Prelude.{Option, None, option_map, if◌then◌else◌}
use Rattle.theory_text_names.specs.Uses.{declares, meaning_of, declared_use}
use Rattle.htt_resolve_names.specs.declared.names.Declared.{Declared}
use Rattle.htt_resolve_names.specs.Views.{declared_tree, rows_tree}

pub rows_none : (name : List ℕ) → declared_use name (rows_tree []) ≡ None
unfolding rows_tree declared_use
rows_none name = refl

pub rows_more : (name : List ℕ) (row : Option Declared) (rows : List (Option Declared)) →
    declared_use name (rows_tree (row ∷ rows)) ≡
    (if declares name (option_map declared_tree row) then meaning_of (option_map declared_tree row)
    else declared_use name (rows_tree rows))
unfolding rows_tree declared_use
rows_more name row rows = refl

pub rows_end : (name : List ℕ) (rows : List (Option Declared)) → length rows ≡ 0 → declared_use name (rows_tree rows) ≡ None
rows_end name [] none = rows_none name
rows_end name (row ∷ rows) none = grind arith
