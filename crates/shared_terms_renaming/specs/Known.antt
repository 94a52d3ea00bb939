-- Facts on places of a table, and what is known of the work in it.
use Rattle.std.specs.Prelude.{◌≡◌, ℕ, ◌<◌, List, length, Option, Some, None}
use Rattle.std.specs.HashMap.{get}
use Rattle.shared_terms_rows.specs.declared.slots.Slot.{Slot}
use Rattle.shared_terms_rows.specs.Parts.{Part}
use Rattle.shared_terms_rows.specs.Rows.{at}
use Rattle.shared_terms_table.specs.View.{parts_of}
use Rattle.theory_renaming.specs.Renaming.{Map, lifts}
use Rattle.theory_rows_renaming.specs.Renaming.{rename_part}
use Rattle.shared_terms_renaming.specs.declared.renaming.Renaming.{Renaming}
use Rattle.shared_terms_renaming.specs.declared.work.Task.{Task}
use Rattle.shared_terms_renaming.specs.declared.work.Work.{Work}
use Rattle.shared_terms_renaming.specs.contracts.work.TaskPartialEq as TaskEq
use Rattle.shared_terms_renaming.specs.Maps.{map_of}

-- the one place is the other, renamed
pub record RenamesBy (parts : List Part) (m : Map) (place renamed : ℕ) : Type 0 where
  pub of : place < length parts
  pub within : renamed < length parts
  pub tree : at parts renamed ≡ rename_part m (at parts place)

abbrev pub Renames : List Part → Renaming → ℕ → ℕ → Type 0
Renames parts renaming place renamed = RenamesBy parts (map_of renaming) place renamed

-- the same for what stands in a slot
abbrev pub RenamesSlot : List Part → Renaming → Option Slot → ℕ → ℕ → Type 0
RenamesSlot parts renaming None place renamed = renamed ≡ 0
RenamesSlot parts renaming (Some slot) place renamed =
    RenamesBy parts (lifts slot.binders (map_of renaming)) place renamed

unfoldable pub held : Work → List Part
held work = parts_of work.table

-- each renaming that is remembered was made
unfoldable pub Known : Work → Type 0
Known work =
    (task : Task) (renamed : ℕ)
    → get TaskEq.TheImpl.eq-value.it work.done task ≡ Some renamed
    → Renames (parts_of work.table) task.renaming task.place renamed
