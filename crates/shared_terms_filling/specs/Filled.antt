-- Facts on places of a table, and what is known of the fillings in it.
use Rattle.std.specs.Prelude.{◌≡◌, ℕ, zero, suc, ◌<◌, List, length, Option, Some, None}
use Rattle.std.specs.HashMap.{get}
use Rattle.theory_renaming.specs.Renaming.{Map, lifts}
use Rattle.theory_substitution.specs.Closing.{closing}
use Rattle.theory_substitution.specs.Monotypes.{Filling, put_mono}
use Rattle.shared_terms_rows.specs.declared.form.Form.{Form}
use Rattle.shared_terms_rows.specs.declared.form.Form.TheVariants as form
use Rattle.shared_terms_rows.specs.declared.form.Kind.TheVariants as kinds
use Rattle.shared_terms_rows.specs.declared.form.MonoForm.TheVariants as mono
use Rattle.shared_terms_rows.specs.declared.slots.Slot.{Slot}
use Rattle.shared_terms_rows.specs.Parts.{Part, as_mono, kind_of}
use Rattle.shared_terms_rows.specs.Rows.{at}
use Rattle.theory_rows_renaming.specs.Renaming.{rename_part}
use Rattle.theory_rows_filling.specs.Filling.{fill_part, next_fillings}
use Rattle.shared_terms_renaming.specs.Known.{held, Known}
use Rattle.shared_terms_filling.specs.declared.work.FillTask.{FillTask}
use Rattle.shared_terms_filling.specs.declared.work.FillWork.{FillWork}
use Rattle.shared_terms_filling.specs.contracts.work.FillTaskPartialEq as TaskEq

-- a monotype stands at a place
pub record IsMono (parts : List Part) (place : ℕ) : Type 0 where
  pub within : place < length parts
  pub mono : kind_of (at parts place) ≡ kinds.Mono

-- what a part is under so many more binders
unfoldable pub raised : ℕ → Part → Part
raised zero part = part
raised (suc n) part = rename_part suc (raised n part)

pub record Raises (parts : List Part) (binders place result : ℕ) : Type 0 where
  pub of : place < length parts
  pub within : result < length parts
  pub tree : at parts result ≡ raised binders (at parts place)

-- the one place is the other, filled
pub record FillsBy (parts : List Part) (f : Filling) (m : Map) (place filled : ℕ) : Type 0 where
  pub of : place < length parts
  pub within : filled < length parts
  pub tree : at parts filled ≡ fill_part f m (at parts place)

abbrev pub filling : List Part → FillTask → Filling
filling parts task = put_mono (as_mono (at parts task.mono)) task.index

pub record Fills (parts : List Part) (task : FillTask) (filled : ℕ) : Type 0 where
  pub mono : IsMono parts task.mono
  pub by : FillsBy parts (filling parts task) (closing task.index) task.place filled

-- the same for what stands in a slot
abbrev pub FillsSlot : List Part → FillTask → Option Slot → ℕ → ℕ → Type 0
FillsSlot parts task None place filled = filled ≡ 0
FillsSlot parts task (Some slot) place filled =
    FillsBy parts (next_fillings slot.binders (filling parts task)) (lifts slot.binders (closing task.index)) place filled

-- a task under more binders
pub record IsUnder (parts : List Part) (task : FillTask) (binders : ℕ) (under : FillTask) : Type 0 where
  pub fillings : next_fillings binders (filling parts task) ≡ filling parts under
  pub map : lifts binders (closing task.index) ≡ closing under.index

-- the index of a monotype variable
abbrev pub variable_in : Form → Option ℕ
variable_in (form.Mono (mono.Var index)) = Some index
variable_in other = None

unfoldable pub stood : FillWork → List Part
stood work = held work.work

-- each filling that is remembered was made
unfoldable pub KnownFilled : FillWork → Type 0
KnownFilled work =
    Known work.work
    × ((task : FillTask) (filled : ℕ)
    → get TaskEq.TheImpl.eq-value.it work.done task ≡ Some filled
    → Fills (held work.work) task filled)
