-- The list of parts that rows stand for, one behind the other: each row stands behind its parts.
use Rattle.std.specs.Prelude.{ℕ, ◌+◌, ◌<◌, ◌≤◌, ◌≡◌, max, Bool, true, ◌&&◌, nat_eq, List, [], ◌∷◌, ◌++◌, length}
use Rattle.std.specs.Prelude.{slice_get, slice_index_or, Option, Some, None, ⊤}
use Rattle.htt_syntax.specs.Trees.{t_unit}
use Rattle.shared_terms_rows.specs.declared.form.Kind.{Kind}
use Rattle.shared_terms_rows.specs.declared.form.Kind.TheVariants as kinds
use Rattle.shared_terms_rows.specs.declared.slots.Slot.{Slot}
use Rattle.shared_terms_rows.specs.declared.slots.Slots.{Slots}
use Rattle.shared_terms_rows.specs.declared.row.Row.{Row}
use Rattle.shared_terms_rows.specs.Parts.{Part, of_term, kind_of, build}
use Rattle.shared_terms_rows.specs.Forms.{slots}

-- what stands at a place
abbrev pub at : List Part → ℕ → Part
at parts place = slice_index_or parts place (of_term t_unit)

-- what stands in a slot
abbrev pub in_slot : List Part → Option Slot → ℕ → Part
in_slot parts None place = of_term t_unit
in_slot parts (Some slot) place = at parts place

-- what stands in a slot is of its kind
abbrev pub IsOfSlot : Option Slot → Part → Type 0
IsOfSlot None part = ⊤
IsOfSlot (Some slot) part = kind_of part ≡ slot.kind

-- what a row stands for, over the parts before it
abbrev pub node_in : List Part → Slots → Row → Part
node_in parts s row =
    build row.form (in_slot parts s.first row.first) (in_slot parts s.second row.second)
    (in_slot parts s.third row.third) (in_slot parts s.fourth row.fourth)

abbrev pub node : List Part → Row → Part
node parts row = node_in parts (slots row.form) row

-- the first place at which a row may stand
abbrev pub behind : Option Slot → ℕ → ℕ
behind None place = 0
behind (Some slot) place = place + 1

abbrev pub bound_in : Slots → Row → ℕ
bound_in s row =
    max (max (behind s.first row.first) (behind s.second row.second))
    (max (behind s.third row.third) (behind s.fourth row.fourth))

abbrev pub bound : Row → ℕ
bound row = bound_in (slots row.form) row

abbrev pub number : Kind → ℕ
number kinds.Skeleton = 0
number kinds.Mono = 1
number kinds.Ty = 2
number kinds.Triple = 3
number kinds.Term = 4
number kinds.Terms = 5
number kinds.Fix = 6
number kinds.Comp = 7
number kinds.Step = 8
number kinds.Formula = 9

-- whether a slot holds a part of its kind; a slot that isn't there has the place 0
abbrev pub slot_fits : List Part → Option Slot → ℕ → Bool
slot_fits parts None place = nat_eq place 0
slot_fits parts (Some slot) place = nat_eq (number (kind_of (at parts place))) (number slot.kind)

abbrev pub fits_in : List Part → Slots → Row → Bool
fits_in parts s row =
    (slot_fits parts s.first row.first && slot_fits parts s.second row.second)
    && (slot_fits parts s.third row.third && slot_fits parts s.fourth row.fourth)

unfoldable pub fits : List Part → Row → Bool
fits parts row = fits_in parts (slots row.form) row

-- what rows stand for, behind the parts that stand already
unfoldable pub stood_for : List Part → List Row → List Part
stood_for parts [] = parts
stood_for parts (row ∷ rows) = stood_for (parts ++ node parts row ∷ []) rows

-- each row stands behind its parts, and they are of its kinds
abbrev pub Backward : List Row → Type 0
Backward rows = (place : ℕ) (row : Row) → slice_get rows place ≡ Some row → bound row ≤ place

abbrev pub Fitting : List Row → Type 0
Fitting rows = (place : ℕ) (row : Row) → slice_get rows place ≡ Some row → fits (stood_for [] rows) row ≡ true

-- each row stands once, and so does each part
abbrev pub RowsOnce : List Row → Type 0
RowsOnce rows = (i k : ℕ) (row : Row) → slice_get rows i ≡ Some row → slice_get rows k ≡ Some row → i ≡ k

abbrev pub Once : List Part → Type 0
Once parts = (i k : ℕ) → i < length parts → k < length parts → at parts i ≡ at parts k → i ≡ k

-- a row stands at a place
pub record RowIs (parts : List Part) (place : ℕ) (row : Row) : Type 0 where
  pub within : place < length parts
  pub below : bound row ≤ place
  pub fitting : fits parts row ≡ true
  pub tree : at parts place ≡ node parts row

-- what stands somewhere stays there
pub record Extends (old new : List Part) : Type 0 where
  pub longer : length old ≤ length new
  pub same : (place : ℕ) → place < length old → at new place ≡ at old place
