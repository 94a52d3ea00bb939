-- What the claim of a proof comes to.
use Rattle.std.specs.Prelude.{ℕ, ◌≡◌, Bool, true, false, List, Option, Some, Result, Ok, Err, slice_get, ◌==◌, ◌&&◌}
use Rattle.obligations.specs.declared.row.Row.{Row}
use Rattle.obligations.specs.declared.row.State.{State}
use Rattle.obligations.specs.declared.row.State.TheVariants.{Left, Proved}
use Rattle.obligations.specs.declared.claims.ClaimStop.{ClaimStop}
use Rattle.obligations.specs.declared.claims.ClaimStop.TheVariants.{Stray, Twice}
use Rattle.obligations.specs.Rows.{is_free, ChangesTo}

-- the row is the one that a proof for this number of this item names; one for no item names none
pub record Names (target : Option ℕ) (number : ℕ) (r : Row) : Type 0 where
  pub of_item : target ≡ Some r.item
  pub of_number : number ≡ r.number

abbrev pub NoneNamed : Option ℕ → ℕ → List Row → Type 0
NoneNamed target number rows = (k : ℕ) (r : Row) → slice_get rows k ≡ Some r → Names target number r → ⊥

-- the row that is named, which is free or isn't
pub record StandsAs (free : Bool) (target : Option ℕ) (number : ℕ) (rows : List Row) (row : ℕ) : Type 0 where
  pub there : Row
  pub stands : slice_get rows row ≡ Some there
  pub named : Names target number there
  pub state : is_free there ≡ free

abbrev pub IsNamed : Option ℕ → ℕ → List Row → ℕ → Type 0
IsNamed target number rows row = (r : Row) × (slice_get rows row ≡ Some r) × Names target number r

abbrev pub is_of : ℕ → ℕ → Row → Bool
is_of item number r = (r.item == item) && (r.number == number)

-- the state of a row that was claimed: one that is auto is left to the provers
abbrev pub claimed_as : Bool → State
claimed_as true = Left
claimed_as false = Proved

-- A claim on the rows `old` leaves the rows `new`.
abbrev pub ClaimGives : Option ℕ → ℕ → Bool → List Row → List Row → Result ℕ ClaimStop → Type 0
-- the row that is named was free, and is now left to the provers, or proved
ClaimGives target number auto old new (Ok row) =
    StandsAs true target number old row × ChangesTo (claimed_as auto) row old new
-- no row is named
ClaimGives target number auto old new (Err Stray) = NoneNamed target number old × (new ≡ old)
-- the row that is named isn't free
ClaimGives target number auto old new (Err Twice) = ((row : ℕ) × StandsAs false target number old row) × (new ≡ old)
