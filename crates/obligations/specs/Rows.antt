-- The rows of a table of obligations.
use Rattle.std.specs.Prelude.{ℕ, suc, ◌≡◌, Bool, true, false, List, [], ◌∷◌, Some, slice_get, slice_set, if◌then◌else◌}
use Rattle.htt_syntax.specs.declared.sequent.Sequent.{Sequent}
use Rattle.obligations.specs.declared.row.Row.{Row}
use Rattle.obligations.specs.declared.row.State.{State}
use Rattle.obligations.specs.declared.row.State.TheVariants.{Free, Left, Proved}

abbrev pub is_free_state : State → Bool
is_free_state Free = true
is_free_state Left = false
is_free_state Proved = false

abbrev pub is_proved_state : State → Bool
is_proved_state Free = false
is_proved_state Left = false
is_proved_state Proved = true

abbrev pub is_free : Row → Bool
is_free r = is_free_state r.state

abbrev pub is_proved : Row → Bool
is_proved r = is_proved_state r.state

-- the row in another state
abbrev pub with_state : State → Row → Row
with_state s r = record { item = r.item; number = r.number; sequent = r.sequent; state = s }

-- the rows that come in with an item for what it owes, where n of its rows stand before them
abbrev pub numbered : ℕ → ℕ → List Sequent → List Row
numbered item n [] = []
numbered item n (s ∷ ss) = record { item = item; number = suc n; sequent = s; state = Free } ∷ numbered item (suc n) ss

-- no row is of this item
abbrev pub NoneOf : ℕ → List Row → Type 0
NoneOf item rows = (k : ℕ) (r : Row) → slice_get rows k ≡ Some r → r.item ≡ item → ⊥

-- no two rows have one item and number
abbrev pub AreDistinct : List Row → Type 0
AreDistinct rows =
    (j k : ℕ) (r s : Row)
    → slice_get rows j ≡ Some r
    → slice_get rows k ≡ Some s
    → r.item ≡ s.item
    → r.number ≡ s.number
    → j ≡ k

-- one row gets another state, and nothing else changes
pub record ChangesTo (s : State) (row : ℕ) (old new : List Row) : Type 0 where
  pub was : Row
  pub stood : slice_get old row ≡ Some was
  pub changed : new ≡ slice_set old row (with_state s was)

-- the places of the rows that aren't proved, where the first row is at n
abbrev pub open_places : ℕ → List Row → List ℕ
open_places n [] = []
open_places n (r ∷ rs) = if is_proved r then open_places (suc n) rs else n ∷ open_places (suc n) rs
