-- The laws of claims.
use Rattle.std.specs.Prelude.{ℕ, ◌≡◌, Bool, List, Option, Result, Ok, Err}
use Rattle.obligations.specs.declared.row.Row.{Row}
use Rattle.obligations.specs.declared.claims.ClaimStop.{ClaimStop}
use Rattle.obligations.specs.declared.claims.ClaimStop.TheVariants.{Twice}
use Rattle.obligations.specs.Rows.{AreDistinct}
use Rattle.obligations.specs.Claims.{ClaimGives}

abbrev pub ClaimsComeToOne : Type 0
ClaimsComeToOne =
    (target : Option ℕ) (number : ℕ) (auto : Bool) (rows one other : List Row) (gives comes : Result ℕ ClaimStop)
    → AreDistinct rows
    → ClaimGives target number auto rows one gives
    → ClaimGives target number auto rows other comes
    → (gives ≡ comes) × (one ≡ other)

-- behind a claim that had a row, each further one for the same item and number is the second
abbrev pub ClaimsAreOnce : Type 0
ClaimsAreOnce =
    (target : Option ℕ) (number : ℕ) (auto again : Bool) (rows once twice : List Row) (row : ℕ) (comes : Result ℕ ClaimStop)
    → AreDistinct rows
    → ClaimGives target number auto rows once (Ok row)
    → ClaimGives target number again once twice comes
    → (comes ≡ Err Twice) × (twice ≡ once)
