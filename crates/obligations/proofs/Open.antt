-- The rows that aren't proved, from a place on.
use Rattle.std.proofs.Common.{◌≡◌, ℕ, suc, ◌+◌, ◌<◌, ◌≤◌, Bool, true, false, List, [], ◌∷◌, length, drop, drop-cons, get_or, sym, ap, ◌∙◌, arith}
use Rattle.std.proofs.Math.ListN.{drop_of_length-le}
use Rattle.std.specs.Prelude.{if◌then◌else◌}
use Rattle.obligations.specs.declared.row.Row.{Row}
use Rattle.obligations.specs.Rows.{is_proved, open_places}

first : (rows : List Row) (k : ℕ) (r : Row) → k < length rows → r ≡ get_or rows k r
    → open_places k (drop k rows) ≡ (if is_proved r then open_places (suc k) (drop (suc k) rows) else k ∷ open_places (suc k) (drop (suc k) rows))
first rows k r within is =
    ap (open_places k) (drop-cons rows k r within)
    ∙ ap (λ (q : Row). if is_proved q then open_places (suc k) (drop (suc k) rows) else k ∷ open_places (suc k) (drop (suc k) rows)) (sym is)

pub open_here : (rows : List Row) (k : ℕ) (r : Row) → k < length rows → r ≡ get_or rows k r → is_proved r ≡ false
    → open_places k (drop k rows) ≡ k ∷ open_places (k + 1) (drop (k + 1) rows)
open_here rows k r within is state =
    let one : k + 1 ≡ suc k = omega arith in
    first rows k r within is
    ∙ ap (λ (b : Bool). if b then open_places (suc k) (drop (suc k) rows) else k ∷ open_places (suc k) (drop (suc k) rows)) state
    ∙ ap (λ n. k ∷ open_places n (drop n rows)) (sym one)

pub open_past : (rows : List Row) (k : ℕ) (r : Row) → k < length rows → r ≡ get_or rows k r → is_proved r ≡ true
    → open_places k (drop k rows) ≡ open_places (k + 1) (drop (k + 1) rows)
open_past rows k r within is state =
    let one : k + 1 ≡ suc k = omega arith in
    first rows k r within is
    ∙ ap (λ (b : Bool). if b then open_places (suc k) (drop (suc k) rows) else k ∷ open_places (suc k) (drop (suc k) rows)) state
    ∙ ap (λ n. open_places n (drop n rows)) (sym one)

pub open_none : (rows : List Row) (n : ℕ) → length rows ≤ n → open_places n (drop n rows) ≡ []
open_none rows n over = ap (open_places n) (drop_of_length-le rows over)
