-- Rows of which no two have one item and number stay so.
use Rattle.std.proofs.Common.{◌≡◌, ℕ, zero, suc, ◌+◌, List, [], ◌∷◌, ◌++◌, length, Some, refl, sym, ap, ◌∙◌, arith, ◌⊎◌, ⊎_elim, inl, inr}
use Rattle.std.specs.Prelude.{slice_get, slice_set}
use Rattle.htt_syntax.specs.declared.sequent.Sequent.{Sequent}
use Rattle.obligations.specs.declared.row.Row.{Row}
use Rattle.obligations.specs.declared.row.State.{State}
use Rattle.obligations.specs.Rows.{with_state, numbered, NoneOf, AreDistinct}

pub some_is : {X : Type 0} (x y : X) → Some x ≡ Some y → x ≡ y
some_is x y e = grind arith

-- ---- a row in another state

-- each row of the changed list stood there with its item and number
pub stood_before : (rows : List Row) (row k : ℕ) (was r : Row) (s : State)
    → slice_get rows row ≡ Some was
    → slice_get (slice_set rows row (with_state s was)) k ≡ Some r
    → (q : Row) × (slice_get rows k ≡ Some q) × (q.item ≡ r.item) × (q.number ≡ r.number)
stood_before [] row k was r s stood there = grind arith
stood_before (x ∷ xs) zero zero was r s stood there =
    let a = some_is x was stood in
    let b = some_is (with_state s was) r there in
    (x, refl, ap (λ (q : Row). q.item) a ∙ ap (λ (q : Row). q.item) b, ap (λ (q : Row). q.number) a ∙ ap (λ (q : Row). q.number) b)
stood_before (x ∷ xs) zero (suc k) was r s stood there = (r, there, refl, refl)
stood_before (x ∷ xs) (suc row) zero was r s stood there = (r, there, refl, refl)
stood_before (x ∷ xs) (suc row) (suc k) was r s stood there = stood_before xs row k was r s stood there

-- and the row itself is there, in its new state
pub stands_changed : (rows : List Row) (row : ℕ) (was x : Row) → slice_get rows row ≡ Some was → slice_get (slice_set rows row x) row ≡ Some x
stands_changed [] row was x stood = absurd (grind (arith, stood))
stands_changed (y ∷ ys) zero was x stood = refl
stands_changed (y ∷ ys) (suc row) was x stood = stands_changed ys row was x stood

pub changed_distinct : (rows : List Row) (row : ℕ) (was : Row) (s : State)
    → slice_get rows row ≡ Some was
    → AreDistinct rows
    → AreDistinct (slice_set rows row (with_state s was))
changed_distinct rows row was s stood distinct j k q r at_j at_k item number =
    let a = stood_before rows row j was q s stood at_j in
    let b = stood_before rows row k was r s stood at_k in
    distinct j k a.0 b.0 a.1 b.1 (a.2 ∙ item ∙ sym b.2) (a.3 ∙ number ∙ sym b.3)

-- ---- the rows of one more item

split : (xs ys : List Row) (k : ℕ) (r : Row)
    → slice_get (xs ++ ys) k ≡ Some r
    → (slice_get xs k ≡ Some r) ⊎ ((m : ℕ) × (k ≡ length xs + m) × (slice_get ys m ≡ Some r))
split [] ys k r there = inr (k, omega arith, there)
split (x ∷ xs) ys zero r there = inl there
split (x ∷ xs) ys (suc k) r there =
    ⊎_elim (λ here. inl here) (λ later. let is = later.1 in inr (later.0, omega (arith, is), later.2)) (split xs ys k r there)

numbered_row : (item n : ℕ) (ss : List Sequent) (k : ℕ) (r : Row)
    → slice_get (numbered item n ss) k ≡ Some r
    → (r.item ≡ item) × (r.number ≡ suc (n + k))
numbered_row item n [] k r there = grind arith
numbered_row item n (s ∷ ss) zero r there = grind arith
numbered_row item n (s ∷ ss) (suc k) r there =
    let is = numbered_row item (suc n) ss k r there in
    let number = is.1 in
    (is.0, omega (arith, number))

pub added_distinct : (rows : List Row) (item : ℕ) (ss : List Sequent)
    → AreDistinct rows
    → NoneOf item rows
    → AreDistinct (rows ++ numbered item 0 ss)
added_distinct rows item ss distinct none j k q r at_j at_k same_item same_number =
    ⊎_elim
    (λ old_j.
    ⊎_elim (λ old_k. distinct j k q r old_j old_k same_item same_number)
    (λ new_k. let is = numbered_row item 0 ss new_k.0 r new_k.2 in absurd (none j q old_j (same_item ∙ is.0)))
    (split rows (numbered item 0 ss) k r at_k))
    (λ new_j.
    let is = numbered_row item 0 ss new_j.0 q new_j.2 in
    ⊎_elim (λ old_k. absurd (none k r old_k (sym same_item ∙ is.0)))
    (λ new_k.
    let also = numbered_row item 0 ss new_k.0 r new_k.2 in
    let a = is.1 in
    let b = also.1 in
    let c = new_j.1 in
    let d = new_k.1 in
    omega (arith, a, b, c, d, same_number))
    (split rows (numbered item 0 ss) k r at_k))
    (split rows (numbered item 0 ss) j q at_j)

-- ---- items without rows

pub none_of_none : (rows : List Row) (item : ℕ) → rows ≡ [] → NoneOf item rows
none_of_none [] item none k r there is = grind (arith, there)
none_of_none (x ∷ xs) item none k r there is = absurd (grind (arith, none))

pub none_of_others : (old rows : List Row) (item other : ℕ) (ss : List Sequent)
    → rows ≡ old ++ numbered other 0 ss
    → NoneOf item old
    → (item ≡ other → ⊥)
    → NoneOf item rows
none_of_others old rows item other ss added none apart k r there is =
    ⊎_elim (λ old_k. none k r old_k is)
    (λ new_k. let of_other = numbered_row other 0 ss new_k.0 r new_k.2 in apart (sym is ∙ of_other.0))
    (split old (numbered other 0 ss) k r (sym (ap (λ rs. slice_get rs k) added) ∙ there))
