-- Lists with more elements at their ends, and their beginnings.
use Rattle.std.proofs.Common.{◌≡◌, ℕ, zero, suc, List, [], ◌∷◌, ◌++◌, length, take, Some, None, refl, ap, ◌⊎◌, inl, inr}
use Rattle.std.proofs.lemmas.Option.{same_Some}
use Rattle.std.specs.Prelude.{slice_get}

pub no_element : {A : Type 0} {x : A} → None ≡ Some x → ⊥
no_element e = cc

pub get_more : {A : Type 0} (xs ys : List A) (n : ℕ) (x : A) → slice_get xs n ≡ Some x → slice_get (xs ++ ys) n ≡ Some x
get_more [] ys n x q = absurd (no_element q)
get_more (y ∷ xs) ys zero x q = q
get_more (y ∷ xs) ys (suc n) x q = get_more xs ys n x q

pub take_more : {A : Type 0} (xs : List A) (x : A) (n : ℕ) (y : A) → slice_get xs n ≡ Some y → take n (xs ++ x ∷ []) ≡ take n xs
take_more [] x n y q = absurd (no_element q)
take_more (z ∷ xs) x zero y q = refl
take_more (z ∷ xs) x (suc n) y q = λ j. z ∷ take_more xs x n y q j

pub take_all : {A : Type 0} (xs : List A) (x : A) → take (length xs) (xs ++ x ∷ []) ≡ xs
take_all [] x = refl
take_all (z ∷ xs) x = λ j. z ∷ take_all xs x j

-- what stands in a list with one more at its end
pub appended : {A : Type 0} (xs : List A) (x : A) (n : ℕ) (y : A)
    → slice_get (xs ++ x ∷ []) n ≡ Some y
    → (slice_get xs n ≡ Some y) ⊎ ((n ≡ length xs) × (x ≡ y))
appended [] x zero y q = inr (refl, same_Some x y q)
appended [] x (suc n) y q = absurd (no_element q)
appended (z ∷ xs) x zero y q = inl q
appended (z ∷ xs) x (suc n) y q = elim (appended xs x n y q) [ inl p ↦ inl p | inr (p, r) ↦ inr (ap suc p, r) ]
