-- The shipped choices of locations: those above the greatest location of the heap, in order.
use Rattle.std.specs.Prelude.{◌≡◌, ◌≤◌, ℕ, zero, suc, List, [], ◌∷◌, ◌⊎◌}
use Rattle.theory_values.specs.Heaps.{Heap, InUse}

-- The greatest location of a heap, or 0 where it has none.
pub record IsGreatest (h : Heap) (g : ℕ) : Type 0 where
  pub none_above : (l : ℕ) → InUse h l → l ≤ g
  pub in_use_or_zero : InUse h g ⊎ (g ≡ zero)

-- So many numbers in a row from the first on.
abbrev pub numbers_from : ℕ → ℕ → List ℕ
numbers_from first zero = []
numbers_from first (suc count) = first ∷ numbers_from (suc first) count

-- The first so many shipped choices from a heap.
pub record AreShipped (h : Heap) (count : ℕ) (cs : List ℕ) : Type 0 where
  pub greatest : ℕ
  pub is_greatest : IsGreatest h greatest
  pub in_order : cs ≡ numbers_from (suc greatest) count
