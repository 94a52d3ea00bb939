-- What canonical trees are told of their free variables, of the values of the file and of the functions
-- that were made.
use Rattle.std.specs.Prelude.{ℕ, zero, suc, List, ◌∷◌}
use Rattle.theory_renaming.specs.Renaming.{Map}
use Rattle.theory_canonical.specs.Skeletons.{Skeleton, sk_o}

-- An entry of a context. Of an open entry it is known only that it is a monotype, a heap or a term of
-- a monotype.
pub data Standing : Type 0 where
  as_mono as_heap as_open : Standing
  as_term : Skeleton → Standing

-- An entry of which only the skeleton is told.
abbrev pub standing_of : Skeleton → Standing
standing_of sk_o = as_open
standing_of s = as_term s

-- The variable n, counted from the innermost, may be used as such an entry.
pub data Stands : List Standing → ℕ → Standing → Type 0 where
  here : {context : List Standing} {entry : Standing} → Stands (entry ∷ context) zero entry
  open_mono : {context : List Standing} → Stands (as_open ∷ context) zero as_mono
  open_heap : {context : List Standing} → Stands (as_open ∷ context) zero as_heap
  open_term : {context : List Standing} → Stands (as_open ∷ context) zero (as_term sk_o)
  there : {context : List Standing} {entry inner : Standing} {n : ℕ}
      → Stands context n entry
      → Stands (inner ∷ context) (suc n) entry

-- The skeletons of the values, and those of the made functions without their captured terms.
pub record Heads : Type 0 where
  pub vals : List Skeleton
  pub made : List Skeleton

pub data HasSkeleton : List Skeleton → ℕ → Skeleton → Type 0 where
  first_head : {others : List Skeleton} {s : Skeleton} → HasSkeleton (s ∷ others) zero s
  later_head : {others : List Skeleton} {s t : Skeleton} {n : ℕ}
      → HasSkeleton others n s
      → HasSkeleton (t ∷ others) (suc n) s

-- A map that gives for each variable one that may be used alike.
pub record KeepsStandings (m : Map) (inside outside : List Standing) : Type 0 where
  pub at : (n : ℕ) (entry : Standing) → Stands inside n entry → Stands outside (m n) entry
