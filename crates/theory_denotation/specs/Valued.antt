-- When a valuation gives each term variable a denotation of its skeleton, and the entries of heads do.
use Rattle.std.specs.Prelude.{◌≡◌, ℕ, List, [], ◌∷◌}
use Rattle.theory_values.specs.Values.{Value}
use Rattle.theory_truth.specs.Worlds.{Thing, World, th_mono, th_value, th_heap}
use Rattle.theory_canonical.specs.Skeletons.{Skeleton, sk_o, sk_c, sk_arrow, sk_all}
use Rattle.theory_canonical.specs.Contexts.{Standing, as_term, Stands, Heads, HasSkeleton}
use Rattle.theory_denotation.specs.Valuations.{Domain, ValuationEntry, den_mono, den_heap, den_term, Valuation}
use Rattle.theory_denotation.specs.Valuations.{entry_at, HeadEntries}

-- The entry is a denotation at the skeleton.
pub record IsOf (s : Skeleton) (x : ValuationEntry) : Type 0 where
  pub of : Domain s
  pub is : x ≡ den_term s of

pub record ContextValued (g : List Standing) (w : Valuation) : Type 0 where
  pub at : (n : ℕ) (s : Skeleton) → Stands g n (as_term s) → IsOf s (entry_at w n)

pub record HeadsValued (heads : Heads) (e : HeadEntries) : Type 0 where
  pub vals : (n : ℕ) (s : Skeleton) → HasSkeleton heads.vals n s → IsOf s (e.vals n)
  pub made : (n : ℕ) (s : Skeleton) (values : List Value) → HasSkeleton heads.made n s → IsOf s (e.made n values)

-- A skeleton that ends in a computation.
pub data EndsInRun : Skeleton → Type 0 where
  ends_c : EndsInRun sk_c
  ends_arrow : {s t : Skeleton} → EndsInRun t → EndsInRun (sk_arrow s t)
  ends_all : {s : Skeleton} → EndsInRun s → EndsInRun (sk_all s)

pub record HeadsRun (heads : Heads) : Type 0 where
  pub vals : (n : ℕ) (s : Skeleton) → HasSkeleton heads.vals n s → EndsInRun s
  pub made : (n : ℕ) (s : Skeleton) → HasSkeleton heads.made n s → EndsInRun s

-- Each term variable of the context is of a monotype.
pub record OnlyValues (g : List Standing) : Type 0 where
  pub at : (n : ℕ) (s : Skeleton) → Stands g n (as_term s) → s ≡ sk_o

-- The valuation of a world.
abbrev pub entry_of_thing : Thing → ValuationEntry
entry_of_thing (th_mono t) = den_mono t
entry_of_thing (th_value v) = den_term sk_o v
entry_of_thing (th_heap h) = den_heap h

abbrev pub valuation_of : World → Valuation
valuation_of [] = []
valuation_of (x ∷ w) = entry_of_thing x ∷ valuation_of w
