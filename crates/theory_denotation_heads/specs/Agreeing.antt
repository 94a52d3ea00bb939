-- When two entries of heads agree on the heads that a tree may use.
use Rattle.std.specs.Prelude.{◌≡◌, ℕ, List}
use Rattle.theory_values.specs.Values.{Value}
use Rattle.theory_canonical.specs.Skeletons.{Skeleton}
use Rattle.theory_canonical.specs.Contexts.{Heads, HasSkeleton}
use Rattle.theory_denotation.specs.Valuations.{HeadEntries}

pub record HeadsAgree (heads : Heads) (e e' : HeadEntries) : Type 0 where
  pub vals : (n : ℕ) (s : Skeleton) → HasSkeleton heads.vals n s → e'.vals n ≡ e.vals n
  pub made : (n : ℕ) (s : Skeleton) (values : List Value)
      → HasSkeleton heads.made n s
      → e'.made n values ≡ e.made n values
