-- What holds of the number of each call in a flat body.
use Rattle.std.specs.Prelude.{ℕ}
use Rattle.theory_flat.specs.Flat.{FlatTree, FlatStepTree, flat_ret, flat_step, flat_call, flat_if}

unfoldable mutual
  pub EachCall : (ℕ → Type 0) → FlatTree → Type 0
  EachCall P (flat_ret term) = Unit {0}
  EachCall P (flat_step step others) = EachCallOfStep P step × EachCall P others

  pub EachCallOfStep : (ℕ → Type 0) → FlatStepTree → Type 0
  EachCallOfStep P (flat_call number params) = P number
  EachCallOfStep P (flat_if mono test on_true on_false) = EachCall P on_true × EachCall P on_false
  EachCallOfStep P step = Unit {0}
