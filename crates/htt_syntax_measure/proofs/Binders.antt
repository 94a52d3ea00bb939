-- Counts of binders, as 64 bits hold them.
use Rattle.std.proofs.Common.{◌≡◌, ℕ, ◌+◌, ◌≤◌, ◌<◌, arith}
use Rattle.std.specs.Prelude.{min, ◌-◌, ◌^◌}
use Rattle.theory_saturation.specs.Saturation.{saturated}

pub deeper_by : (depth by d z : ℕ) → z ≡ min (depth + by) (2 ^ 64 - 1) → depth ≡ saturated d → z ≡ saturated (d + by)
deeper_by depth by d z is under = omega (arith, is, under)

-- under each of a row of binders
pub start_depth : (depth d : ℕ) → depth ≡ saturated d → depth ≡ saturated (d + 0)
start_depth depth d is = omega (arith, is)

pub next_depth : (d i z : ℕ) → z ≡ saturated ((d + i) + 1) → z ≡ saturated (d + (i + 1))
next_depth d i z is = omega (arith, is)

pub zero_within : (n : ℕ) → 0 ≤ n
zero_within n = omega arith

pub next_within : (i n : ℕ) → i < n → i + 1 ≤ n
next_within i n below = omega (arith, below)
