-- A number, or 2^64 - 1 where it is more.
use Rattle.std.specs.Prelude.{◌≡◌, ℕ, suc, ◌+◌, ◌-◌, ◌^◌, min, max}

abbrev pub saturated : ℕ → ℕ
saturated n = min n (2 ^ 64 - 1)

pub record SaturationKeeps : Type 0 where
  pub sums : (x y : ℕ) → saturated (saturated x + saturated y) ≡ saturated (x + y)
  pub greater : (x y : ℕ) → max (saturated x) (saturated y) ≡ saturated (max x y)
  pub next : (x : ℕ) → saturated (saturated x + 1) ≡ saturated (suc x)
