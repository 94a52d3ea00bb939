-- What joins and counts one more keeps the number that it stands for.
use Rattle.std.proofs.Common.{ℕ, suc, ◌+◌, max, ◌≡◌, refl, subst, arith}
use Rattle.theory_saturation.specs.Saturation.{saturated, SaturationKeeps}

-- the number a is x, as far as 64 bits go
pub record Saturates (a x : ℕ) : Type 0 where
  pub is : a ≡ saturated x

pub nil : Saturates 0 0
nil = record { is = refl }

pub single : Saturates 1 1
single = record { is = refl }

-- the same number, written otherwise
pub fit : {a x y : ℕ} → Saturates a x → x ≡ y → Saturates a y
fit {a} {x} {y} p e = subst (Saturates a) e p

pub one_more : {a x : ℕ} → Saturates a x → Saturates (saturated (a + 1)) (suc x)
one_more {a} {x} p = record { is = let e = p.is in omega (arith, e) }

pub two : {a b x y : ℕ} → Saturates a x → Saturates b y → Saturates (saturated (a + b)) (x + y)
two {a} {b} {x} {y} p q = record { is = let e = p.is in let f = q.is in omega (arith, e, f) }

pub greater_of : {a b x y : ℕ} → Saturates a x → Saturates b y → Saturates (max a b) (max x y)
greater_of {a} {b} {x} {y} p q = record { is = let e = p.is in let f = q.is in omega (arith, e, f) }

pub keeps : SaturationKeeps
keeps = record { sums = λ x y. omega arith; greater = λ x y. omega arith; next = λ x. omega arith }
