-- A limit is tested by the number that is told, since limits are below 2^64 - 1.
use Rattle.std.proofs.Common.{◌≡◌, ℕ, ◌-◌, ◌<◌, ◌≤◌, ◌^◌, ◌⊎◌, inl, inr, sym, ap, ◌∙◌, arith}
use Rattle.std.specs.Prelude.{true, false, nat_le}
use Rattle.std.proofs.lemmas.Bool.{le-leb, lt-leb}
use Rattle.std.proofs.lemmas.Bool.Decides.{leb_tells}
use Rattle.theory_saturation.specs.Saturation.{saturated}
use Rattle.htt_syntax_measure.specs.declared.size.Size.{Size}
use Rattle.htt_syntax_measure.specs.Measures.{told}

tested : (n limit : ℕ) → limit < 2 ^ 64 - 1 → nat_le (saturated n) limit ≡ nat_le n limit
tested n limit small = by_case (leb_tells n limit)
  where
    by_case : ((nat_le n limit ≡ true) × (n ≤ limit)) ⊎ ((nat_le n limit ≡ false) × (limit < n))
        → nat_le (saturated n) limit ≡ nat_le n limit
    by_case (inl (is, within)) = le-leb (saturated n) limit (omega (arith, within)) ∙ sym is
    by_case (inr (is, past)) = lt-leb (saturated n) limit (omega (arith, past, small)) ∙ sym is

pub few_nodes : (z : Size) (nodes depth : ℕ) → z ≡ told nodes depth → nat_le z.nodes 1_000_000 ≡ nat_le nodes 1_000_000
unfolding told
few_nodes z nodes depth is = ap (λ y. nat_le y.nodes 1_000_000) is ∙ tested nodes 1_000_000 (omega arith)

pub flat : (z : Size) (nodes depth : ℕ) → z ≡ told nodes depth → nat_le z.depth 1_000 ≡ nat_le depth 1_000
unfolding told
flat z nodes depth is = ap (λ y. nat_le y.depth 1_000) is ∙ tested depth 1_000 (omega arith)
