-- The comparison of skeletons is equality.
use Rattle.std.proofs.Common.{◌≡◌, refl, subst, true, ◌&&◌, arith}
use Rattle.std.proofs.lemmas.Bool.{and_parts}
use Rattle.theory_canonical.specs.Skeletons.{Skeleton, sk_o, sk_c, sk_arrow, sk_all}
use Rattle.canonical_forms_skeletons.specs.Same.{same_skeletons}

pub is_same : (s t : Skeleton) → same_skeletons s t ≡ true → s ≡ t
unfolding same_skeletons
is_same sk_o sk_o e = refl
is_same sk_c sk_c e = refl
is_same (sk_arrow s t) (sk_arrow u v) e = let p = and_parts (same_skeletons s u) (same_skeletons t v) e in λ j. sk_arrow (is_same s u p.0 j) (is_same t v p.1 j)
is_same (sk_all s) (sk_all t) e = λ j. sk_all (is_same s t e j)
is_same sk_o sk_c e = grind arith
is_same sk_o (sk_arrow u v) e = grind arith
is_same sk_o (sk_all t) e = grind arith
is_same sk_c sk_o e = grind arith
is_same sk_c (sk_arrow u v) e = grind arith
is_same sk_c (sk_all t) e = grind arith
is_same (sk_arrow s t) sk_o e = grind arith
is_same (sk_arrow s t) sk_c e = grind arith
is_same (sk_arrow s t) (sk_all u) e = grind arith
is_same (sk_all s) sk_o e = grind arith
is_same (sk_all s) sk_c e = grind arith
is_same (sk_all s) (sk_arrow u v) e = grind arith

pub compares_itself : (s : Skeleton) → same_skeletons s s ≡ true
unfolding same_skeletons
compares_itself sk_o = refl
compares_itself sk_c = refl
compares_itself (sk_arrow s t) = λ j. compares_itself s j && compares_itself t j
compares_itself (sk_all s) = compares_itself s

pub compares_same : (s t : Skeleton) → s ≡ t → same_skeletons s t ≡ true
compares_same s t e = subst (λ u. same_skeletons s u ≡ true) e (compares_itself s)
