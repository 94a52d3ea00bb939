-- Contexts of values alone, and maps between them.
use Rattle.std.proofs.Common.{◌≡◌, ◌<◌, ℕ, zero, suc, ◌+◌, List, [], ◌∷◌, length, map, Bool, true, false, nat_eq, if◌then◌else◌, Some}
use Rattle.std.proofs.Common.{slice_get, refl, sym, ap, subst, arith}
use Rattle.htt_syntax.specs.Trees.{TermTree}
use Rattle.theory_renaming.specs.Renaming.{Map}
use Rattle.theory_canonical.specs.Skeletons.{Skeleton, sk_o}
use Rattle.theory_canonical.specs.Contexts.{Standing, as_term, Stands, here, there, Heads, HasSkeleton, first_head, later_head, KeepsStandings}
use Rattle.theory_canonical.specs.Canonical.{IsCanonical}
use Rattle.theory_canonical.proofs.Renamed as renamed
use Rattle.theory_renaming.proofs.Identity.{term_stays}
use Rattle.theory_instances.specs.Keys.{number_in}
use Rattle.theory_instances_canonical.specs.Keys.{values_context}

-- an entry of such a context
pub stands_is : (m n : ℕ) (entry : Standing) → Stands (values_context m) n entry → (entry ≡ as_term sk_o) × (n < m)
stands_is zero n entry d = elim d [ ]
stands_is (suc m) zero entry here = (refl, omega arith)
stands_is (suc m) (suc n) entry (there d) = let r = stands_is m n entry d in let q = r.1 in (r.0, omega (arith, q))

pub stands_there : (m n : ℕ) → n < m → Stands (values_context m) n (as_term sk_o)
stands_there zero n q = absurd (omega (arith, q))
stands_there (suc m) zero q = here
stands_there (suc m) (suc n) q = there (stands_there m n (omega (arith, q)))

-- a map into enough variables
pub keeps_values : (f : Map) (m k : ℕ) → ((n : ℕ) → n < m → f n < k) → KeepsStandings f (values_context m) (values_context k)
keeps_values f m k within = record {
  at = λ n entry d. let r = stands_is m n entry d in subst (Stands (values_context k) (f n)) (sym (r.0)) (stands_there k (f n) (within n (r.1)));
}

pub number_within : (captured : List ℕ) (m n : ℕ) → n < m → number_in captured n < length captured + m
number_within [] m n q = omega (arith, q)
number_within (x ∷ captured) m n q = by (nat_eq n x) (number_within captured m n q)
  where
    by : (b : Bool) → number_in captured n < length captured + m → (if b then zero else suc (number_in captured n)) < suc (length captured) + m
    by true r = omega arith
    by false r = omega (arith, r)

-- a closed term in any context
pub closed_within : {heads : Heads} {term : TermTree} {s : Skeleton} (g : List Standing) → IsCanonical heads [] term s → IsCanonical heads g term s
closed_within {heads = heads} {term = term} {s = s} g c =
    subst (λ (t : TermTree). IsCanonical heads g t s) (term_stays (λ n. n) (λ n. refl) term) (renamed.term_renamed c (record { at = λ n entry d. elim d [ ] }))

-- an element of a list is at its place among the skeletons
pub skeleton_there : {X : Type 0} (f : X → Skeleton) (xs : List X) (n : ℕ) (x : X) → slice_get xs n ≡ Some x → HasSkeleton (map f xs) n (f x)
skeleton_there f [] n x q = absurd (cc)
skeleton_there f (y ∷ xs) zero x q = let same : y ≡ x = cc in subst (λ s. HasSkeleton (f y ∷ map f xs) zero s) (ap f same) first_head
skeleton_there f (y ∷ xs) (suc n) x q = later_head (skeleton_there f xs n x q)
