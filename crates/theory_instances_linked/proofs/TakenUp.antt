-- Each instance of a list was taken up with the key of its number.
use Rattle.std.proofs.Common.{◌≡◌, ℕ, zero, suc, ◌+◌, List, [], ◌∷◌, ◌++◌, Some, None, slice_get, refl, subst, arith}
use Rattle.std.proofs.lemmas.Option.{same_Some}
use Rattle.theory_instances.specs.Calls.{Program}
use Rattle.theory_instances.specs.Keys.{Key}
use Rattle.theory_instances.specs.Lists.{Meets, meets_none, meets_known, meets_new, Taken, TakesUp, TakesAll, takes_end, takes_next}

none_or_some : {A : Type 0} {x : A} → None ≡ Some x → ⊥
none_or_some q = cc

in_front : (xs ys : List Key) (n : ℕ) (x : Key) → slice_get xs n ≡ Some x → slice_get (xs ++ ys) n ≡ Some x
in_front [] ys n x q = absurd (none_or_some q)
in_front (y ∷ xs) ys zero x q = q
in_front (y ∷ xs) ys (suc n) x q = in_front xs ys n x q

met_stays : {keys met after : List Key} → Meets keys met after → (n : ℕ) (k : Key) → slice_get keys n ≡ Some k → slice_get after n ≡ Some k
met_stays meets_none n k q = q
met_stays (meets_known i l a) n k q = met_stays a n k q
met_stays {keys = keys} (meets_new {key = key} f l a) n k q = met_stays a n k (in_front keys (key ∷ []) n k q)

taken_stays : {p : Program} {keys final : List Key} {number : ℕ} {rows : List Taken}
    → TakesAll p keys number rows final
    → (n : ℕ) (k : Key)
    → slice_get keys n ≡ Some k
    → slice_get final n ≡ Some k
taken_stays (takes_end r) n k q = q
taken_stays (takes_next r u m rest) n k q = taken_stays rest n k (met_stays m n k q)

-- The key with which an instance was taken up.
pub record TakenWith (p : Program) (keys : List Key) (number : ℕ) (taken : Taken) : Type 0 where
  pub key : Key
  pub at : slice_get keys number ≡ Some key
  pub takes : TakesUp p number key taken

pub taken_up : {p : Program} {keys final : List Key} {number : ℕ} {rows : List Taken}
    → TakesAll p keys number rows final
    → (n : ℕ) (t : Taken)
    → slice_get rows n ≡ Some t
    → TakenWith p final (number + n) t
taken_up (takes_end r) n t q = absurd (none_or_some q)
taken_up {p = p} {final = final} {number = number} (takes_next {key = key} {taken = taken} r u m rest) zero t q =
    let i : number ≡ number + 0 = omega arith in
    subst (λ n. TakenWith p final n t) i
    (record { key = key; at = taken_stays rest number key (met_stays m number key r); takes = subst (TakesUp p number key) (same_Some taken t q) u })
taken_up {p = p} {final = final} {number = number} (takes_next r u m rest) (suc n) t q =
    let i : suc number + n ≡ number + suc n = omega arith in subst (λ k. TakenWith p final k t) i (taken_up rest n t q)
