-- A file is derived where its items derive and each obligation and each proof, one after the other, is as it has to be.
use Rattle.std.proofs.Common.{◌≡◌, ℕ, zero, suc, List, [], ◌∷◌, Some, None, slice_get, subst}
use Rattle.std.proofs.lemmas.Option.{same_Some}
use Rattle.theory_typing.specs.Contexts.{Environment, Obligation}
use Rattle.theory_typing.specs.Laws.{none}
use Rattle.theory_items.specs.Items.{ItemTree}
use Rattle.theory_file_derived.specs.Derived.{ProofItem, DerivesAll, owed_at, IsProvedOnce, IsDerived}

no_element : {A : Type 0} {x : A} → None ≡ Some x → ⊥
no_element q = cc

-- something holds of each element with its number
abbrev pub EachAt : {A : Type 0} → (ℕ → A → Type 0) → List A → Type 0
EachAt P [] = Unit {0}
EachAt P (x ∷ xs) = P 0 x × EachAt (λ n. P (suc n)) xs

each_at : {A : Type 0} (P : ℕ → A → Type 0) (xs : List A) → EachAt P xs → (n : ℕ) (x : A) → slice_get xs n ≡ Some x → P n x
each_at P [] e n x q = absurd (no_element q)
each_at P (y ∷ xs) e zero x q = subst (P 0) (same_Some y x q) e.0
each_at P (y ∷ xs) e (suc n) x q = each_at (λ m. P (suc m)) xs e.1 n x q

-- each obligation of a row is proved once
abbrev pub ProvedRow : Environment → List ProofItem → ℕ → List Obligation → Type 0
ProvedRow final proofs item owed = EachAt (λ n o. IsProvedOnce final proofs item (suc n) o) owed

abbrev pub Aimed : List (List Obligation) → ℕ → ProofItem → Type 0
Aimed rows n proof = (o : Obligation) × (owed_at rows proof.item proof.number ≡ Some o)

found : (P : ℕ → ℕ → Obligation → Type 0) (rows : List (List Obligation))
    → EachAt (λ item owed. EachAt (λ n o. P item (suc n) o) owed) rows
    → (item number : ℕ) (o : Obligation)
    → owed_at rows (Some item) number ≡ Some o
    → P item number o
found P [] e item number o q = absurd (no_element q)
found P (row ∷ rows) e zero zero o q = absurd (no_element q)
found P (row ∷ rows) e zero (suc n) o q = each_at (λ m. P 0 (suc m)) row e.0 n o q
found P (row ∷ rows) e (suc item) number o q = found (λ i. P (suc i)) rows e.1 item number o q

pub derived_by : {items : List ItemTree} {proofs : List ProofItem} {final : Environment} (rows : List (List Obligation))
    → DerivesAll none items final rows
    → EachAt (ProvedRow final proofs) rows
    → EachAt (Aimed rows) proofs
    → IsDerived items proofs final
derived_by {proofs = proofs} {final = final} rows derives proved aimed = record {
  rows = rows;
  derives = derives;
  proved = found (IsProvedOnce final proofs) rows proved;
  aimed = λ n proof q. each_at (Aimed rows) proofs aimed n proof q;
}
