-- The first row that passes a test, and the row that a proof names.
use Rattle.std.proofs.Common.{◌≡◌, ℕ, zero, suc, ◌+◌, Bool, true, false, cond, List, [], ◌∷◌, Option, Some, None, refl, sym, ap, ◌∙◌, arith}
use Rattle.std.specs.Prelude.{slice_get, option_map, MatchOption}
use Rattle.std.specs.List.{position, position_from}
use Rattle.std.proofs.lemmas.Iterator.Adapters.{position_from-zero}
use Rattle.obligations.specs.declared.row.Row.{Row}
use Rattle.obligations.specs.Rows.{is_free}
use Rattle.obligations.specs.Claims.{Names, NoneNamed, IsNamed, StandsAs, is_of}
use Rattle.obligations.proofs.Rows.{some_is}

module _ (p : Row → Bool) where
  none_at : (n : ℕ) (x : Row) (xs : List Row) (b : Bool)
      → p x ≡ b
      → cond b (Some n) (position_from p (n + 1) xs) ≡ None
      → (position_from p (n + 1) xs ≡ None → (k : ℕ) (r : Row) → slice_get xs k ≡ Some r → p r ≡ false)
      → (k : ℕ) (r : Row)
      → slice_get (x ∷ xs) k ≡ Some r
      → p r ≡ false
  none_at n x xs true is none others k r there = grind arith
  none_at n x xs false is none others zero r there = grind arith
  none_at n x xs false is none others (suc k) r there = others none k r there

  none_from : (n : ℕ) (rows : List Row) → position_from p n rows ≡ None → (k : ℕ) (r : Row) → slice_get rows k ≡ Some r → p r ≡ false
  none_from n [] none k r there = grind arith
  none_from n (x ∷ xs) none k r there = none_at n x xs (p x) refl none (none_from (n + 1) xs) k r there

  Passes : ℕ → List Row → ℕ → Type 0
  Passes n rows k = (m : ℕ) × (k ≡ n + m) × (r : Row) × (slice_get rows m ≡ Some r) × (p r ≡ true)

  some_at : (n : ℕ) (x : Row) (xs : List Row) (b : Bool)
      → p x ≡ b
      → (k : ℕ)
      → cond b (Some n) (position_from p (n + 1) xs) ≡ Some k
      → (position_from p (n + 1) xs ≡ Some k → Passes (n + 1) xs k)
      → Passes n (x ∷ xs) k
  unfolding Passes
  some_at n x xs true is k found others = let e : k ≡ n + 0 = grind arith in (0, e, x, refl, is)
  some_at n x xs false is k found others =
      let later = others found in
      let at = later.1 in
      (suc later.0, omega (arith, at), later.2, later.3, later.4)

  some_from : (n : ℕ) (rows : List Row) (k : ℕ) → position_from p n rows ≡ Some k → Passes n rows k
  some_from n [] k found = absurd (grind arith)
  some_from n (x ∷ xs) k found = some_at n x xs (p x) refl k found (some_from (n + 1) xs k)

  pub none_passes : (rows : List Row) → position p rows ≡ None → (k : ℕ) (r : Row) → slice_get rows k ≡ Some r → p r ≡ false
  none_passes rows none = none_from 0 rows (sym (position_from-zero p rows) ∙ none)

  pub one_passes : (rows : List Row) (k : ℕ) → position p rows ≡ Some k → (r : Row) × (slice_get rows k ≡ Some r) × (p r ≡ true)
  unfolding Passes
  one_passes rows k found =
      let there = some_from 0 rows k (sym (position_from-zero p rows) ∙ found) in
      let at : there.0 ≡ k = (let e = there.1 in omega (arith, e)) in
      (there.2, sym (ap (slice_get rows) at) ∙ there.3, there.4)

pub none_without_item : (number : ℕ) (rows : List Row) → NoneNamed None number rows
none_without_item number rows k r there named = let e = named.of_item in absurd (grind (arith, e))

fits : (item number : ℕ) (r : Row) → is_of item number r ≡ true → Names (Some item) number r
fits item number r e =
    let a : item ≡ r.item = grind (arith, e) in
    let b : number ≡ r.number = grind (arith, e) in
    record { of_item = ap Some a; of_number = b }

fails : (item number : ℕ) (r : Row) → is_of item number r ≡ false → Names (Some item) number r → ⊥
fails item number r e named = let a = named.of_item in let b = named.of_number in grind (arith, e, a, b)

pub named_found : (item number : ℕ) (rows : List Row) (found : Option ℕ)
    → found ≡ position (is_of item number) rows
    → MatchOption found (NoneNamed (Some item) number rows) (λ row. IsNamed (Some item) number rows row)
named_found item number rows None is =
    λ k r there named. fails item number r (none_passes (is_of item number) rows (sym is) k r there) named
named_found item number rows (Some row) is =
    let there = one_passes (is_of item number) rows row (sym is) in
    (there.0, there.1, fits item number there.0 there.2)

pub stands_as : (free : Bool) (target : Option ℕ) (number : ℕ) (rows : List Row) (row : ℕ)
    → IsNamed target number rows row
    → option_map is_free (slice_get rows row) ≡ Some free
    → StandsAs free target number rows row
stands_as free target number rows row named state =
    let at = named.1 in
    let e : is_free named.0 ≡ free = some_is (is_free named.0) free (sym (ap (option_map is_free) at) ∙ state) in
    record { there = named.0; stands = at; named = named.2; state = e }
