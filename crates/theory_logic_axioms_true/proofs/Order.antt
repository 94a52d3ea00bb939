-- The unsigned order, and the next word of a word that has one above it.
use Rattle.std.proofs.Common.{◌≡◌, ℕ, zero, suc, ◌+◌, ◌-◌, ◌<◌, ◌≤◌, refl, ap, ◌∙◌, arith, ◌⊎◌, inl, inr, ⊎_elim}
use Rattle.std.specs.Prelude.{false, Bool, nat_lt, ◌^◌, ◌%◌}
use Rattle.std.proofs.Math.Nat.{mod-eq_of_lt, add-mod_right}
use Rattle.std.proofs.lemmas.Bool.{lt-ltb, ltb-true, le-ltb, cases_lt, cases_eq}
use Rattle.theory_values.specs.Values.{v_bool, IsWord}
use Rattle.theory_logic_axioms_true.specs.WordLaws.{IsBelow, UnsignedOrder}

pub truth_of : {a b : Bool} → v_bool a ≡ v_bool b → a ≡ b
truth_of e = cc

pub below : (x y : ℕ) → IsBelow x y → x < y
below x y e = ltb-true x y (truth_of e)

pub is_below : (x y : ℕ) → x < y → IsBelow x y
is_below x y l = ap v_bool (lt-ltb x y l)

not_below : (x y : ℕ) → y ≤ x → v_bool (nat_lt x y) ≡ v_bool false
not_below x y l = ap v_bool (le-ltb x y l)

-- a word that has one above it has a next word
pub next_word : (x y : ℕ) → IsWord y → x < y → (x + 1) % 2 ^ 64 ≡ x + 1
next_word x y p l = mod-eq_of_lt (omega (arith, p, l))

before : (m x : ℕ) → x < m → (x ≡ 0 → ⊥) → (x + (m - 1)) % m < x
before m zero p n = absurd (n refl)
before m (suc x) p n =
    let e : suc x + (m - 1) ≡ x + m = omega (arith, p) in
    let f : (suc x + (m - 1)) % m ≡ x = ap (λ k. k % m) e ∙ add-mod_right x m ∙ mod-eq_of_lt (omega (arith, p)) in
    omega (arith, f)

compared : (x y : ℕ) → IsBelow x y ⊎ (x ≡ y) ⊎ IsBelow y x
compared x y =
    ⊎_elim (λ (l : x < y). inl (is_below x y l))
    (λ (r : y ≤ x). ⊎_elim (λ (e : x ≡ y). inr (inl e)) (λ (n : x ≡ y → ⊥). inr (inr (is_below y x (omega (arith, r, n))))) (cases_eq x y))
    (cases_lt x y)

pub order : UnsignedOrder
order = record {
  not_below_itself = λ x. not_below x x (omega arith);
  not_below_zero = λ x. not_below x 0 (omega arith);
  transitive = λ x y z p q. is_below x z (omega (arith, below x y p, below y z q));
  total = compared;
  below_next = λ x y p l. is_below x _ (omega (arith, next_word x y p (below x y l)));
  nothing_between = λ x y p l. not_below y _ (omega (arith, next_word x y p (below x y l), below x y l));
  before_is_below = λ x p n. is_below _ x (before (2 ^ 64) x p n);
}
