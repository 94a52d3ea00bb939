-- Sums, differences and products modulo 2^64.
use Rattle.std.proofs.Common.{◌≡◌, ℕ, ◌+◌, ◌-◌, ◌*◌, ◌<◌, sym, ap, ◌∙◌, arith}
use Rattle.std.specs.Prelude.{◌^◌, ◌%◌}
use Rattle.std.proofs.Math.Nat.{mod-eq_of_lt, mod-add-mod, add-mod-mod, add-mod_right, add_comm, add_assoc, mul_comm, mul_assoc, mul-add}
use Rattle.std.proofs.lemmas.Nat.{mul-mod_first, mul-mod_second}
use Rattle.theory_values.specs.Values.{v_word, IsWord}
use Rattle.theory_logic_axioms_true.specs.WordLaws.{SumsAndProducts}

regroups : (m x y z : ℕ) → ((x + y) % m + z) % m ≡ (x + (y + z) % m) % m
regroups m x y z = mod-add-mod (x + y) m z ∙ ap (λ n. n % m) (add_assoc x y z) ∙ sym (add-mod-mod x (y + z) m)

multiplies : (m x y z : ℕ) → ((x * y) % m * z) % m ≡ (x * ((y * z) % m)) % m
multiplies m x y z = mul-mod_first (x * y) z m ∙ ap (λ n. n % m) (mul_assoc x y z) ∙ sym (mul-mod_second x (y * z) m)

spreads : (m x y z : ℕ) → (x * ((y + z) % m)) % m ≡ ((x * y) % m + (x * z) % m) % m
spreads m x y z = mul-mod_second x (y + z) m ∙ ap (λ n. n % m) (mul-add x y z) ∙ sym (add-mod-mod (x * y) (x * z) m) ∙ sym (mod-add-mod (x * y) m ((x * z) % m))

undone : (m x y : ℕ) → x < m → y < m → ((x + (m - y)) % m + y) % m ≡ x
undone m x y p q = let e : x + (m - y) + y ≡ x + m = omega (arith, q) in mod-add-mod (x + (m - y)) m y ∙ ap (λ n. n % m) e ∙ add-mod_right x m ∙ mod-eq_of_lt p

taken_back : (m x y : ℕ) → x < m → y < m → ((x + y) % m + (m - y)) % m ≡ x
taken_back m x y p q =
    let e : x + y + (m - y) ≡ x + m = omega (arith, q) in
    mod-add-mod (x + y) m (m - y) ∙ ap (λ n. n % m) e ∙ add-mod_right x m ∙ mod-eq_of_lt p

pub word_mod : (n m : ℕ) → n ≡ m → v_word (n % 2 ^ 64) ≡ v_word (m % 2 ^ 64)
word_mod n m e = ap (λ k. v_word (k % 2 ^ 64)) e

pub word_kept : (n x : ℕ) → IsWord x → n ≡ x → v_word (n % 2 ^ 64) ≡ v_word x
word_kept n x p e = word_mod n x e ∙ ap v_word (mod-eq_of_lt p)

pub sums : SumsAndProducts
sums = record {
  sum_commutes = λ x y. word_mod _ _ (add_comm x y);
  product_commutes = λ x y. word_mod _ _ (mul_comm x y);
  sum_regroups = λ x y z. ap v_word (regroups (2 ^ 64) x y z);
  product_regroups = λ x y z. ap v_word (multiplies (2 ^ 64) x y z);
  zero_added = λ x p. word_kept (x + 0) x p (omega arith);
  times_one = λ x p. word_kept (x * 1) x p (omega arith);
  times_zero = λ x. word_mod (x * 0) 0 (omega arith);
  product_of_sum = λ x y z. ap v_word (spreads (2 ^ 64) x y z);
  difference_and_sum = λ x y p q. ap v_word (undone (2 ^ 64) x y p q);
  sum_and_difference = λ x y p q. ap v_word (taken_back (2 ^ 64) x y p q);
}
