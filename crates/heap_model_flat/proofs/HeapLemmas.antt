-- A heap with one block more or less.
use Rattle.std.proofs.Common.{◌≡◌, ℕ, ◌<◌, Option, Some, None, subst, arith, ◌⊎◌, ⊎_elim}
use Rattle.std.specs.Prelude.{All}
use Rattle.std.proofs.lemmas.Bool.{cases_eq}
use Rattle.std.proofs.lemmas.Bool.Decides.{nat_tests}
use Rattle.theory_values.specs.Values.{IsWord}
use Rattle.theory_values.specs.Heaps.{Block, Heap, IsHeap, with_place, with_block, without_block, empty_heap}

-- what is at a location is the block that was put there, or stood there before
placed : (h : Heap) (l m : ℕ) (o : Option Block) (c : Block) → with_place h l o m ≡ Some c → ((m ≡ l) × (o ≡ Some c)) ⊎ (h m ≡ Some c)
placed h l m o c e = ⊎_elim (λ (q : m ≡ l). grind (arith, nat_tests)) (λ (q : m ≡ l → ⊥). grind (arith, nat_tests)) (cases_eq m l)

pub empty_is_heap : IsHeap empty_heap
empty_is_heap = record { above_zero = λ l b e. cc; at_words = λ l b e. cc; of_words = λ l b e. cc }

pub with_block_is_heap : (h : Heap) (l : ℕ) (b : Block) → IsHeap h → 0 < l → IsWord l → All IsWord b → IsHeap (with_block h l b)
with_block_is_heap h l b i low word words = record {
  above_zero = λ m c e. ⊎_elim (λ p. omega (arith, p.0)) (λ p. i.above_zero m c p) (placed h l m (Some b) c e);
  at_words = λ m c e. ⊎_elim (λ p. omega (arith, p.0)) (λ p. i.at_words m c p) (placed h l m (Some b) c e);
  of_words = λ m c e.
      ⊎_elim (λ (p : (m ≡ l) × (Some b ≡ Some c)). subst (λ x. All IsWord x) (some_same p.1) words) (λ p. i.of_words m c p)
      (placed h l m (Some b) c e);
}
  where
    some_same : {x y : Block} → Some x ≡ Some y → x ≡ y
    some_same e = cc

pub without_block_is_heap : (h : Heap) (l : ℕ) → IsHeap h → IsHeap (without_block h l)
without_block_is_heap h l i = record {
  above_zero = λ m c e. ⊎_elim (λ p. absurd (none_is_no_block p.1)) (λ p. i.above_zero m c p) (placed h l m None c e);
  at_words = λ m c e. ⊎_elim (λ p. absurd (none_is_no_block p.1)) (λ p. i.at_words m c p) (placed h l m None c e);
  of_words = λ m c e. ⊎_elim (λ p. absurd (none_is_no_block p.1)) (λ p. i.of_words m c p) (placed h l m None c e);
}
  where
    none_is_no_block : {x : Block} → None ≡ Some x → ⊥
    none_is_no_block e = cc
