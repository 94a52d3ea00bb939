-- Heaps of which one place is changed, beside others.
use Rattle.std.proofs.Common.{◌≡◌, ◌≢◌, ℕ, ◌<◌, Option, Some, None, refl, sym, ap, ◌∙◌, subst, arith, ⊎_elim}
use Rattle.std.specs.Prelude.{All}
use Rattle.std.proofs.lemmas.Bool.{cases_eq}
use Rattle.std.proofs.lemmas.Bool.Decides.{nat_tests}
use Rattle.theory_values.specs.Values.{IsWord}
use Rattle.theory_values.specs.Heaps.{Block, Heap, IsHeap, single_block, with_place, with_block, without_block, IsOnly, Joins, IsJoin}
use Rattle.theory_truth.proofs.Stable.{some_is_one}

pub at_place : (h : Heap) (l : ℕ) (o : Option Block) (m : ℕ) → m ≡ l → with_place h l o m ≡ o
at_place h l o m q = grind (arith, nat_tests)

pub beside_place : (h : Heap) (l : ℕ) (o : Option Block) (m : ℕ) → m ≢ l → with_place h l o m ≡ h m
beside_place h l o m q = grind (arith, nat_tests)

pub joins_along : {x y a c b d : Option Block} → x ≡ y → a ≡ c → b ≡ d → Joins x a b → Joins y c d
joins_along p q r = subst (λ (T : Type 0). T) (λ j. Joins (p j) (q j) (r j))

pub joins_left : (x a b : Option Block) (c : Block) → Joins x a b → a ≡ Some c → (x ≡ Some c) × (b ≡ None)
joins_left None None None c j e = (grind arith, grind arith)
joins_left _ _ _ c j e = (grind arith, grind arith)

pub joins_none : (x a b : Option Block) → Joins x a b → x ≡ None → (a ≡ None) × (b ≡ None)
joins_none None None None j e = (grind arith, grind arith)
joins_none _ _ _ j e = (grind arith, grind arith)

-- of the same at the other places
pub joins_nothing : (x : Option Block) → Joins x x None
joins_nothing None = refl
joins_nothing (Some a) = refl

-- one place is changed in the whole and in a part, where the other part has nothing
pub place_changed : {whole own frame : Heap} (l : ℕ) (o : Option Block)
    → IsJoin whole own frame
    → frame l ≡ None
    → IsJoin (with_place whole l o) (with_place own l o) frame
place_changed {whole = whole} {own = own} {frame = frame} l o j e = record {
  each = λ m. ⊎_elim
      (λ (q : m ≡ l). joins_along (sym (at_place whole l o m q)) (sym (at_place own l o m q)) (sym (ap frame q ∙ e)) (joins_nothing o))
      (λ (q : m ≡ l → ⊥). joins_along (sym (beside_place whole l o m q)) (sym (beside_place own l o m q)) refl (j.each m))
      (cases_eq m l);
}

-- a block is added where nothing was
pub block_added : {own : Heap} (l : ℕ) (b : Block) → own l ≡ None → IsJoin (with_block own l b) own (single_block l b)
block_added {own = own} l b e = record {
  each = λ m. ⊎_elim
      (λ (q : m ≡ l). joins_along (sym (at_place own l (Some b) m q)) (sym (ap own q ∙ e)) (sym (at_place (λ k. None) l (Some b) m q)) refl)
      (λ (q : m ≡ l → ⊥). joins_along (sym (beside_place own l (Some b) m q)) refl (sym (beside_place (λ k. None) l (Some b) m q)) (joins_nothing (own m)))
      (cases_eq m l);
}

-- the one block is replaced by another, or taken away
pub block_replaced : {own g k : Heap} (l : ℕ) (b c : Block) → IsJoin own g k → IsOnly g l b → IsJoin (with_block own l c) (single_block l c) k
block_replaced {own = own} {g = g} {k = k} l b c j o = record {
  each = λ m. ⊎_elim
      (λ (q : m ≡ l).
      joins_along (sym (at_place own l (Some c) m q)) (sym (at_place (λ i. None) l (Some c) m q))
      (sym (ap k q ∙ (joins_left (own l) (g l) (k l) b (j.each l) o.here).1)) refl)
      (λ (q : m ≡ l → ⊥). joins_along (sym (beside_place own l (Some c) m q)) (o.others m q ∙ sym (beside_place (λ i. None) l (Some c) m q)) refl (j.each m))
      (cases_eq m l);
}

pub block_taken : {own g k : Heap} (l : ℕ) (b : Block) → IsJoin own g k → IsOnly g l b → (m : ℕ) → without_block own l m ≡ k m
block_taken {own = own} {g = g} {k = k} l b j o m = ⊎_elim
    (λ (q : m ≡ l). at_place own l None m q ∙ sym (ap k q ∙ (joins_left (own l) (g l) (k l) b (j.each l) o.here).1))
    (λ (q : m ≡ l → ⊥). beside_place own l None m q ∙ subst (λ (x : Option Block). Joins (own m) x (k m)) (o.others m q) (j.each m))
    (cases_eq m l)

-- a heap stays one where a block of words is put at a word that isn't 0, and where one is taken away
none_is_not_some : {b : Block} → None ≡ Some b → ⊥
none_is_not_some e = cc

pub heap_with : {h : Heap} (l : ℕ) (b : Block) → IsHeap h → 0 < l → IsWord l → All IsWord b → IsHeap (with_block h l b)
heap_with {h = h} l b i above word words = record {
  above_zero = λ m c e.
      ⊎_elim (λ (q : m ≡ l). subst (λ n. 0 < n) (sym q) above)
      (λ (q : m ≡ l → ⊥). i.above_zero m c (sym (beside_place h l (Some b) m q) ∙ e)) (cases_eq m l);
  at_words = λ m c e.
      ⊎_elim (λ (q : m ≡ l). subst IsWord (sym q) word) (λ (q : m ≡ l → ⊥). i.at_words m c (sym (beside_place h l (Some b) m q) ∙ e))
      (cases_eq m l);
  of_words = λ m c e.
      ⊎_elim (λ (q : m ≡ l). subst (All IsWord) (some_is_one (sym (at_place h l (Some b) m q) ∙ e)) words)
      (λ (q : m ≡ l → ⊥). i.of_words m c (sym (beside_place h l (Some b) m q) ∙ e)) (cases_eq m l);
}

pub heap_without : {h : Heap} (l : ℕ) → IsHeap h → IsHeap (without_block h l)
heap_without {h = h} l i = record {
  above_zero = λ m c e.
      ⊎_elim (λ (q : m ≡ l). absurd (none_is_not_some (sym (at_place h l None m q) ∙ e)))
      (λ (q : m ≡ l → ⊥). i.above_zero m c (sym (beside_place h l None m q) ∙ e)) (cases_eq m l);
  at_words = λ m c e.
      ⊎_elim (λ (q : m ≡ l). absurd (none_is_not_some (sym (at_place h l None m q) ∙ e)))
      (λ (q : m ≡ l → ⊥). i.at_words m c (sym (beside_place h l None m q) ∙ e)) (cases_eq m l);
  of_words = λ m c e.
      ⊎_elim (λ (q : m ≡ l). absurd (none_is_not_some (sym (at_place h l None m q) ∙ e)))
      (λ (q : m ≡ l → ⊥). i.of_words m c (sym (beside_place h l None m q) ∙ e)) (cases_eq m l);
}
