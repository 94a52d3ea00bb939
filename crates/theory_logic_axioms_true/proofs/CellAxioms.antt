-- The axioms of cells are true, with heaps, locations and values in place of their variables.
use Rattle.std.proofs.Common.{◌≡◌, ℕ, ◌<◌, sym, ap, ◌∙◌, arith, ⊎_elim}
use Rattle.std.proofs.lemmas.Bool.{cases_eq}
use Rattle.htt_syntax.specs.Trees.{MonoTree}
use Rattle.theory_values.specs.Values.{Value, IsWord, HasType, encoding}
use Rattle.theory_values.specs.Heaps.{Block, Heap, IsHeap, IsOnly, IsSame, single_block}
use Rattle.theory_values.proofs.Encoding.{encoding_is_words, encoding_tells}
use Rattle.theory_values.proofs.Joins.{single_is_only, only_is_heap}
use Rattle.theory_truth.proofs.Stable.{some_is_one}

pub only_once : (g k : Heap) (l : ℕ) (b : Block) → IsOnly g l b → IsOnly k l b → IsSame g k
only_once g k l b p q = record {
  each = λ m.
      ⊎_elim (λ (e : m ≡ l). ap g e ∙ p.here ∙ sym q.here ∙ sym (ap k e)) (λ (n : m ≡ l → ⊥). p.others m n ∙ sym (q.others m n))
      (cases_eq m l);
}

pub one_value : (g : Heap) (l : ℕ) (x y : Value) (t : MonoTree) → HasType x t → HasType y t → IsOnly g l (encoding x) → IsOnly g l (encoding y) → x ≡ y
one_value g l x y t typed other p q = encoding_tells typed other (some_is_one (sym p.here ∙ q.here))

above_zero : (l : ℕ) → (l ≡ 0 → ⊥) → 0 < l
above_zero l n = omega (arith, n)

pub cell_made : (l : ℕ) (v : Value) (t : MonoTree) → HasType v t → IsWord l → (l ≡ 0 → ⊥) → (h : Heap) × IsHeap h × IsOnly h l (encoding v)
cell_made l v t typed word n =
    let h = single_block l (encoding v) in
    let o = single_is_only l (encoding v) in (h, only_is_heap o (above_zero l n) word (encoding_is_words typed), o)
