-- The formulas of one heap, in other words.
use Rattle.std.proofs.Common.{◌≡◌, ℕ, Option, Some, None, refl, sym, ap, ◌∙◌, ⊎_elim}
use Rattle.std.proofs.lemmas.Bool.{cases_eq}
use Rattle.theory_values.specs.Values.{encoding}
use Rattle.theory_values.specs.Heaps.{Block, Heap, IsOnly, IsSame, single_block}
use Rattle.theory_values.proofs.Encoding.{encoding_is_as_wide}
use Rattle.theory_values.proofs.Joins.{single_is_only}
use Rattle.theory_truth.specs.Worlds.{heap_at}
use Rattle.theory_truth.specs.TermValue.{term_value}
use Rattle.theory_truth.specs.Truth.{Holds}
use Rattle.theory_truth.specs.Laws.{HeapFormulas}

none_is_no_block : {b : Block} → None ≡ Some b → ⊥
none_is_no_block e = cc

none_of : (o : Option Block) → ((b : Block) → o ≡ Some b → ⊥) → o ≡ None
none_of None n = refl
none_of (Some b) n = absurd (n b refl)

only_is_same : {h : Heap} {l : ℕ} {b : Block} → IsOnly h l b → IsSame h (single_block l b)
only_is_same {h = h} {l = l} {b = b} o = record {
  each = λ m.
      ⊎_elim (λ (e : m ≡ l). ap h e ∙ o.here ∙ sym (ap (single_block l b) e ∙ (single_is_only l b).here))
      (λ (e : m ≡ l → ⊥). o.others m e ∙ sym ((single_is_only l b).others m e)) (cases_eq m l);
}

same_is_only : {h : Heap} {l : ℕ} {b : Block} → IsSame h (single_block l b) → IsOnly h l b
same_is_only {l = l} {b = b} s = record { here = s.each l ∙ (single_is_only l b).here; others = λ m e. s.each m ∙ (single_is_only l b).others m e }

pub formulas : HeapFormulas
unfolding Holds
formulas = record {
  emp_is_unused = λ table w h.
      (λ e l used. none_is_no_block (sym (e.each l) ∙ used.1), λ n. record { each = λ l. none_of (heap_at w h l) (λ b e. n l (b, e)) });
  cell_is_single = λ table w t h M N. (only_is_same, same_is_only);
  block_is_single = λ table w t h M. (λ s. (s.0, s.1, only_is_same s.2), λ s. (s.0, s.1, same_is_only s.2));
  cell_is_block = λ table w t h M N typed cell. (encoding (term_value w N), encoding_is_as_wide typed, cell);
}
