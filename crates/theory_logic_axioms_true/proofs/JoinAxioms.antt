-- The axioms of empty heaps and of unions are true, with heaps themselves in place of their variables.
use Rattle.std.proofs.Common.{◌≡◌, Option, Some, None, refl, sym, ◌∙◌, subst, arith}
use Rattle.theory_values.specs.Heaps.{Block, Heap, IsHeap, IsSame, IsEmpty, Joins, IsJoin, empty_heap}
use Rattle.theory_values.proofs.Joins.{join_right, join_crosses, part_is_heap}
use Rattle.theory_truth.specs.Truth.{NotNot}

none_is_no_block : {b : Block} → None ≡ Some b → ⊥
none_is_no_block e = cc

empty_is_heap : IsHeap empty_heap
empty_is_heap = record {
  above_zero = λ l b e. absurd (none_is_no_block e);
  at_words = λ l b e. absurd (none_is_no_block e);
  of_words = λ l b e. absurd (none_is_no_block e);
}

pub some_empty : NotNot ((h : Heap) × IsHeap h × IsEmpty h)
some_empty deny = deny (empty_heap, empty_is_heap, record { each = λ l. refl })

pub empty_once : (h k : Heap) → IsEmpty h → IsEmpty k → IsSame h k
empty_once h k p q = record { each = λ l. p.each l ∙ sym (q.each l) }

joins_none : (x : Option Block) → Joins x x None
joins_none None = refl
joins_none (Some a) = refl

pub join_with_empty : (h e : Heap) → IsEmpty e → IsJoin h h e
join_with_empty h e p = record { each = λ l. subst (λ o. Joins (h l) (h l) o) (sym (p.each l)) (joins_none (h l)) }

pub regrouped : (h a b c d : Heap) → IsHeap h → IsJoin h a b → IsJoin a c d → NotNot ((e : Heap) × IsHeap e × (IsJoin h c e × IsJoin e d b))
regrouped h a b c d i p q deny = let r = join_right p q in deny (r.0, (part_is_heap r.1 i).1, (r.1, r.2))

parts_empty : (x a b : Option Block) → x ≡ None → Joins x a b → (a ≡ None) × (b ≡ None)
parts_empty None None None e p = grind arith
parts_empty _ _ _ e p = grind arith

pub empty_parts : (h a b : Heap) → IsEmpty h → IsJoin h a b → IsEmpty a × IsEmpty b
empty_parts h a b p j = (
  record { each = λ l. (parts_empty (h l) (a l) (b l) (p.each l) (j.each l)).0 },
  record { each = λ l. (parts_empty (h l) (a l) (b l) (p.each l) (j.each l)).1 },
)

pub crossed : (h a b c d : Heap)
    → IsHeap h
    → IsJoin h a b
    → IsJoin h c d
    → NotNot ((p : Heap)
    × IsHeap p
    × NotNot ((q : Heap)
    × IsHeap q
    × NotNot ((r : Heap) × IsHeap r × NotNot ((s : Heap) × IsHeap s × (IsJoin a p q × (IsJoin b r s × (IsJoin c p r × IsJoin d q s)))))))
crossed h a b c d i j k deny =
    let x = join_crosses j k in
    let left = part_is_heap x.4 (part_is_heap j i).0 in
    let right = part_is_heap x.5 (part_is_heap j i).1 in
    deny (x.0, left.0, λ deny_q. deny_q (x.1, left.1, λ deny_r. deny_r (x.2, right.0, λ deny_s. deny_s (x.3, right.1, (x.4, (x.5, (x.6, x.7)))))))
