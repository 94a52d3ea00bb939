-- The laws of heaps, at each location first.
use Rattle.std.proofs.Common.{◌≡◌, ℕ, ◌<◌, Option, Some, None, refl, sym, ap, ◌∙◌, subst, arith, ◌⊎◌, ⊎_elim}
use Rattle.std.specs.Prelude.{All}
use Rattle.std.proofs.lemmas.Bool.{cases_eq}
use Rattle.std.proofs.lemmas.Bool.Decides.{nat_tests}
use Rattle.theory_values.specs.Values.{IsWord}
use Rattle.theory_values.specs.Heaps.{Block, Heap, IsHeap, empty_heap, single_block, IsSame, IsEmpty, IsOnly, Joins, IsJoin}
use Rattle.theory_values.specs.HeapLaws.{HeapLaws}

abbrev first_of : Option Block → Option Block → Option Block
first_of None b = b
first_of (Some a) b = Some a

abbrev both_of : Option Block → Option Block → Option Block
both_of (Some a) (Some b) = Some a
both_of _ _ = None

comm_at : (x a b : Option Block) → Joins x a b → Joins x b a
comm_at None None None p = grind arith
comm_at _ _ _ p = grind arith

right_at : (x a b c d : Option Block) → Joins x a b → Joins a c d → Joins x c (first_of d b) × Joins (first_of d b) d b
right_at None None None None None p q = grind arith
right_at _ _ _ _ _ p q = grind arith

left_at : (x a b c d : Option Block) → Joins x a b → Joins b c d → Joins x (first_of a c) d × Joins (first_of a c) a c
left_at None None None None None p q = grind arith
left_at _ _ _ _ _ p q = grind arith

one_at : (x y a b : Option Block) → Joins x a b → Joins y a b → x ≡ y
one_at None None None None p q = grind arith
one_at _ _ _ _ p q = grind arith

cancel_at : (x a b c : Option Block) → Joins x a b → Joins x a c → b ≡ c
cancel_at None None None None p q = grind arith
cancel_at _ _ _ _ p q = grind arith

cross_at : (x a b c d : Option Block)
    → Joins x a b
    → Joins x c d
    → Joins a (both_of a c) (both_of a d)
    × Joins b (both_of b c) (both_of b d)
    × Joins c (both_of a c) (both_of b c)
    × Joins d (both_of a d) (both_of b d)
cross_at None None None None None p q = grind arith
cross_at _ _ _ _ _ p q = grind arith

empty_at : (x a b : Option Block) → Joins x a b → a ≡ None → x ≡ b
empty_at None None None p e = grind arith
empty_at _ _ _ p e = grind arith

left_part_at : (x a b : Option Block) (w : Block) → Joins x a b → a ≡ Some w → x ≡ Some w
left_part_at None None None w p e = grind arith
left_part_at _ _ _ w p e = grind arith

right_part_at : (x a b : Option Block) (w : Block) → Joins x a b → b ≡ Some w → x ≡ Some w
right_part_at x a b w p e = left_part_at x b a w (comm_at x a b p) e

whole_at : (x a b : Option Block) (w : Block) → Joins x a b → x ≡ Some w → (a ≡ Some w) ⊎ (b ≡ Some w)
whole_at None None None w p e = grind arith
whole_at _ _ _ w p e = grind arith

pub join_commutes : {h a b : Heap} → IsJoin h a b → IsJoin h b a
join_commutes {h = h} {a = a} {b = b} j = record { each = λ l. comm_at (h l) (a l) (b l) (j.each l) }

pub join_right : {h a b c d : Heap} → IsJoin h a b → IsJoin a c d → (k : Heap) × IsJoin h c k × IsJoin k d b
join_right {h = h} {a = a} {b = b} {c = c} {d = d} p q = (
  λ l. first_of (d l) (b l),
  record { each = λ l. (right_at (h l) (a l) (b l) (c l) (d l) (p.each l) (q.each l)).0 },
  record { each = λ l. (right_at (h l) (a l) (b l) (c l) (d l) (p.each l) (q.each l)).1 },
)

pub join_left : {h a b c d : Heap} → IsJoin h a b → IsJoin b c d → (k : Heap) × IsJoin h k d × IsJoin k a c
join_left {h = h} {a = a} {b = b} {c = c} {d = d} p q = (
  λ l. first_of (a l) (c l),
  record { each = λ l. (left_at (h l) (a l) (b l) (c l) (d l) (p.each l) (q.each l)).0 },
  record { each = λ l. (left_at (h l) (a l) (b l) (c l) (d l) (p.each l) (q.each l)).1 },
)

pub join_is_one : {h k a b : Heap} → IsJoin h a b → IsJoin k a b → IsSame h k
join_is_one {h = h} {k = k} {a = a} {b = b} p q = record { each = λ l. one_at (h l) (k l) (a l) (b l) (p.each l) (q.each l) }

pub join_cancels : {h a b c : Heap} → IsJoin h a b → IsJoin h a c → IsSame b c
join_cancels {h = h} {a = a} {b = b} {c = c} p q = record { each = λ l. cancel_at (h l) (a l) (b l) (c l) (p.each l) (q.each l) }

abbrev meet : Heap → Heap → Heap
meet a b l = both_of (a l) (b l)

pub join_crosses : {h a b c d : Heap}
    → IsJoin h a b
    → IsJoin h c d
    → (ac : Heap) × (ad : Heap) × (bc : Heap) × (bd : Heap) × IsJoin a ac ad × IsJoin b bc bd × IsJoin c ac bc × IsJoin d ad bd
join_crosses {h = h} {a = a} {b = b} {c = c} {d = d} p q =
    let at = λ (l : ℕ). cross_at (h l) (a l) (b l) (c l) (d l) (p.each l) (q.each l) in (
      meet a c,
      meet a d,
      meet b c,
      meet b d,
      record { each = λ l. (at l).0 },
      record { each = λ l. (at l).1 },
      record { each = λ l. (at l).2 },
      record { each = λ l. (at l).3 },
    )

pub join_of_empty : (h : Heap) → IsJoin h empty_heap h
join_of_empty h = record { each = λ l. refl }

pub join_with_empty : {h a b : Heap} → IsJoin h a b → IsEmpty a → IsSame h b
join_with_empty {h = h} {a = a} {b = b} p e = record { each = λ l. empty_at (h l) (a l) (b l) (p.each l) (e.each l) }

left_is_heap : {h a b : Heap} → IsJoin h a b → IsHeap h → IsHeap a
left_is_heap {h = h} {a = a} {b = b} j i =
    let up = λ (l : ℕ) (w : Block) (e : a l ≡ Some w). left_part_at (h l) (a l) (b l) w (j.each l) e in
    record { above_zero = λ l w e. i.above_zero l w (up l w e); at_words = λ l w e. i.at_words l w (up l w e); of_words = λ l w e. i.of_words l w (up l w e) }

pub part_is_heap : {h a b : Heap} → IsJoin h a b → IsHeap h → IsHeap a × IsHeap b
part_is_heap j i = (left_is_heap j i, left_is_heap (join_commutes j) i)

pub join_is_heap : {h a b : Heap} → IsJoin h a b → IsHeap a → IsHeap b → IsHeap h
join_is_heap {h = h} {a = a} {b = b} j i k =
    let down = λ (l : ℕ) (w : Block) (e : h l ≡ Some w). whole_at (h l) (a l) (b l) w (j.each l) e in
    record {
      above_zero = λ l w e. ⊎_elim (i.above_zero l w) (k.above_zero l w) (down l w e);
      at_words = λ l w e. ⊎_elim (i.at_words l w) (k.at_words l w) (down l w e);
      of_words = λ l w e. ⊎_elim (i.of_words l w) (k.of_words l w) (down l w e);
    }

pub single_is_only : (l : ℕ) (b : Block) → IsOnly (single_block l b) l b
single_is_only l b = record { here = grind (arith, nat_tests); others = λ m other. grind (arith, nat_tests) }

some_is_one : {b c : Block} → Some b ≡ Some c → b ≡ c
some_is_one e = cc

only_at : {h : Heap} {l : ℕ} {b : Block} → IsOnly h l b → (m : ℕ) (c : Block) → h m ≡ Some c → (m ≡ l) × (c ≡ b)
only_at {h = h} {l = l} {b = b} o m c e =
    ⊎_elim (λ (q : m ≡ l). (q, some_is_one (sym e ∙ ap h q ∙ o.here)))
    (λ (q : m ≡ l → ⊥). let f : None ≡ Some c = sym (o.others m q) ∙ e in cc) (cases_eq m l)

pub only_is_heap : {h : Heap} {l : ℕ} {b : Block} → IsOnly h l b → 0 < l → IsWord l → All IsWord b → IsHeap h
only_is_heap {l = l} {b = b} o above word words = record {
  above_zero = λ m c e. subst (λ n. 0 < n) (sym ((only_at o m c e).0)) above;
  at_words = λ m c e. subst IsWord (sym ((only_at o m c e).0)) word;
  of_words = λ m c e. subst (All IsWord) (sym ((only_at o m c e).1)) words;
}

pub only_parts : {h a b c d : Heap} {l : ℕ} {x y : Block} → IsJoin h a b → IsOnly a l x → IsJoin h c d → IsOnly c l y → (x ≡ y) × IsSame b d
only_parts {h = h} {a = a} {b = b} {c = c} {d = d} {l = l} {x = x} {y = y} p one q two =
    let left : h l ≡ Some x = left_part_at (h l) (a l) (b l) x (p.each l) one.here in
    let right : h l ≡ Some y = left_part_at (h l) (c l) (d l) y (q.each l) two.here in
    let e : x ≡ y = some_is_one (sym left ∙ right) in
    let same : (m : ℕ) → c m ≡ a m = λ m.
    ⊎_elim (λ (k : m ≡ l). ap c k ∙ two.here ∙ ap Some (sym e) ∙ sym one.here ∙ sym (ap a k))
    (λ (k : m ≡ l → ⊥). two.others m k ∙ sym (one.others m k)) (cases_eq m l) in
    (e, record { each = λ m. cancel_at (h m) (a m) (b m) (d m) (p.each m) (subst (λ o. Joins (h m) o (d m)) (same m) (q.each m)) })

pub heap_laws : HeapLaws
heap_laws = record {
  join_commutes = join_commutes;
  join_right = join_right;
  join_left = join_left;
  join_is_one = join_is_one;
  join_cancels = join_cancels;
  join_crosses = join_crosses;
  join_of_empty = join_of_empty;
  join_with_empty = join_with_empty;
  part_is_heap = part_is_heap;
  join_is_heap = join_is_heap;
  single_is_only = single_is_only;
  only_is_heap = only_is_heap;
  only_parts = only_parts;
}

pub empty_is_heap : IsHeap empty_heap
empty_is_heap = record { above_zero = λ l b e. cc; at_words = λ l b e. cc; of_words = λ l b e. cc }

-- what is left of a block without the other
abbrev pub without : Option Block → Option Block → Option Block
without g None = g
without g (Some b) = None

pub own_is_rest : (g own k : Option Block) → Joins g own k → own ≡ without g k
own_is_rest None None None j = grind arith
own_is_rest _ _ _ j = grind arith
