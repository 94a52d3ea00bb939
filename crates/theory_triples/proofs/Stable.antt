-- What a triple leaves is determined, and a triple that isn't denied is one.
use Rattle.std.proofs.Common.{◌≡◌, ℕ, zero, suc, ◌<◌, List, [], ◌∷◌, All, get_or, Option, Some, None, refl, sym, subst, arith, inl, inr}
use Rattle.std.specs.Prelude.{◌^◌}
use Rattle.std.proofs.lemmas.Bool.{cases_lt}
use Rattle.htt_syntax.specs.Trees.{MonoTree, TermTree, FixTree, CompTree, TripleTree, triple, m_word, m_bool, m_loc, m_unit, m_pair, m_var}
use Rattle.theory_values.specs.Values.{Value, v_word, v_bool, v_loc, v_unit, v_pair, IsWord, HasType, is_word, is_bool, is_loc, is_unit, is_pair}
use Rattle.theory_values.specs.Heaps.{Heap, Block, IsHeap, IsSame, Joins}
use Rattle.theory_values.proofs.Joins.{join_commutes, join_cancels, join_is_heap, own_is_rest, without}
use Rattle.theory_truth.specs.Worlds.{th_value, th_heap}
use Rattle.theory_truth.specs.Truth.{NotNot, Holds}
use Rattle.theory_truth.specs.Predicates.{RecTree, recs_of}
use Rattle.theory_truth.proofs.Stable.{joins_stable, classical}
use Rattle.theory_meaning.specs.Closures.{Env, RunValue, base, fun_of, all_of, do_of, fix_of, RunResult}
use Rattle.theory_triples.specs.Triples.{Leaves, MeetsTriple}
use Rattle.theory_triples.specs.Laws.{TripleLaws}

own_is_one : {table : List RecTree} {spec : TripleTree} {h k g : Heap} {v : RunValue} (a b : Leaves table spec h k v g) → IsSame a.own b.own
own_is_one a b = join_cancels (join_commutes a.parts) (join_commutes b.parts)

whole_is_heap : {table : List RecTree} {spec : TripleTree} {h k g : Heap} {v : RunValue} → Leaves table spec h k v g → IsHeap k → IsHeap g
whole_is_heap a i = join_is_heap a.parts a.own_is_heap i

one_base : {x y : Value} → base x ≡ base y → x ≡ y
one_base e = cc

no_base_fun : {e : Env} {body : TermTree} {x : Value} → fun_of e body ≡ base x → ⊥
no_base_fun p = cc

no_base_all : {e : Env} {body : TermTree} {x : Value} → all_of e body ≡ base x → ⊥
no_base_all p = cc

no_base_do : {e : Env} {comp : CompTree} {x : Value} → do_of e comp ≡ base x → ⊥
no_base_do p = cc

no_base_fix : {own e : Env} {whole left : FixTree} {x : Value} → fix_of own whole e left ≡ base x → ⊥
no_base_fix p = cc

-- what is left of a heap without the frame
abbrev rest : Heap → Heap → Heap
rest g k l = without (g l) (k l)

own_is : {table : List RecTree} {spec : TripleTree} {h k g : Heap} {v : RunValue} (a : Leaves table spec h k v g) → a.own ≡ rest g k
own_is {k = k} {g = g} a = λ i l. own_is_rest (g l) (a.own l) (k l) (a.parts.each l) i

word_is_stable : (n : ℕ) → NotNot (IsWord n) → IsWord n
word_is_stable n h = elim (cases_lt n (2 ^ 64)) [ inl below ↦ below | inr above ↦ absurd (h (λ below. omega (arith, above, below))) ]

word_bound : {n : ℕ} → HasType (v_word n) m_word → IsWord n
word_bound (is_word p) = p

loc_bound : {n : ℕ} → HasType (v_loc n) m_loc → IsWord n
loc_bound (is_loc p) = p

left_type : {x y : Value} {t u : MonoTree} → HasType (v_pair x y) (m_pair t u) → HasType x t
left_type (is_pair p q) = p

right_type : {x y : Value} {t u : MonoTree} → HasType (v_pair x y) (m_pair t u) → HasType y u
right_type (is_pair p q) = q

type_is_stable : (v : Value) (t : MonoTree) → NotNot (HasType v t) → HasType v t
type_is_stable (v_word n) m_word h = is_word (word_is_stable n (λ k. h (λ a. k (word_bound a))))
type_is_stable (v_bool b) m_bool h = is_bool
type_is_stable (v_loc n) m_loc h = is_loc (word_is_stable n (λ k. h (λ a. k (loc_bound a))))
type_is_stable v_unit m_unit h = is_unit
type_is_stable (v_pair x y) (m_pair t u) h = is_pair (type_is_stable x t (λ k. h (λ a. k (left_type a)))) (type_is_stable y u (λ k. h (λ a. k (right_type a))))
type_is_stable (v_word n) m_bool h = absurd (h (λ a. elim a [ ]))
type_is_stable (v_word n) m_loc h = absurd (h (λ a. elim a [ ]))
type_is_stable (v_word n) m_unit h = absurd (h (λ a. elim a [ ]))
type_is_stable (v_word n) (m_pair t u) h = absurd (h (λ a. elim a [ ]))
type_is_stable (v_word n) (m_var i) h = absurd (h (λ a. elim a [ ]))
type_is_stable (v_bool b) m_word h = absurd (h (λ a. elim a [ ]))
type_is_stable (v_bool b) m_loc h = absurd (h (λ a. elim a [ ]))
type_is_stable (v_bool b) m_unit h = absurd (h (λ a. elim a [ ]))
type_is_stable (v_bool b) (m_pair t u) h = absurd (h (λ a. elim a [ ]))
type_is_stable (v_bool b) (m_var i) h = absurd (h (λ a. elim a [ ]))
type_is_stable (v_loc n) m_word h = absurd (h (λ a. elim a [ ]))
type_is_stable (v_loc n) m_bool h = absurd (h (λ a. elim a [ ]))
type_is_stable (v_loc n) m_unit h = absurd (h (λ a. elim a [ ]))
type_is_stable (v_loc n) (m_pair t u) h = absurd (h (λ a. elim a [ ]))
type_is_stable (v_loc n) (m_var i) h = absurd (h (λ a. elim a [ ]))
type_is_stable v_unit m_word h = absurd (h (λ a. elim a [ ]))
type_is_stable v_unit m_bool h = absurd (h (λ a. elim a [ ]))
type_is_stable v_unit m_loc h = absurd (h (λ a. elim a [ ]))
type_is_stable v_unit (m_pair t u) h = absurd (h (λ a. elim a [ ]))
type_is_stable v_unit (m_var i) h = absurd (h (λ a. elim a [ ]))
type_is_stable (v_pair x y) m_word h = absurd (h (λ a. elim a [ ]))
type_is_stable (v_pair x y) m_bool h = absurd (h (λ a. elim a [ ]))
type_is_stable (v_pair x y) m_loc h = absurd (h (λ a. elim a [ ]))
type_is_stable (v_pair x y) m_unit h = absurd (h (λ a. elim a [ ]))
type_is_stable (v_pair x y) (m_var i) h = absurd (h (λ a. elim a [ ]))

positive_is_stable : (n : ℕ) → NotNot (0 < n) → 0 < n
positive_is_stable zero h = absurd (h (λ l. omega (arith, l)))
positive_is_stable (suc n) h = omega arith

words_are_stable : (b : Block) → NotNot (All IsWord b) → All IsWord b
words_are_stable b h k x l = word_is_stable (get_or b k x) (λ deny. h (λ a. deny (a k x l)))

heap_is_stable : (h : Heap) → NotNot (IsHeap h) → IsHeap h
heap_is_stable h n = record {
  above_zero = λ l b e. positive_is_stable l (λ deny. n (λ i. deny (i.above_zero l b e)));
  at_words = λ l b e. word_is_stable l (λ deny. n (λ i. deny (i.at_words l b e)));
  of_words = λ l b e. words_are_stable b (λ deny. n (λ i. deny (i.of_words l b e)));
}

leaves_is_stable : (table : List RecTree) (spec : TripleTree) (h k : Heap) (v : RunValue) (g : Heap)
    → NotNot (Leaves table spec h k v g)
    → Leaves table spec h k v g
leaves_is_stable table (triple pre mono post) h k (base x) g n = record {
  own = rest g k;
  own_is_heap = heap_is_stable (rest g k) (λ deny. n (λ a. deny (subst IsHeap (own_is a) a.own_is_heap)));
  parts = record {
    each = λ l.
        joins_stable (g l) (rest g k l) (k l)
        (λ deny. n (λ a. deny (subst (λ (o : Heap). Joins (g l) (o l) (k l)) (own_is a) (a.parts.each l))));
  };
  value = x;
  is_value = refl;
  typed = type_is_stable x mono (λ deny. n (λ a. deny (subst (λ (y : Value). HasType y mono) (sym (one_base a.is_value)) a.typed)));
  post =
      classical.stable table (th_heap (rest g k) ∷ th_heap h ∷ th_value x ∷ []) post (λ deny.
      n (λ a.
      deny (subst (λ (o : Heap). Holds (recs_of table) (th_heap o ∷ th_heap h ∷ th_value x ∷ []) post) (own_is a)
      (subst (λ (y : Value). Holds (recs_of table) (th_heap a.own ∷ th_heap h ∷ th_value y ∷ []) post) (sym (one_base a.is_value))
      a.post))));
}
leaves_is_stable table spec h k (fun_of e body) g n = absurd (n (λ a. no_base_fun a.is_value))
leaves_is_stable table spec h k (all_of e body) g n = absurd (n (λ a. no_base_all a.is_value))
leaves_is_stable table spec h k (do_of e comp) g n = absurd (n (λ a. no_base_do a.is_value))
leaves_is_stable table spec h k (fix_of own whole e left) g n = absurd (n (λ a. no_base_fix a.is_value))

triple_is_stable : (table : List RecTree) (spec : TripleTree) (result : Heap → RunResult) (h k : Heap)
    → NotNot (MeetsTriple table spec result h k)
    → MeetsTriple table spec result h k
triple_is_stable table spec result h k n = record {
  no_fault = λ whole i j p e. n (λ m. m.no_fault whole i j p e);
  ends_so = λ whole i j p v g rest e. leaves_is_stable table spec h k v g (λ deny. n (λ m. deny (m.ends_so whole i j p v g rest e)));
}

pub triple_laws : TripleLaws
triple_laws = record { own_is_one = own_is_one; whole_is_heap = whole_is_heap; leaves_is_stable = leaves_is_stable; triple_is_stable = triple_is_stable }
