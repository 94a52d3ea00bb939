-- The meaning of a type is stable under double negation.
use Rattle.std.proofs.Common.{◌≡◌, ◌<◌, ℕ, List, ◌∷◌, Option, Some, None, subst, arith, inl, inr}
use Rattle.std.specs.Prelude.{◌^◌, All}
use Rattle.std.proofs.lemmas.Bool.{cases_lt}
use Rattle.htt_syntax.specs.Trees.{MonoTree, TripleTree, TyTree, triple, m_word, m_bool, m_loc, m_unit, m_pair, y_mono, y_fun, y_all, y_hoare, y_at}
use Rattle.theory_values.specs.Values.{Value, v_word, v_bool, v_loc, v_unit, v_pair, IsWord, HasType, is_word, is_bool, is_loc, is_unit, is_pair}
use Rattle.theory_values.specs.Heaps.{Heap, Block, IsHeap, Joins}
use Rattle.theory_truth.specs.Truth.{NotNot}
use Rattle.theory_truth.specs.Predicates.{RecTree, recs_of}
use Rattle.theory_truth.proofs.Stable.{joins_stable}
use Rattle.theory_canonical.specs.Skeletons.{Skeleton, sk_o, sk_c, sk_arrow, sk_all}
use Rattle.theory_denotation.specs.Outcomes.{Outcome, ended, out_of_fuel, asking, wrong}
use Rattle.theory_denotation.specs.Valuations.{Domain, den_mono, den_heap, den_term, Valuation, HeadEntries}
use Rattle.theory_denotation.specs.Satisfaction.{PostAt}
use Rattle.theory_denotation.proofs.Classical.{classical}
use Rattle.theory_denotation_types.specs.Meeting.{Post, LeavesPost, EndsWell}
use Rattle.theory_denotation_types.specs.Types.{Means}
use Rattle.theory_denotation_shapes.specs.Shapes.{InShape}
use Rattle.theory_denotation_types.specs.Laws.{MeaningIsStable}
use Rattle.theory_values.proofs.Joins.{own_is_rest, without}

-- what is left of a heap without the frame
abbrev pub rest : Heap → Heap → Heap
rest g k l = without (g l) (k l)

pub own_is : {mono : MonoTree} {post : Post} {before frame whole : Heap} {v : Value} (a : LeavesPost mono post before frame v whole) → a.own ≡ rest whole frame
own_is {frame = frame} {whole = whole} a = λ i l. own_is_rest (whole l) (a.own l) (frame l) (a.parts.each l) i

word_stable : (n : ℕ) → NotNot (IsWord n) → IsWord n
word_stable n h = elim (cases_lt n (2 ^ 64)) [ inl below ↦ below | inr above ↦ absurd (h (λ below. omega (arith, above, below))) ]

-- the typing of a value, by cases
abbrev Typed : Value → MonoTree → Type 0
Typed (v_word n) m_word = IsWord n
Typed (v_bool b) m_bool = Unit {0}
Typed (v_loc n) m_loc = IsWord n
Typed v_unit m_unit = Unit {0}
Typed (v_pair x y) (m_pair t u) = Typed x t × Typed y u
Typed _ _ = ⊥

typed_of : {v : Value} {t : MonoTree} → HasType v t → Typed v t
typed_of (is_word p) = p
typed_of is_bool = tt
typed_of (is_loc p) = p
typed_of is_unit = tt
typed_of (is_pair p q) = (typed_of p, typed_of q)

of_typed : (v : Value) (t : MonoTree) → NotNot (Typed v t) → HasType v t
of_typed (v_word n) m_word h = is_word (word_stable n h)
of_typed (v_bool b) m_bool h = is_bool
of_typed (v_loc n) m_loc h = is_loc (word_stable n h)
of_typed v_unit m_unit h = is_unit
of_typed (v_pair x y) (m_pair t u) h = is_pair (of_typed x t (λ k. h (λ p. k p.0))) (of_typed y u (λ k. h (λ p. k p.1)))
of_typed _ _ h = absurd (h (λ k. k))

pub type_stable : (v : Value) (t : MonoTree) → NotNot (HasType v t) → HasType v t
type_stable v t h = of_typed v t (λ k. h (λ p. k (typed_of p)))

-- A postcondition that isn't denied holds.
pub record StablePost (post : Post) : Type 0 where
  pub at : (v : Value) (before own : Heap) → NotNot (post v before own) → post v before own

pub words_stable : (cs : List ℕ) → NotNot (All IsWord cs) → All IsWord cs
words_stable cs h = λ k d below. word_stable _ (λ deny. h (λ all. deny (all k d below)))

above_stable : (n : ℕ) → NotNot (0 < n) → 0 < n
above_stable n h = elim (cases_lt 0 n) [ inl below ↦ below | inr above ↦ absurd (h (λ below. omega (arith, above, below))) ]

pub heap_stable : (h : Heap) → NotNot (IsHeap h) → IsHeap h
heap_stable h n = record {
  above_zero = λ l b e. above_stable l (λ deny. n (λ i. deny (i.above_zero l b e)));
  at_words = λ l b e. word_stable l (λ deny. n (λ i. deny (i.at_words l b e)));
  of_words = λ l b e. words_stable b (λ deny. n (λ i. deny (i.of_words l b e)));
}

pub leaves_stable : {mono : MonoTree} {post : Post} {before frame whole : Heap} {v : Value}
    → StablePost post
    → NotNot (LeavesPost mono post before frame v whole)
    → LeavesPost mono post before frame v whole
leaves_stable {mono = mono} {post = post} {before = before} {frame = frame} {whole = whole} {v = v} s n = record {
  own = rest whole frame;
  parts = record {
    each = λ l.
        joins_stable (whole l) (rest whole frame l) (frame l)
        (λ deny. n (λ a. deny (subst (λ (o : Heap). Joins (whole l) (o l) (frame l)) (own_is a) (a.parts.each l))));
  };
  is_heap = heap_stable whole (λ deny. n (λ a. deny a.is_heap));
  typed = type_stable v mono (λ deny. n (λ a. deny a.typed));
  holds = s.at v before (rest whole frame) (λ deny. n (λ a. deny (subst (λ (o : Heap). post v before o) (own_is a) a.holds)));
}

pub ends_stable : (mono : MonoTree) (post : Post) (before frame : Heap) (o : Outcome)
    → StablePost post
    → NotNot (EndsWell mono post before frame o)
    → EndsWell mono post before frame o
ends_stable mono post before frame (ended v whole rest) s n = (leaves_stable s (λ deny. n (λ a. deny a.0)), words_stable rest (λ deny. n (λ a. deny a.1)))
ends_stable mono post before frame out_of_fuel s n = tt
ends_stable mono post before frame asking s n = tt
ends_stable mono post before frame wrong s n = n (λ k. k)

post_stable : (table : List RecTree) (e : HeadEntries) (w : Valuation) (spec : TripleTree) → StablePost (PostAt (recs_of table) e w spec)
post_stable table e w (triple pre mono post) = record { at = λ v before own n. classical table e (den_heap own ∷ den_heap before ∷ den_term sk_o v ∷ w) post n }

shape_stable : (w : Valuation) (ty : TyTree) (s : Skeleton) (d : Domain s) → NotNot (InShape w ty s d) → InShape w ty s d
unfolding InShape
shape_stable w (y_mono mono) sk_o d n = type_stable d _ n
shape_stable w (y_fun argument answer) (sk_arrow s t) d n = λ x m. shape_stable (den_term s x ∷ w) answer t (d x) (λ deny. n (λ f. deny (f x m)))
shape_stable w (y_all body) (sk_all s) d n = λ t c. shape_stable (den_mono t ∷ w) body s (d t) (λ deny. n (λ f. deny (f t c)))
shape_stable w (y_at at ty) s d n = shape_stable w ty s d n
shape_stable w _ s d n = tt

pub means_stable : (table : List RecTree) (e : HeadEntries) (w : Valuation) (ty : TyTree) (s : Skeleton) (d : Domain s)
    → NotNot (Means (recs_of table) e w ty s d)
    → Means (recs_of table) e w ty s d
unfolding Means
means_stable table e w (y_mono mono) sk_o d n = type_stable d _ n
means_stable table e w (y_fun argument answer) (sk_arrow s t) d n = (
  shape_stable w (y_fun argument answer) (sk_arrow s t) d (λ deny. n (λ f. deny f.0)),
  λ x m. means_stable table e (den_term s x ∷ w) answer t (d x) (λ deny. n (λ f. deny (f.1 x m))),
)
means_stable table e w (y_all body) (sk_all s) d n = λ t c. means_stable table e (den_mono t ∷ w) body s (d t) (λ deny. n (λ f. deny (f t c)))
means_stable table e w (y_hoare spec) sk_c d n = record {
  at = λ k before frame whole cs i j a p.
      ends_stable _ _ before frame (d k whole cs) (post_stable table e w spec)
      (λ deny. n (λ m. deny (m.at k before frame whole cs i j a p)));
}
means_stable table e w (y_at at ty) s d n = means_stable table e w ty s d n
means_stable table e w _ s d n = n (λ k. k)

pub stable : MeaningIsStable
stable = means_stable
