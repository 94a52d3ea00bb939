-- A predicate of a founded table unfolds with the whole table's predicates.
use Rattle.std.proofs.Common.{◌≡◌, ℕ, zero, suc, ◌+◌, ◌-◌, ◌<◌, ◌≤◌, List, [], ◌∷◌, length, Option, Some, refl, sym, ap, ◌∙◌, arith, ◌⊎◌, inl, inr}
use Rattle.std.specs.Prelude.{Bool, true, false, nat_eq, slice_get}
use Rattle.std.proofs.lemmas.Option.{slice_get_within}
use Rattle.std.proofs.lemmas.Bool.Decides.{nat_tests}
use Rattle.htt_syntax.specs.Trees.{TermTree, FormulaTree, t_var, f_tt, f_ff, f_and, f_or, f_imp, f_all_t, f_ex_t, f_all_h, f_ex_h, f_emp, f_cell, f_block}
use Rattle.htt_syntax.specs.Trees.{f_join, f_same, f_eq, f_at, f_rec}
use Rattle.theory_values.specs.Values.{Value, v_word, HasType}
use Rattle.theory_values.specs.Heaps.{Heap, IsHeap}
use Rattle.theory_truth.specs.Worlds.{Thing, World, th_value, th_heap, thing_at, value_at, value_of, heap_at, mono_under}
use Rattle.theory_truth.specs.TermValue.{term_value, term_values, word_of}
use Rattle.theory_truth.specs.Truth.{NotNot, Recs, Holds}
use Rattle.theory_truth.specs.Predicates.{RecTree, Saying, type_if, recs_with, saying_of, saying_of_entry, recs_below, recs_of, world_of_values, zero_world}
use Rattle.theory_truth.specs.Predicates.{next_world}
use Rattle.theory_truth.specs.Atoms.{AtomsMeet, IsEarlier, IsEarlierOrLess}
use Rattle.theory_truth.specs.Laws.{PredicatesUnfold}
use Rattle.theory_truth.proofs.Renamed.{both_ways}

-- Two readings agree on the atoms that meet P, in worlds that meet V under their binders.
record Alike (P : ℕ → ℕ → TermTree → Type 0) (V : ℕ → World → Type 0) (R S : Recs) : Type 1 where
  next : (d : ℕ) (w : World) (x : Thing) → V d w → V (suc d) (x ∷ w)
  same : (d q : ℕ) (place : TermTree) (w : World)
      → V d w
      → P d q place
      → (vs : List Value) (h : Heap)
      → R q (word_of (term_value w place)) vs h ≡ S q (word_of (term_value w place)) vs h

truths_alike : (P : ℕ → ℕ → TermTree → Type 0) (V : ℕ → World → Type 0) (R S : Recs)
    → Alike P V R S
    → (F : FormulaTree) (d : ℕ) (w : World)
    → V d w
    → AtomsMeet P d F
    → Holds R w F ≡ Holds S w F
unfolding Holds AtomsMeet
truths_alike P V R S a f_tt d w v m = refl
truths_alike P V R S a f_ff d w v m = refl
truths_alike P V R S a (f_and left right) d w v m = λ j. truths_alike P V R S a left d w v m.0 j × truths_alike P V R S a right d w v m.1 j
truths_alike P V R S a (f_or left right) d w v m = λ j. NotNot (truths_alike P V R S a left d w v m.0 j ⊎ truths_alike P V R S a right d w v m.1 j)
truths_alike P V R S a (f_imp left right) d w v m = λ j. truths_alike P V R S a left d w v m.0 j → truths_alike P V R S a right d w v m.1 j
truths_alike P V R S a (f_all_t mono body) d w v m =
    λ j. (x : Value) → HasType x (mono_under w mono) → truths_alike P V R S a body (suc d) (th_value x ∷ w) (a.next d w (th_value x) v) m j
truths_alike P V R S a (f_ex_t mono body) d w v m = λ j.
    NotNot
    ((x : Value) × HasType x (mono_under w mono) × truths_alike P V R S a body (suc d) (th_value x ∷ w) (a.next d w (th_value x) v) m j)
truths_alike P V R S a (f_all_h body) d w v m = λ j. (h : Heap) → IsHeap h → truths_alike P V R S a body (suc d) (th_heap h ∷ w) (a.next d w (th_heap h) v) m j
truths_alike P V R S a (f_ex_h body) d w v m =
    λ j. NotNot ((h : Heap) × IsHeap h × truths_alike P V R S a body (suc d) (th_heap h ∷ w) (a.next d w (th_heap h) v) m j)
truths_alike P V R S a (f_emp heap) d w v m = refl
truths_alike P V R S a (f_cell mono heap place value) d w v m = refl
truths_alike P V R S a (f_block mono heap place) d w v m = refl
truths_alike P V R S a (f_join whole left right) d w v m = refl
truths_alike P V R S a (f_same left right) d w v m = refl
truths_alike P V R S a (f_eq mono left right) d w v m = refl
truths_alike P V R S a (f_at at formula) d w v m = truths_alike P V R S a formula d w v m
truths_alike P V R S a (f_rec number heap place arguments) d w v m = a.same d number place w v m (term_values w arguments) (heap_at w heap)

same_number : (n : ℕ) → nat_eq n n ≡ true
same_number n = grind (arith, nat_tests)

other_number : (q p : ℕ) → q < p → nat_eq q p ≡ false
other_number q p l = grind (arith, nat_tests)

with_own : (R : Recs) (p : ℕ) (said : Saying) (j : ℕ) (vs : List Value) (h : Heap) → recs_with R p said p j vs h ≡ said j vs h
with_own R p said j vs h = ap (λ (b : Bool). type_if b (said j vs h) (R p j vs h)) (same_number p)

with_other : (R : Recs) (p : ℕ) (said : Saying) (q j : ℕ) (vs : List Value) (h : Heap) → q < p → recs_with R p said q j vs h ≡ R q j vs h
with_other R p said q j vs h l = ap (λ (b : Bool). type_if b (said j vs h) (R q j vs h)) (other_number q p l)

-- What a predicate says stays when later ones are added.
own_stays : (table : List RecTree) (more p : ℕ) (q j : ℕ) (vs : List Value) (h : Heap)
    → q < p
    → recs_below table (more + p) q j vs h ≡ recs_below table p q j vs h
unfolding recs_below
own_stays table zero p q j vs h l = let e : zero + p ≡ p = omega arith in ap (λ (n : ℕ). recs_below table n q j vs h) e
own_stays table (suc more) p q j vs h l = let e : suc more + p ≡ suc (more + p) = omega arith in
    ap (λ (n : ℕ). recs_below table n q j vs h) e
    ∙ with_other (recs_below table (more + p)) (more + p)
    (saying_of_entry (recs_below table (more + p)) (more + p) (slice_get table (more + p))) q j vs h (omega (arith, l))
    ∙ own_stays table more p q j vs h l

below_stays : (table : List RecTree) (p n : ℕ)
    → p ≤ n
    → (q j : ℕ) (vs : List Value) (h : Heap)
    → q < p
    → recs_below table n q j vs h ≡ recs_below table p q j vs h
below_stays table p n le q j vs h l =
    let e : n ≡ (n - p) + p = omega (arith, le) in ap (λ (k : ℕ). recs_below table k q j vs h) e ∙ own_stays table (n - p) p q j vs h l

own_says : (table : List RecTree) (p : ℕ) (r : RecTree)
    → slice_get table p ≡ Some r
    → (j : ℕ) (vs : List Value) (h : Heap)
    → recs_of table p j vs h ≡ saying_of (recs_below table p) p r j vs h
unfolding recs_below
own_says table p r e j vs h =
    below_stays table (suc p) (length table) (slice_get_within table p r e) p j vs h (omega arith)
    ∙ with_own (recs_below table p) p (saying_of_entry (recs_below table p) p (slice_get table p)) j vs h
    ∙ ap (λ (o : Option RecTree). saying_of_entry (recs_below table p) p o j vs h) e

zero_alike : (table : List RecTree) (p : ℕ) → p ≤ length table → Alike (IsEarlier p) (λ d w. Unit {0}) (recs_below table p) (recs_of table)
zero_alike table p le = record {
  next = λ d w x v. tt;
  same = λ d q place w v l vs h. sym (below_stays table p (length table) le q (word_of (term_value w place)) vs h l);
}

-- the variable that stands for the index less one, under d binders
abbrev IndexAt : ℕ → ℕ → ℕ → World → Type 0
IndexAt j params d w = value_at w (suc (d + params)) ≡ v_word j

word_of_place : (w : World) (place : TermTree) (k j : ℕ) → place ≡ t_var k → value_at w k ≡ v_word j → word_of (term_value w place) ≡ j
unfolding term_value
word_of_place w place k j e v = ap (λ (t : TermTree). word_of (term_value w t)) e ∙ ap word_of v

index_next : (j params d : ℕ) (w : World) (x : Thing) → IndexAt j params d w → IndexAt j params (suc d) (x ∷ w)
index_next j params d w x v = let e : suc d + params ≡ suc (d + params) = omega arith in ap (λ (n : ℕ). value_at (x ∷ w) (suc n)) e ∙ v

next_same : (table : List RecTree) (p : ℕ) (r : RecTree)
    → slice_get table p ≡ Some r
    → (j params d q : ℕ) (place : TermTree) (w : World)
    → IndexAt j params d w
    → IsEarlierOrLess p params d q place
    → (vs : List Value) (h : Heap)
    → recs_with (recs_below table p) p (λ i. saying_of (recs_below table p) p r j) q (word_of (term_value w place)) vs h
    ≡ recs_of table q (word_of (term_value w place)) vs h
next_same table p r e j params d q place w v (inl l) vs h =
    let le : p ≤ length table = let k = slice_get_within table p r e in omega (arith, k) in
    with_other (recs_below table p) p (λ i. saying_of (recs_below table p) p r j) q (word_of (term_value w place)) vs h l
    ∙ sym (below_stays table p (length table) le q (word_of (term_value w place)) vs h l)
next_same table p r e j params d q place w v (inr own) vs h =
    let f : word_of (term_value w place) ≡ j = word_of_place w place (suc (d + params)) j own.1 v in
    ap (λ (n : ℕ). recs_with (recs_below table p) p (λ i. saying_of (recs_below table p) p r j) n (word_of (term_value w place)) vs h) own.0
    ∙ with_own (recs_below table p) p (λ i. saying_of (recs_below table p) p r j) (word_of (term_value w place)) vs h
    ∙ sym (own_says table p r e j vs h)
    ∙ ap (λ (n : ℕ). recs_of table p n vs h) (sym f)
    ∙ ap (λ (n : ℕ). recs_of table n (word_of (term_value w place)) vs h) (sym own.0)

under_at : (vs : List Value) (w : World) (k : ℕ) → thing_at (world_of_values w vs) (length vs + k) ≡ thing_at w k
under_at [] w k = let e : 0 + k ≡ k = omega arith in ap (thing_at w) e
under_at (v ∷ vs) w k =
    let e : length (v ∷ vs) + k ≡ length vs + suc k = omega arith in
    ap (λ (n : ℕ). thing_at (world_of_values (th_value v ∷ w) vs) n) e ∙ under_at vs (th_value v ∷ w) (suc k)

index_there : (j : ℕ) (vs : List Value) (params : ℕ) → length vs ≡ params → (h : Heap) → IndexAt j params 0 (next_world j vs h)
index_there j vs params e h =
    let f : 0 + params ≡ length vs + 0 = omega (arith, e) in
    ap (λ (n : ℕ). value_at (next_world j vs h) (suc n)) f ∙ ap value_of (under_at vs (th_value (v_word j) ∷ []) 0)

pub unfolds : PredicatesUnfold
unfolds = record {
  at_zero = λ table founded p r e vs h.
      let le : p ≤ length table = let k = slice_get_within table p r e in omega (arith, k) in
      both_ways (own_says table p r e zero vs h
      ∙ truths_alike (IsEarlier p) (λ d w. Unit {0}) (recs_below table p) (recs_of table) (zero_alike table p le) r.at_zero 0
      (zero_world vs h) tt (founded p r e).zero_founded);
  at_next = λ table founded p r e j vs long h.
      both_ways (own_says table p r e (suc j) vs h
      ∙ truths_alike (IsEarlierOrLess p (length r.params)) (IndexAt j (length r.params))
      (recs_with (recs_below table p) p (λ i. saying_of (recs_below table p) p r j)) (recs_of table)
      (record { next = index_next j (length r.params); same = next_same table p r e j (length r.params) }) r.at_next 0 (next_world j vs h)
      (index_there j vs (length r.params) long h) (founded p r e).next_founded);
}
