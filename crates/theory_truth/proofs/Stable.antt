-- Truth is stable under double negation, so classical laws are true.
use Rattle.std.proofs.Common.{◌≡◌, ℕ, zero, suc, List, [], ◌∷◌, length, Option, Some, None, refl, sym, ap, ◌∙◌, subst, ◌⊎◌, inl, inr}
use Rattle.std.specs.Prelude.{Bool, true, false, nat_eq, slice_get}
use Rattle.std.proofs.lemmas.Bool.{cases_eq}
use native.Mathlib.Decide.{ℕ_discrete}
use mathlib.Core.Bool.{Bool-discrete}
use Rattle.htt_syntax.specs.Trees.{FormulaTree, f_tt, f_ff, f_and, f_or, f_imp, f_all_t, f_ex_t, f_all_h, f_ex_h, f_emp, f_cell, f_block, f_join, f_same, f_eq}
use Rattle.htt_syntax.specs.Trees.{f_at, f_rec}
use Rattle.theory_values.specs.Values.{Value, value_discrete}
use Rattle.theory_values.specs.Heaps.{Block, Heap, IsOnly, Joins}
use Rattle.theory_truth.specs.Worlds.{World, th_value, th_heap}
use Rattle.theory_truth.specs.Truth.{NotNot, IsBlock, Recs, Holds}
use Rattle.theory_truth.specs.Predicates.{RecTree, Saying, type_if, recs_with, saying_of, saying_of_entry, recs_below, recs_of, zero_world, next_world}
use Rattle.theory_truth.specs.Laws.{TruthIsClassical}

abbrev pub Stable : Type 0 → Type 0
Stable A = NotNot A → A

list_cases : (xs ys : List ℕ) → (xs ≡ ys) ⊎ (xs ≡ ys → ⊥)
list_cases [] [] = inl refl
list_cases [] (y ∷ ys) = inr (λ e. cc)
list_cases (x ∷ xs) [] = inr (λ e. cc)
list_cases (x ∷ xs) (y ∷ ys) =
    elim (cases_eq x y) [ inl p ↦ elim (list_cases xs ys) [ inl q ↦ inl (cc) | inr q ↦ inr (λ e. q (cc)) ] | inr p ↦ inr (λ e. p (cc)) ]

block_cases : (a b : Option Block) → (a ≡ b) ⊎ (a ≡ b → ⊥)
block_cases None None = inl refl
block_cases None (Some b) = inr (λ e. cc)
block_cases (Some a) None = inr (λ e. cc)
block_cases (Some a) (Some b) = elim (list_cases a b) [ inl p ↦ inl (ap Some p) | inr p ↦ inr (λ e. p (cc)) ]

by_cases : {A : Type 0} → A ⊎ (A → ⊥) → Stable A
by_cases (inl a) h = a
by_cases (inr n) h = absurd (h n)

pub block_stable : (a b : Option Block) → Stable (a ≡ b)
block_stable a b = by_cases (block_cases a b)

pub joins_stable : (x a b : Option Block) → Stable (Joins x a b)
joins_stable x None b h = block_stable x b h
joins_stable x (Some a) None h = block_stable x (Some a) h
joins_stable x (Some a) (Some b) h = h (λ k. k)

pub only_stable : (h : Heap) (l : ℕ) (b : Block) → Stable (IsOnly h l b)
only_stable h l b n = record { here = block_stable _ _ (λ k. n (λ o. k o.here)); others = λ m ne. block_stable _ _ (λ k. n (λ o. k (o.others m ne))) }

pub number_stable : (n k : ℕ) → Stable (n ≡ k)
number_stable n k = by_cases (cases_eq n k)

pub some_is_one : {b c : Block} → Some b ≡ Some c → b ≡ c
some_is_one e = cc

no_block : (h : Heap) (l n : ℕ) → h l ≡ None → IsBlock h l n → ⊥
no_block h l n e p = let f : None ≡ Some p.0 = sym e ∙ p.2.here in cc

-- the block of a heap that is one is the block that stands there
that_block : (h : Heap) (l n : ℕ) (b : Block) → h l ≡ Some b → IsBlock h l n → (length b ≡ n) × IsOnly h l b
that_block h l n b e p =
    let f : p.0 ≡ b = some_is_one (sym p.2.here ∙ e) in (subst (λ (c : Block). length c ≡ n) f p.1, subst (IsOnly h l) f p.2)

stands_stable : (h : Heap) (l n : ℕ) (there : Option Block) → h l ≡ there → Stable (IsBlock h l n)
stands_stable h l n None e deny = absurd (deny (no_block h l n e))
stands_stable h l n (Some b) e deny = (
  b,
  number_stable _ _ (λ k. deny (λ p. k (that_block h l n b e p).0)),
  only_stable _ _ _ (λ k. deny (λ p. k (that_block h l n b e p).1)),
)

pub is_block_stable : (h : Heap) (l n : ℕ) → Stable (IsBlock h l n)
is_block_stable h l n = stands_stable h l n (h l) refl

pub value_stable : (x y : Value) → Stable (x ≡ y)
value_stable x y h = elim (value_discrete ℕ_discrete Bool-discrete x y) [ yes p ↦ p | no p ↦ absurd (h p) ]

-- What each predicate says is stable.
pub record StableRecs (R : Recs) : Type 0 where
  pub at : (p j : ℕ) (vs : List Value) (h : Heap) → Stable (R p j vs h)

pub stable : (R : Recs) → StableRecs R → (F : FormulaTree) (w : World) → Stable (Holds R w F)
unfolding Holds
stable R s f_tt w h = tt
stable R s f_ff w h = h (λ k. k)
stable R s (f_and left right) w h = (stable R s left w (λ k. h (λ p. k p.0)), stable R s right w (λ k. h (λ p. k p.1)))
stable R s (f_or left right) w h = λ k. h (λ p. p k)
stable R s (f_imp left right) w h = λ a. stable R s right w (λ k. h (λ p. k (p a)))
stable R s (f_all_t mono body) w h = λ v typed. stable R s body (th_value v ∷ w) (λ k. h (λ p. k (p v typed)))
stable R s (f_ex_t mono body) w h = λ k. h (λ p. p k)
stable R s (f_all_h body) w h = λ g is. stable R s body (th_heap g ∷ w) (λ k. h (λ p. k (p g is)))
stable R s (f_ex_h body) w h = λ k. h (λ p. p k)
stable R s (f_emp heap) w h = record { each = λ l. block_stable _ _ (λ k. h (λ p. k (p.each l))) }
stable R s (f_cell mono heap place value) w h = only_stable _ _ _ h
stable R s (f_block mono heap place) w h = is_block_stable _ _ _ h
stable R s (f_join whole left right) w h = record { each = λ l. joins_stable _ _ _ (λ k. h (λ p. k (p.each l))) }
stable R s (f_same left right) w h = record { each = λ l. block_stable _ _ (λ k. h (λ p. k (p.each l))) }
stable R s (f_eq mono left right) w h = value_stable _ _ h
stable R s (f_at at formula) w h = stable R s formula w h
stable R s (f_rec number heap place arguments) w h = s.at _ _ _ _ h

either_stable : (b : Bool) (A B : Type 0) → Stable A → Stable B → Stable (type_if b A B)
either_stable true A B f g = f
either_stable false A B f g = g

with_stable : (R : Recs) (p : ℕ) (said : Saying)
    → StableRecs R
    → ((j : ℕ) (vs : List Value) (h : Heap) → Stable (said j vs h))
    → StableRecs (recs_with R p said)
with_stable R p said s f = record { at = λ q j vs h. either_stable (nat_eq q p) (said j vs h) (R q j vs h) (f j vs h) (s.at q j vs h) }

said_stable : (R : Recs) → StableRecs R → (p : ℕ) (r : RecTree) (j : ℕ) (vs : List Value) (h : Heap) → Stable (saying_of R p r j vs h)
said_stable R s p r zero vs h = stable R s r.at_zero (zero_world vs h)
said_stable R s p r (suc j) vs h =
    stable (recs_with R p (λ i. saying_of R p r j)) (with_stable R p (λ i. saying_of R p r j) s (λ i. said_stable R s p r j)) r.at_next
    (next_world j vs h)

by_stable : (R : Recs) → StableRecs R → (p : ℕ) (o : Option RecTree) (j : ℕ) (vs : List Value) (h : Heap) → Stable (saying_of_entry R p o j vs h)
by_stable R s p (Some r) j vs h = said_stable R s p r j vs h
by_stable R s p None j vs h = λ k. k (λ e. e)

below_stable : (table : List RecTree) (n : ℕ) → StableRecs (recs_below table n)
unfolding recs_below
below_stable table zero = record { at = λ q j vs h k. k (λ e. e) }
below_stable table (suc p) =
    with_stable (recs_below table p) p (saying_of_entry (recs_below table p) p (slice_get table p)) (below_stable table p)
    (by_stable (recs_below table p) (below_stable table p) p (slice_get table p))

table_stable : (table : List RecTree) → StableRecs (recs_of table)
table_stable table = below_stable table (length table)

middle : (R : Recs) (w : World) (F : FormulaTree) → Holds R w (f_or F (f_imp F f_ff))
unfolding Holds
middle R w F deny = deny (inr (λ h. deny (inl h)))

pub classical : TruthIsClassical
classical = record {
  tables = λ table p j vs h. (table_stable table).at p j vs h;
  stable = λ table w F. stable (recs_of table) (table_stable table) F w;
  excluded_middle = λ table w F. middle (recs_of table) w F;
}
