-- The entries of a program's values, each use of which takes fuel, and those whose uses take none: what the ones come
-- to the others reach. The value of a number is canonical with those before it.
use Rattle.std.proofs.Common.{◌≡◌, ℕ, zero, suc, ◌+◌, List, [], ◌∷◌, ◌++◌, length, map, Some, slice_get, refl, sym, ap, subst, arith, ◌⊎◌, inl, inr}
use Rattle.std.proofs.lemmas.List.{append-nil, append_assoc}
use Rattle.theory_canonical.specs.Skeletons.{Skeleton, skeleton}
use Rattle.theory_canonical.specs.Contexts.{HasSkeleton, first_head, later_head}
use Rattle.theory_canonical.specs.Canonical.{IsCanonical}
use Rattle.theory_denotation.specs.Valuations.{den_term, HeadEntries}
use Rattle.theory_denotation.specs.Recursion.{entered}
use Rattle.theory_denotation.specs.Denotation.{term_den}
use Rattle.theory_denotation.specs.Valued.{EndsInRun}
use Rattle.theory_denotation_relations.specs.Relating.{RelatedEntries, RelatedValuations, RelatedHeads}
use Rattle.theory_denotation_relations.specs.Files.{heads_of_skeletons, AreVals, vals_more}
use Rattle.theory_denotation_relations.specs.Laws.{KeptByFuel}
use Rattle.theory_denotation_relations.proofs.Recursions.{entered_related}
use Rattle.theory_denotation_relations.proofs.Related.{term_related}
use Rattle.theory_instances.specs.Calls.{ProgramVal}
use Rattle.theory_instances_canonical.specs.Keys.{val_tree}
use Rattle.theory_instances_canonical.specs.Counted.{counted_entry}
use Rattle.theory_fuel_of_values.specs.Reaching.{ReachedEntries, ReachedValuations, ReachedHeads}
use Rattle.theory_fuel_of_values.proofs.Kept.{fuel_is_kept}
use Rattle.theory_fuel_of_values.proofs.Recursions.{left_reached, right_reached}
use Rattle.theory_fuel_of_values.proofs.Terms.{term_reached}

longer : {X : Type 0} (xs : List X) (x : X) (n : ℕ) → length (xs ++ x ∷ []) + n ≡ length xs + suc n
longer [] x n = omega arith
longer (y ∷ xs) x n = let e = longer xs x n in omega (arith, e)

last_or_before : (before : List Skeleton) (s : Skeleton) {n : ℕ} {t : Skeleton}
    → HasSkeleton (before ++ s ∷ []) n t
    → HasSkeleton before n t ⊎ ((length before ≡ n) × (s ≡ t))
last_or_before [] s first_head = inr (refl, refl)
last_or_before [] s (later_head d) = elim d [ ]
last_or_before (x ∷ before) s first_head = inl first_head
last_or_before (x ∷ before) s (later_head d) = further (last_or_before before s d)
  where
    further : {n : ℕ} {t : Skeleton}
        → HasSkeleton before n t ⊎ ((length before ≡ n) × (s ≡ t))
        → HasSkeleton (x ∷ before) (suc n) t ⊎ ((suc (length before) ≡ suc n) × (s ≡ t))
    further (inl d) = inl (later_head d)
    further (inr (p, q)) = inr (ap suc p, q)

-- what holds of each value where it holds of those before it
module _ (vals : List ProgramVal) (P : ℕ → Skeleton → Type 0) where
  abbrev HoldsOf : List Skeleton → Type 0
  HoldsOf before = (n : ℕ) (s : Skeleton) → HasSkeleton before n s → P n s

  abbrev pub Goes : Type 0
  Goes =
      (before : List Skeleton) (n : ℕ) (v : ProgramVal)
      → HoldsOf before
      → slice_get vals n ≡ Some v
      → IsCanonical (heads_of_skeletons before) [] v.term (skeleton v.ty)
      → EndsInRun (skeleton v.ty)
      → P n (skeleton v.ty)

  module _ (goes : Goes) where
    one_more : (before : List Skeleton) (s : Skeleton) → HoldsOf before → P (length before) s → HoldsOf (before ++ s ∷ [])
    one_more before s holds p n t d = by (last_or_before before s d)
      where
        by : HasSkeleton before n t ⊎ ((length before ≡ n) × (s ≡ t)) → P n t
        by (inl a) = holds n t a
        by (inr (i, q)) = subst (λ m. P m t) i (subst (λ (u : Skeleton). P (length before) u) q p)

    onward : (before : List Skeleton) (rest : List ProgramVal)
        → ((j : ℕ) (v : ProgramVal) → slice_get rest j ≡ Some v → slice_get vals (length before + j) ≡ Some v)
        → HoldsOf before
        → AreVals before (map val_tree rest)
        → HoldsOf (before ++ map (λ (v : ProgramVal). skeleton v.ty) rest)
    onward before [] at holds a = subst HoldsOf (sym (append-nil before)) holds
    onward before (v ∷ rest) at holds (vals_more c r others) =
        let first : length before + zero ≡ length before = omega arith in
        subst HoldsOf (append_assoc before (skeleton v.ty ∷ []) (map (λ (u : ProgramVal). skeleton u.ty) rest))
        (onward (before ++ skeleton v.ty ∷ []) rest
        (λ j u q. subst (λ n. slice_get vals n ≡ Some u) (sym (longer before (skeleton v.ty) j)) (at (suc j) u q))
        (one_more before (skeleton v.ty) holds
        (goes before (length before) v holds (subst (λ n. slice_get vals n ≡ Some v) first (at zero v refl)) c r)) others)

    pub each : AreVals [] (map val_tree vals) → HoldsOf (map (λ (v : ProgramVal). skeleton v.ty) vals)
    each a =
        onward [] vals (λ j v q. let e : j ≡ length {A = Skeleton} [] + j = omega arith in subst (λ n. slice_get vals n ≡ Some v) e q)
        (λ n s d. elim d [ ]) a

closed_kept : RelatedValuations KeptByFuel [] [] []
closed_kept = record { terms = λ n s d. elim d [ ]; monos = λ n d. elim d [ ] }

pub closed : ReachedValuations [] [] []
closed = record { terms = λ n s d. elim d [ ]; monos = λ n d. elim d [ ]; kept = closed_kept }

abbrev pub KeptEntry : HeadEntries → ℕ → Skeleton → Type 0
KeptEntry e n s = RelatedEntries KeptByFuel s (e.vals n) (e.vals n)

-- What the value of a number comes to, the right one reaches and keeps.
pub record ReachedEntry (e e' : HeadEntries) (n : ℕ) (s : Skeleton) : Type 0 where
  pub reached : ReachedEntries s (e.vals n) (e'.vals n)
  pub kept : KeptEntry e' n s

-- heads of which no made function is used
module _ (ss : List Skeleton) where
  kept_heads : (e : HeadEntries) → ((n : ℕ) (s : Skeleton) → HasSkeleton ss n s → KeptEntry e n s) → RelatedHeads KeptByFuel (heads_of_skeletons ss) e e
  kept_heads e holds = record { vals = holds; made = λ n s values d. elim d [ ] }

  pub reached_heads : (e e' : HeadEntries)
      → ((n : ℕ) (s : Skeleton) → HasSkeleton ss n s → ReachedEntry e e' n s)
      → ReachedHeads (heads_of_skeletons ss) e e'
  reached_heads e e' holds = record {
    vals = λ n s d. (holds n s d).reached;
    made = λ n s values d. elim d [ ];
    kept = kept_heads e' (λ n s d. (holds n s d).kept);
  }

module _ (vals : List ProgramVal) (e e' : HeadEntries) (a : AreVals [] (map val_tree vals))
    (counted : (n : ℕ) (v : ProgramVal) → slice_get vals n ≡ Some v → e.vals n ≡ counted_entry e v)
    (plain : (n : ℕ) (v : ProgramVal) → slice_get vals n ≡ Some v → e'.vals n ≡ den_term (skeleton v.ty) (term_den e' [] v.term (skeleton v.ty))) where
  counted_goes : Goes vals (ReachedEntry e' e)
  counted_goes before n v holds there c r =
      let s = skeleton v.ty in
      let d = term_den e [] v.term s in
      let heads = reached_heads before e' e holds in
      record {
        reached = record {
          left = term_den e' [] v.term s;
          right = entered s d;
          is_left = plain n v there;
          is_right = counted n v there;
          reached = right_reached r (term_den e' [] v.term s) d (term_reached heads c closed);
        };
        kept = record {
          left = entered s d;
          right = entered s d;
          is_left = counted n v there;
          is_right = counted n v there;
          related = entered_related KeptByFuel fuel_is_kept r d d (term_related KeptByFuel fuel_is_kept heads.kept c closed_kept);
        };
      }

  plain_goes : Goes vals (ReachedEntry e e')
  plain_goes before n v holds there c r =
      let s = skeleton v.ty in
      let d = term_den e' [] v.term s in
      let heads = reached_heads before e e' holds in
      record {
        reached = record {
          left = entered s (term_den e [] v.term s);
          right = d;
          is_left = counted n v there;
          is_right = plain n v there;
          reached = left_reached r (term_den e [] v.term s) d (term_reached heads c closed);
        };
        kept = record {
          left = d;
          right = d;
          is_left = plain n v there;
          is_right = plain n v there;
          related = term_related KeptByFuel fuel_is_kept heads.kept c closed_kept;
        };
      }

  abbrev skeletons : List Skeleton
  skeletons = map (λ (v : ProgramVal). skeleton v.ty) vals

  -- the entries that count reach the plain ones, and the other way round
  pub counted_reached : ReachedHeads (heads_of_skeletons skeletons) e' e
  counted_reached = reached_heads skeletons e' e (each vals (ReachedEntry e' e) counted_goes a)

  pub plain_reached : ReachedHeads (heads_of_skeletons skeletons) e e'
  plain_reached = reached_heads skeletons e e' (each vals (ReachedEntry e e') plain_goes a)
