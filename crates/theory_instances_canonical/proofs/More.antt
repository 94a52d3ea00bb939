-- What is canonical with the made functions of some keys is so with those of more; and the values of a canonical
-- program are canonical with all values as heads.
use Rattle.std.proofs.Common.{◌≡◌, ◌≤◌, ℕ, zero, suc, List, [], ◌∷◌, ◌++◌, map, take, Some, None, slice_get, sym, ap, ◌∙◌, subst, arith}
use Rattle.std.proofs.lemmas.List.{append-nil, append_assoc}
use Rattle.std.proofs.lemmas.Option.{same_Some}
use Rattle.htt_syntax.specs.Trees.{FixTree, CompTree}
use Rattle.theory_canonical.specs.Skeletons.{Skeleton, skeleton}
use Rattle.theory_canonical.specs.Contexts.{Standing, as_term, Heads, HasSkeleton, first_head, later_head}
use Rattle.theory_canonical.specs.Canonical.{IsCanonical, IsCanonicalTy, IsCanonicalFix, IsCanonicalComp, n_lam, n_do, n_fun, n_hoare, n_param, n_body}
use Rattle.theory_denotation.specs.Denotation.{ValTree}
use Rattle.theory_denotation_relations.specs.Files.{heads_of_skeletons, AreVals, vals_end, vals_more, skeletons_after}
use Rattle.theory_denotation_substitution.proofs.Results.{do_comp}
use Rattle.theory_items.proofs.MoreHeads.{HasHeads, has_more, term_more, ty_more}
use Rattle.theory_instances.specs.Calls.{ProgramVal, Program, Argument, fix_ty, head_ty}
use Rattle.theory_instances.specs.Keys.{Key}
use Rattle.theory_instances.specs.Bodies.{opened_fix, opened_skeleton}
use Rattle.theory_instances_denoted.proofs.Put.{opened_canonical, fix_ty_canonical}
use Rattle.theory_instances_canonical.specs.Keys.{heads_with, val_tree, IsCanonicalProgram, CanonicalFixed, fixed_end, fixed_value, fixed_term, fixed_mono}
use Rattle.theory_instances_canonical.specs.Keys.{IsCanonicalKey, canonical_val, canonical_fix}

none_or_some : {A : Type 0} {x : A} → None ≡ Some x → ⊥
none_or_some q = cc

-- the skeletons of a list, of some of its first elements, and of a longer list
module _ {X : Type 0} (f : X → Skeleton) where
  front_stays : (xs ys : List X) {n : ℕ} {s : Skeleton} → HasSkeleton (map f xs) n s → HasSkeleton (map f (xs ++ ys)) n s
  front_stays [] ys d = elim d [ ]
  front_stays (x ∷ xs) ys first_head = first_head
  front_stays (x ∷ xs) ys (later_head d) = later_head (front_stays xs ys d)

  taken_stays : (i : ℕ) (xs : List X) {n : ℕ} {s : Skeleton} → HasSkeleton (map f (take i xs)) n s → HasSkeleton (map f xs) n s
  taken_stays zero xs d = elim d [ ]
  taken_stays (suc i) [] d = elim d [ ]
  taken_stays (suc i) (x ∷ xs) first_head = first_head
  taken_stays (suc i) (x ∷ xs) (later_head d) = later_head (taken_stays i xs d)

  taken_further : (i j : ℕ) (xs : List X) {n : ℕ} {s : Skeleton}
      → i ≤ j
      → HasSkeleton (map f (take i xs)) n s
      → HasSkeleton (map f (take j xs)) n s
  taken_further zero j xs l d = elim d [ ]
  taken_further (suc i) j [] l d = elim d [ ]
  taken_further (suc i) zero (x ∷ xs) l d = absurd (omega (arith, l))
  taken_further (suc i) (suc j) (x ∷ xs) l first_head = first_head
  taken_further (suc i) (suc j) (x ∷ xs) l (later_head d) = later_head (taken_further i j xs (omega (arith, l)) d)

  taken_in_front : (i : ℕ) (xs ys : List X) {n : ℕ} {s : Skeleton}
      → HasSkeleton (map f (take i xs)) n s
      → HasSkeleton (map f (take i (xs ++ ys))) n s
  taken_in_front zero xs ys d = elim d [ ]
  taken_in_front (suc i) [] ys d = elim d [ ]
  taken_in_front (suc i) (x ∷ xs) ys first_head = first_head
  taken_in_front (suc i) (x ∷ xs) ys (later_head d) = later_head (taken_in_front i xs ys d)

abbrev skeleton_of_key : Program → Key → Skeleton
skeleton_of_key p k = skeleton (head_ty p k.head)

pub front_more : (p : Program) (xs ys : List Key) → HasHeads (heads_with p xs) (heads_with p (xs ++ ys))
front_more p xs ys = record { vals = λ d. d; made = λ d. front_stays (skeleton_of_key p) xs ys d }

pub taken_more : (p : Program) (i : ℕ) (xs : List Key) → HasHeads (heads_with p (take i xs)) (heads_with p xs)
taken_more p i xs = record { vals = λ d. d; made = λ d. taken_stays (skeleton_of_key p) i xs d }

pub further_more : (p : Program) (i j : ℕ) (xs : List Key) → i ≤ j → HasHeads (heads_with p (take i xs)) (heads_with p (take j xs))
further_more p i j xs l = record { vals = λ d. d; made = λ d. taken_further (skeleton_of_key p) i j xs l d }

pub in_front_more : (p : Program) (i : ℕ) (xs ys : List Key) → HasHeads (heads_with p (take i xs)) (heads_with p (take i (xs ++ ys)))
in_front_more p i xs ys = record { vals = λ d. d; made = λ d. taken_in_front (skeleton_of_key p) i xs ys d }

pub first_more : (p : Program) (all : List Key) → HasHeads (heads_with p []) (heads_with p all)
first_more p all = record { vals = λ d. d; made = λ d. elim d [ ] }

-- a recursive function is canonical where it is so when opened, and its type is
fix_again : {few more : Heads} {g : List Standing} {whole s : Skeleton} {fix : FixTree}
    → IsCanonicalFix few g whole fix s
    → IsCanonical more g (opened_fix fix) (opened_skeleton whole fix)
    → IsCanonicalTy more g (fix_ty fix)
    → IsCanonicalFix more g whole fix s
unfolding opened_fix opened_skeleton fix_ty
fix_again {more = more} {g = g} {whole = whole} (n_param {others = others} b q rest) (n_lam a) (n_fun c r d) =
    n_param c q
    (fix_again rest (subst (λ u. IsCanonical more (as_term u ∷ g) (opened_fix others) (opened_skeleton whole others)) q a)
    (subst (λ u. IsCanonicalTy more (as_term u ∷ g) (fix_ty others)) (sym r ∙ q) d))
fix_again (n_body b c) (n_lam (n_do a)) (n_hoare d) = n_body d a

module _ {few more : Heads} (m : HasHeads few more) where
  pub fix_more : {g : List Standing} {whole s : Skeleton} {fix : FixTree} → IsCanonicalFix few g whole fix s → IsCanonicalFix more g whole fix s
  fix_more c = fix_again c (term_more m (opened_canonical c)) (ty_more m (fix_ty_canonical c))

  pub comp_more : {g : List Standing} {comp : CompTree} → IsCanonicalComp few g comp → IsCanonicalComp more g comp
  comp_more c = do_comp (term_more m (n_do c))

  fixed_more : {g : List Standing} {s : Skeleton} {fixed : List Argument} → CanonicalFixed few g s fixed → CanonicalFixed more g s fixed
  fixed_more fixed_end = fixed_end
  fixed_more (fixed_value f) = fixed_value (fixed_more f)
  fixed_more (fixed_term i c f) = fixed_term i (term_more m c) (fixed_more f)
  fixed_more (fixed_mono c f) = fixed_mono c (fixed_more f)

  pub key_more : {p : Program} {key : Key} → IsCanonicalKey few p key → IsCanonicalKey more p key
  key_more (canonical_val i q found f) = canonical_val i q found (fixed_more f)
  key_more (canonical_fix i q c f) = canonical_fix i q (fix_more c) (fixed_more f)

-- the values of a file, with all values as heads
after_stays : {n : ℕ} {s : Skeleton} (before : List Skeleton) (vs : List ValTree) → HasSkeleton before n s → HasSkeleton (skeletons_after before vs) n s
after_stays before [] d = d
after_stays before (v ∷ vs) d = after_stays (before ++ (v.skeleton ∷ [])) vs ((has_more before (v.skeleton ∷ []) []).vals d)

after_more : (before : List Skeleton) (vs : List ValTree) → HasHeads (heads_of_skeletons before) (heads_of_skeletons (skeletons_after before vs))
after_more before vs = record { vals = λ d. after_stays before vs d; made = λ d. d }

canonical_at : {before : List Skeleton} {vs : List ValTree}
    → AreVals before vs
    → (n : ℕ) (v : ValTree)
    → slice_get vs n ≡ Some v
    → IsCanonical (heads_of_skeletons (skeletons_after before vs)) [] v.term v.skeleton
canonical_at vals_end n v q = absurd (none_or_some q)
canonical_at {before = before} (vals_more {v = u} {vs = vs} c r others) zero v q =
    subst (λ (x : ValTree). IsCanonical (heads_of_skeletons (skeletons_after before (u ∷ vs))) [] x.term x.skeleton) (same_Some u v q)
    (term_more (after_more before (u ∷ vs)) c)
canonical_at (vals_more c r others) (suc n) v q = canonical_at others n v q

after_is : (before : List Skeleton) (vals : List ProgramVal)
    → skeletons_after before (map val_tree vals) ≡ before ++ map (λ (v : ProgramVal). skeleton v.ty) vals
after_is before [] = sym (append-nil before)
after_is before (v ∷ vals) =
    after_is (before ++ (skeleton v.ty ∷ [])) vals ∙ append_assoc before (skeleton v.ty ∷ []) (map (λ (v : ProgramVal). skeleton v.ty) vals)

tree_there : (vals : List ProgramVal) (n : ℕ) (v : ProgramVal) → slice_get vals n ≡ Some v → slice_get (map val_tree vals) n ≡ Some (val_tree v)
tree_there [] n v q = absurd (none_or_some q)
tree_there (u ∷ vals) zero v q = ap (λ (x : ProgramVal). Some (val_tree x)) (same_Some u v q)
tree_there (u ∷ vals) (suc n) v q = tree_there vals n v q

pub val_canonical : (p : Program)
    → IsCanonicalProgram p
    → (n : ℕ) (v : ProgramVal)
    → slice_get p.vals n ≡ Some v
    → IsCanonical (heads_with p []) [] v.term (skeleton v.ty)
val_canonical p a n v q =
    subst (λ (ss : List Skeleton). IsCanonical (heads_of_skeletons ss) [] v.term (skeleton v.ty)) (after_is [] p.vals)
    (canonical_at a n (val_tree v) (tree_there p.vals n v q))
