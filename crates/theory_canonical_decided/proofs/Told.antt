-- What is learnt where a test of an entry, of a skeleton or of a folding says true, and back.
use Rattle.std.proofs.Common.{◌≡◌, ℕ, zero, suc, List, [], ◌∷◌, slice_get, Bool, true, false, Option, Some, None, refl, subst}
use Rattle.htt_syntax.specs.Trees.{TermTree}
use Rattle.theory_canonical.specs.Skeletons.{Skeleton, sk_o, sk_c, sk_arrow, sk_all}
use Rattle.theory_canonical.specs.Contexts.{Standing, as_mono, as_heap, as_open, as_term, Stands, here, open_mono, open_heap, open_term, there}
use Rattle.theory_canonical.specs.Contexts.{Heads, HasSkeleton, first_head, later_head}
use Rattle.theory_canonical.specs.Canonical.{IsCanonical}
use Rattle.theory_canonical_decided.specs.Standings.{serves_as_mono, serves_as_heap, skeleton_of_entry, is_o, is_told_o, is_told_c, is_kept, told_if}
use Rattle.theory_canonical_decided.specs.Standings.{of_application, of_instance}

pub mono_stands : (g : List Standing) (n : ℕ) → serves_as_mono (slice_get g n) ≡ true → Stands g n as_mono
mono_stands [] n e = cc
mono_stands (as_mono ∷ g) zero e = here
mono_stands (as_open ∷ g) zero e = open_mono
mono_stands (as_heap ∷ g) zero e = cc
mono_stands (as_term s ∷ g) zero e = cc
mono_stands (entry ∷ g) (suc n) e = there (mono_stands g n e)

pub heap_stands : (g : List Standing) (n : ℕ) → serves_as_heap (slice_get g n) ≡ true → Stands g n as_heap
heap_stands [] n e = cc
heap_stands (as_heap ∷ g) zero e = here
heap_stands (as_open ∷ g) zero e = open_heap
heap_stands (as_mono ∷ g) zero e = cc
heap_stands (as_term s ∷ g) zero e = cc
heap_stands (entry ∷ g) (suc n) e = there (heap_stands g n e)

open_is_o : {g : List Standing} (s : Skeleton) → Some sk_o ≡ Some s → Stands (as_open ∷ g) zero (as_term s)
open_is_o sk_o e = open_term
open_is_o sk_c e = cc
open_is_o (sk_arrow s t) e = cc
open_is_o (sk_all s) e = cc

term_is : {g : List Standing} (r s : Skeleton) → r ≡ s → Stands (as_term r ∷ g) zero (as_term s)
term_is {g} r s e = subst (λ (t : Skeleton). Stands (as_term r ∷ g) zero (as_term t)) e here

pub term_stands : (g : List Standing) (n : ℕ) (s : Skeleton) → skeleton_of_entry (slice_get g n) ≡ Some s → Stands g n (as_term s)
term_stands [] n s e = cc
term_stands (as_open ∷ g) zero s e = open_is_o s e
term_stands (as_term r ∷ g) zero s e = let same : r ≡ s = cc in term_is r s same
term_stands (as_mono ∷ g) zero s e = cc
term_stands (as_heap ∷ g) zero s e = cc
term_stands (entry ∷ g) (suc n) s e = there (term_stands g n s e)

pub mono_serves : {g : List Standing} {n : ℕ} → Stands g n as_mono → serves_as_mono (slice_get g n) ≡ true
mono_serves here = refl
mono_serves open_mono = refl
mono_serves (there d) = mono_serves d

pub heap_serves : {g : List Standing} {n : ℕ} → Stands g n as_heap → serves_as_heap (slice_get g n) ≡ true
heap_serves here = refl
heap_serves open_heap = refl
heap_serves (there d) = heap_serves d

pub term_serves : {g : List Standing} {n : ℕ} {s : Skeleton} → Stands g n (as_term s) → skeleton_of_entry (slice_get g n) ≡ Some s
term_serves here = refl
term_serves open_term = refl
term_serves (there d) = term_serves d

pub head_has : (heads : List Skeleton) (n : ℕ) (s : Skeleton) → slice_get heads n ≡ Some s → HasSkeleton heads n s
head_has [] n s e = cc
head_has (r ∷ heads) zero s e = let same : r ≡ s = cc in subst (λ (t : Skeleton). HasSkeleton (r ∷ heads) zero t) same first_head
head_has (r ∷ heads) (suc n) s e = later_head (head_has heads n s e)

pub head_got : {heads : List Skeleton} {n : ℕ} {s : Skeleton} → HasSkeleton heads n s → slice_get heads n ≡ Some s
head_got first_head = refl
head_got (later_head d) = head_got d

pub told_o : (s : Option Skeleton) → is_told_o s ≡ true → s ≡ Some sk_o
told_o None e = cc
told_o (Some sk_o) e = refl
told_o (Some sk_c) e = cc
told_o (Some (sk_arrow s t)) e = cc
told_o (Some (sk_all s)) e = cc

pub told_c : (s : Option Skeleton) → is_told_c s ≡ true → s ≡ Some sk_c
told_c None e = cc
told_c (Some sk_c) e = refl
told_c (Some sk_o) e = cc
told_c (Some (sk_arrow s t)) e = cc
told_c (Some (sk_all s)) e = cc

pub kept : (folded : Option TermTree) → is_kept folded ≡ true → folded ≡ None
kept None e = refl
kept (Some term) e = cc

-- what is canonical at o, at a skeleton that is o
pub at_o : {h : Heads} {g : List Standing} {term : TermTree} (s : Skeleton) → is_o s ≡ true → IsCanonical h g term sk_o → IsCanonical h g term s
at_o sk_o e d = d
at_o sk_c e d = cc
at_o (sk_arrow s t) e d = cc
at_o (sk_all s) e d = cc

pub was_told : (b : Bool) (o : Option Skeleton) (s : Skeleton) → told_if b o ≡ Some s → (b ≡ true) × (o ≡ Some s)
was_told true o s e = (refl, e)
was_told false o s e = cc

-- the argument's skeleton, which the function tells
pub record Applied (function : Option Skeleton) (test : Skeleton → Bool) (t : Skeleton) : Type 0 where
  pub argument : Skeleton
  pub told : function ≡ Some (sk_arrow argument t)
  pub fits : test argument ≡ true

pub application : (function : Option Skeleton) (test : Skeleton → Bool) (t : Skeleton) → of_application function test ≡ Some t → Applied function test t
application None test t e = cc
application (Some sk_o) test t e = cc
application (Some sk_c) test t e = cc
application (Some (sk_all s)) test t e = cc
application (Some (sk_arrow s r)) test t e =
    let p = was_told (test s) (Some r) t e in
    let same : r ≡ t = let q = p.1 in cc in
    record { argument = s; told = λ j. Some (sk_arrow s (same j)); fits = p.0 }

pub instance : (function : Option Skeleton) (s : Skeleton) → of_instance function ≡ Some s → function ≡ Some (sk_all s)
instance None s e = cc
instance (Some sk_o) s e = cc
instance (Some sk_c) s e = cc
instance (Some (sk_arrow r t)) s e = cc
instance (Some (sk_all r)) s e = let same : r ≡ s = cc in λ j. Some (sk_all (same j))
