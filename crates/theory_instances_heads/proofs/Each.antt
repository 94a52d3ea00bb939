-- Lists whose elements have something to do with skeletons, and the heads that such lists make.
use Rattle.std.proofs.Common.{◌≡◌, ℕ, zero, suc, List, [], ◌∷◌, ◌++◌, length, Some, slice_get, refl, sym, ap, subst}
use Rattle.theory_values.specs.Values.{Value}
use Rattle.theory_canonical.specs.Skeletons.{Skeleton}
use Rattle.theory_canonical.specs.Contexts.{HasSkeleton, first_head, later_head}
use Rattle.theory_denotation.specs.Valuations.{ValuationEntry}
use Rattle.theory_denotation.specs.Denotation.{entry_or_none}
use Rattle.theory_denotation.specs.Valued.{IsOf, HeadsValued}
use Rattle.theory_denotation_unfolding.specs.Agreement.{EntriesAgree, SteadyHeads}
use Rattle.theory_instances_heads.specs.Heads.{MadeFunction, function_or_none, heads_from}

pub data Each {X : Type 0} (P : Skeleton → X → Type 0) : List Skeleton → List X → Type 0 where
  each_none : Each P [] []
  each_more : {s : Skeleton} {ss : List Skeleton} {x : X} {xs : List X} → P s x → Each P ss xs → Each P (s ∷ ss) (x ∷ xs)

pub one_more : {X : Type 0} {P : Skeleton → X → Type 0} {ss : List Skeleton} {xs : List X} (s : Skeleton) (x : X)
    → Each P ss xs
    → P s x
    → Each P (ss ++ (s ∷ [])) (xs ++ (x ∷ []))
one_more s x each_none o = each_more o each_none
one_more s x (each_more p k) o = each_more p (one_more s x k o)

-- The element at an index.
pub record Found {X : Type 0} (P : Skeleton → X → Type 0) (xs : List X) (n : ℕ) (s : Skeleton) : Type 0 where
  pub it : X
  pub there : slice_get xs n ≡ Some it
  pub holds : P s it

pub found : {X : Type 0} {P : Skeleton → X → Type 0} {ss : List Skeleton} {xs : List X} {n : ℕ} {s : Skeleton}
    → Each P ss xs
    → HasSkeleton ss n s
    → Found P xs n s
found each_none d = elim d [ ]
found (each_more {x = x} p k) first_head = record { it = x; there = refl; holds = p }
found (each_more p k) (later_head d) = let r = found k d in record { it = r.it; there = r.there; holds = r.holds }

pub in_front : {X : Type 0} (xs ys : List X) (n : ℕ) (x : X) → slice_get xs n ≡ Some x → slice_get (xs ++ ys) n ≡ Some x
in_front [] ys n x q = absurd (cc)
in_front (z ∷ xs) ys zero x q = q
in_front (z ∷ xs) ys (suc n) x q = in_front xs ys n x q

pub at_end : {X : Type 0} (xs : List X) (y : X) → slice_get (xs ++ y ∷ []) (length xs) ≡ Some y
at_end [] y = refl
at_end (x ∷ xs) y = at_end xs y

pub longer : {X : Type 0} (xs : List X) (y : X) → length (xs ++ y ∷ []) ≡ suc (length xs)
longer [] y = refl
longer (x ∷ xs) y = ap suc (longer xs y)

-- Steady entries, and functions that make such.
abbrev pub SteadyEntry : Skeleton → ValuationEntry → Type 0
SteadyEntry s x = (bound : ℕ) → EntriesAgree bound s x x

abbrev pub SteadyMade : Skeleton → MadeFunction → Type 0
SteadyMade s f = (values : List Value) → SteadyEntry s (f values)

pub is_of : (s : Skeleton) (x : ValuationEntry) → SteadyEntry s x → IsOf s x
is_of s x a = let o = a zero in record { of = o.left; is = o.is_left }

module _ {vals made : List Skeleton} {xs : List ValuationEntry} {fs : List MadeFunction} (k : Each SteadyEntry vals xs) (m : Each SteadyMade made fs) where
  pub from_valued : HeadsValued (record { vals = vals; made = made }) (heads_from xs fs)
  from_valued = record {
    vals = λ n s d. let r = found k d in subst (IsOf s) (sym (ap entry_or_none r.there)) (is_of s r.it r.holds);
    made = λ n s values d. let r = found m d in subst (λ (f : MadeFunction). IsOf s (f values)) (sym (ap function_or_none r.there)) (is_of s (r.it values) (r.holds values));
  }

  pub from_steady : SteadyHeads (record { vals = vals; made = made }) (heads_from xs fs)
  from_steady bound = record {
    vals = λ n s d. let r = found k d in subst (λ x. EntriesAgree bound s x x) (sym (ap entry_or_none r.there)) (r.holds bound);
    made = λ n s values d. let r = found m d in
        subst (λ (f : MadeFunction). EntriesAgree bound s (f values) (f values)) (sym (ap function_or_none r.there)) (r.holds values bound);
  }
