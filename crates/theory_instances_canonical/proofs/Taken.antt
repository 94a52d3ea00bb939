-- Keys and bodies of the instances of a canonical program are canonical.
use Rattle.std.proofs.Common.{◌≡◌, ℕ, zero, suc, ◌+◌, List, [], ◌∷◌, ◌++◌, length, map, take, Some, None, slice_get, ◌⊎◌, inl, inr, refl, sym, ap}
use Rattle.std.proofs.Common.{◌∙◌, subst, arith}
use Rattle.std.proofs.lemmas.List.{take_at, take-append-le}
use Rattle.std.proofs.lemmas.Option.{same_Some, slice_get_within}
use Rattle.htt_syntax.specs.Trees.{TyTree}
use Rattle.theory_canonical.specs.Skeletons.{Skeleton, skeleton}
use Rattle.theory_canonical.specs.Contexts.{Heads, HasSkeleton}
use Rattle.theory_canonical.specs.Canonical.{IsCanonicalComp}
use Rattle.theory_items.proofs.MoreHeads.{HasHeads}
use Rattle.theory_instances.specs.Calls.{Program, head_ty, sites_of}
use Rattle.theory_instances.specs.Keys.{Key}
use Rattle.theory_instances.specs.Lists.{Meets, meets_none, meets_known, meets_new, Taken, TakesUp, TakesAll, takes_end, takes_next, IsMain, main_key}
use Rattle.theory_instances.specs.Lists.{HasInstances}
use Rattle.theory_instances_canonical.specs.Keys.{values_context, heads_with, IsCanonicalProgram, CanonicalFixed, fixed_end, IsCanonicalKey, canonical_val}
use Rattle.theory_instances_canonical.specs.Laws.{InstancesAreCanonical}
use Rattle.theory_instances_canonical.proofs.Contexts.{skeleton_there}
use Rattle.theory_instances_canonical.proofs.More.{front_more, taken_more, further_more, in_front_more, comp_more, key_more}
use Rattle.theory_instances_canonical.proofs.Sites.{sites_canonical, EachKeyOf, keys_canonical}
use Rattle.theory_instances_canonical.proofs.Bodies.{body_canonical}

none_or_some : {A : Type 0} {x : A} → None ≡ Some x → ⊥
none_or_some q = cc

at_end : (keys : List Key) (key k : Key) (n : ℕ)
    → slice_get (keys ++ key ∷ []) n ≡ Some k
    → (slice_get keys n ≡ Some k) ⊎ ((length keys ≡ n) × (key ≡ k))
at_end [] key k zero q = inr (refl, same_Some key k q)
at_end [] key k (suc n) q = absurd (none_or_some q)
at_end (x ∷ keys) key k zero q = inl q
at_end (x ∷ keys) key k (suc n) q = elim (at_end keys key k n q) [ inl r ↦ inl r | inr r ↦ inr (ap suc (r.0), r.1) ]

-- an element among the first
pub taken_there : {A : Type 0} (xs : List A) (n : ℕ) (x : A) → slice_get xs n ≡ Some x → slice_get (take (suc n) xs) n ≡ Some x
taken_there [] n x q = absurd (none_or_some q)
taken_there (y ∷ xs) zero x q = q
taken_there (y ∷ xs) (suc n) x q = taken_there xs n x q

each_more : (p : Program) {few more : Heads} → HasHeads few more → (keys : List Key) → EachKeyOf few p keys → EachKeyOf more p keys
each_more p m [] a = tt
each_more p m (key ∷ keys) a = (key_more m (a.0), each_more p m keys (a.1))

-- the keys before stay where they are
met_more : (p : Program) (i : ℕ) {keys met after : List Key} → Meets keys met after → HasHeads (heads_with p (take i keys)) (heads_with p (take i after))
met_more p i meets_none = record { vals = λ d. d; made = λ d. d }
met_more p i (meets_known n l m) = met_more p i m
met_more p i {keys = keys} (meets_new {key = key} f l m) =
    let a = in_front_more p i keys (key ∷ []) in let b = met_more p i m in record { vals = λ d. d; made = λ d. b.made (a.made d) }

all_more : (p : Program) (i : ℕ) {keys final : List Key} {number : ℕ} {rows : List Taken}
    → TakesAll p keys number rows final
    → HasHeads (heads_with p (take i keys)) (heads_with p (take i final))
all_more p i (takes_end r) = record { vals = λ d. d; made = λ d. d }
all_more p i (takes_next r u m rest) =
    let a = met_more p i m in let b = all_more p i rest in record { vals = λ d. d; made = λ d. b.made (a.made d) }

module _ (p : Program) (program : IsCanonicalProgram p) where
  -- each key is canonical with those before it
  abbrev pub Known : List Key → Type 0
  Known keys = (n : ℕ) (k : Key) → slice_get keys n ≡ Some k → IsCanonicalKey (heads_with p (take n keys)) p k

  one_known : (keys : List Key) (key : Key) → Known keys → IsCanonicalKey (heads_with p keys) p key → Known (keys ++ key ∷ [])
  one_known keys key a c n k q = elim (at_end keys key k n q) [
    | inl r ↦ let l = slice_get_within keys n k r in
        subst (λ (before : List Key). IsCanonicalKey (heads_with p before) p k) (sym (take-append-le n keys (key ∷ []) (omega (arith, l)))) (a n k r)
    | inr r ↦ subst (λ (other : Key). IsCanonicalKey (heads_with p (take n (keys ++ key ∷ []))) p other) (r.1)
        (subst (λ (before : List Key). IsCanonicalKey (heads_with p before) p key) (sym (take_at keys (key ∷ []) n (r.0))) c)
  ]

  pub met_known : {keys met after : List Key} → Meets keys met after → Known keys → EachKeyOf (heads_with p keys) p met → Known after
  met_known meets_none a b = a
  met_known (meets_known i l m) a b = met_known m a (b.1)
  met_known {keys = keys} (meets_new {others = others} {key = key} f l m) a b =
      met_known m (one_known keys key a (b.0)) (each_more p (front_more p keys (key ∷ [])) others (b.1))

  abbrev pub Body : List Key → ℕ → Taken → Type 0
  Body keys number taken = (m : ℕ) × IsCanonicalComp (heads_with p (take (suc number) keys)) (values_context m) taken.body

  pub taken_body : (keys : List Key) (number : ℕ) (key : Key) {taken : Taken}
      → slice_get keys number ≡ Some key
      → IsCanonicalKey (heads_with p (take number keys)) p key
      → TakesUp p number key taken
      → Body keys number taken
  taken_body keys number key here c u =
      let few : List Key = take (suc number) keys in
      body_canonical few program
      (λ s at fix q r. subst (λ (t : Skeleton). HasSkeleton (map (λ (k : Key). skeleton (head_ty p k.head)) few) number t)
      (ap (λ h. skeleton (head_ty p h)) q ∙ r)
      (skeleton_there (λ (k : Key). skeleton (head_ty p k.head)) few number key (taken_there keys number key here)))
      (key_more (further_more p number (suc number) keys (omega arith)) c) u.has_body

  abbrev Bodies : List Key → ℕ → List Taken → Type 0
  Bodies final number rows = (n : ℕ) (taken : Taken) → slice_get rows n ≡ Some taken → Body final (number + n) taken

  one_more_body : (final : List Key) (number : ℕ) (taken : Taken) (others : List Taken)
      → Body final number taken
      → Bodies final (suc number) others
      → Bodies final number (taken ∷ others)
  one_more_body final number taken others b rest zero other q =
      let e : number ≡ number + 0 = omega arith in
      subst (λ n. Body final n other) e (subst (Body final number) (same_Some taken other q) b)
  one_more_body final number taken others b rest (suc n) other q =
      let e : suc number + n ≡ number + suc n = omega arith in subst (λ k. Body final k other) e (rest n other q)

  all_bodies : {keys final : List Key} {number : ℕ} {rows : List Taken} → TakesAll p keys number rows final → Known keys → Known final × Bodies final number rows
  all_bodies (takes_end q) a = (a, λ n taken r. absurd (none_or_some r))
  all_bodies {keys = keys} {final = final} {number = number} (takes_next {key = key} {taken = taken} {others = others} q u m rest) a =
      let body : Body keys number taken = taken_body keys number key q (a number key q) u in
      let there = comp_more (taken_more p (suc number) keys) (body.1) in
      let sites = sites_canonical (body.0) taken.params there refl in
      let r = all_bodies rest (met_known m a (keys_canonical p keys (sites_of taken.params taken.body) sites)) in
      let stays = comp_more (all_more p (suc number) (takes_next q u m rest)) (body.1) in
      (r.0, one_more_body final number taken others (body.0, stays) (r.1))

  pub main_known : {number : ℕ} → IsMain p number → Known (main_key number ∷ [])
  unfolding skeleton
  main_known {number = number} m zero k q =
      subst (IsCanonicalKey (heads_with p []) p) (same_Some (main_key number) k q)
      (canonical_val zero refl m.there
      (subst (λ (t : TyTree). CanonicalFixed (heads_with p []) [] (skeleton t) []) (sym m.is_hoare) fixed_end))
  main_known m (suc n) k q = absurd (none_or_some q)

pub canonical : InstancesAreCanonical
canonical = record { keys = keys_are; bodies = bodies_are }
  where
    keys_are : (p : Program) (instances : List Taken) (keys : List Key) → IsCanonicalProgram p → HasInstances p instances keys
        → (number : ℕ) (key : Key)
        → slice_get keys number ≡ Some key
        → IsCanonicalKey (heads_with p (take number keys)) p key
    keys_are p instances keys program h = (all_bodies p program h.all (main_known p program h.main)).0

    bodies_are : (p : Program) (instances : List Taken) (keys : List Key) → IsCanonicalProgram p → HasInstances p instances keys
        → (number : ℕ) (taken : Taken)
        → slice_get instances number ≡ Some taken
        → (m : ℕ) × IsCanonicalComp (heads_with p (take (suc number) keys)) (values_context m) taken.body
    bodies_are p instances keys program h number taken q =
        let e : 0 + number ≡ number = omega arith in
        subst (λ n. (m : ℕ) × IsCanonicalComp (heads_with p (take (suc n) keys)) (values_context m) taken.body) e
        ((all_bodies p program h.all (main_known p program h.main)).1 number taken q)
