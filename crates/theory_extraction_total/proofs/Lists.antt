-- A canonical program has a list of instances, or a reason why it has none: each turn takes one more instance up, and
-- there are no more keys than the limit.
use Rattle.std.proofs.Common.{◌≡◌, ◌≤◌, ◌<◌, ℕ, zero, suc, ◌+◌, List, [], ◌∷◌, ◌++◌, length, map, take, Option, Some, None, slice_get, ◌⊎◌, inl, inr}
use Rattle.std.proofs.Common.{refl, sym, ap, ◌∙◌, subst, arith}
use Rattle.std.proofs.lemmas.Bool.{cases_lt}
use Rattle.std.proofs.lemmas.List.{length-append}
use Rattle.std.proofs.lemmas.Option.{slice_get_within}
use Rattle.htt_syntax.specs.Trees.{TyTree, TripleTree, y_mono, y_fun, y_all, y_hoare, y_at}
use Rattle.theory_canonical.specs.Skeletons.{Skeleton, skeleton}
use Rattle.theory_canonical.specs.Contexts.{HasSkeleton}
use Rattle.theory_items.proofs.Lists.{get_more}
use Rattle.theory_instances.specs.Calls.{ProgramVal, Program, head_ty, sites_of}
use Rattle.theory_instances.specs.Keys.{Key}
use Rattle.theory_instances.specs.Bodies.{params_of, result_of}
use Rattle.theory_instances.specs.Varying.{NeverVaries}
use Rattle.theory_instances.specs.Lists.{Refusal, is_varying, too_many_instances, no_main, has_parameters, instance_limit, result_refusal, mono_refusal, Meets, meets_none, meets_known, meets_new, MeetsTooMany}
use Rattle.theory_instances.specs.Lists.{too_many_here, too_many_past_known, too_many_past_new, keys_met, Taken, TakesUp, RefusesUp, up_varies}
use Rattle.theory_instances.specs.Lists.{up_result, up_mono, TakesAll, takes_end, takes_next, RefusesAll, refuses_up, refuses_calls, refuses_later}
use Rattle.theory_instances.specs.Lists.{main_key, IsMain, HasInstances, RefusesInstances, refuses_no_main, refuses_parameters, refuses_list}
use Rattle.theory_instances_canonical.specs.Keys.{heads_with, IsCanonicalProgram, IsCanonicalKey, canonical_val, canonical_fix}
use Rattle.theory_instances_canonical.proofs.Contexts.{skeleton_there}
use Rattle.theory_instances_canonical.proofs.More.{further_more, taken_more, comp_more, key_more}
use Rattle.theory_instances_canonical.proofs.Sites.{sites_canonical, keys_canonical}
use Rattle.theory_instances_canonical.proofs.Taken.{Known, Body, taken_there, taken_body, met_known, main_known}
use Rattle.theory_extraction.specs.Extraction.{IsOfVal}
use Rattle.theory_extraction_total.proofs.Varied.{varies_or_not}
use Rattle.theory_extraction_total.proofs.Existing.{Bodied, bodied}
use Rattle.theory_extraction_total.proofs.Known.{known_or_new}

-- the keys of the calls join, or there are too many
record Joined (keys met : List Key) : Type 0 where
  after : List Key
  meets : Meets keys met after
  within : length after ≤ instance_limit

meets_decided : (keys met : List Key) → length keys ≤ instance_limit → Joined keys met ⊎ MeetsTooMany keys met
meets_decided keys [] l = inl (record { after = keys; meets = meets_none; within = l })
meets_decided keys (key ∷ others) l = elim (known_or_new keys key) [
  | inl k ↦ elim (meets_decided keys others l) [
    | inl j ↦ inl (record { after = j.after; meets = meets_known (k.0) (k.1) j.meets; within = j.within })
    | inr m ↦ inr (too_many_past_known (k.0) (k.1) m)
  ]
  | inr new ↦ elim (cases_lt (length keys) instance_limit) [
    | inl room ↦ elim (meets_decided (keys ++ key ∷ []) others (let q = length-append keys (key ∷ []) in omega (arith, q, room))) [
      | inl j ↦ inl (record { after = j.after; meets = meets_new new room j.meets; within = j.within })
      | inr m ↦ inr (too_many_past_new new room m)
    ]
    | inr full ↦ inr (too_many_here new (omega (arith, l, full)))
  ]
]

pub met_stays : {keys met after : List Key} → Meets keys met after → (n : ℕ) (k : Key) → slice_get keys n ≡ Some k → slice_get after n ≡ Some k
met_stays meets_none n k q = q
met_stays (meets_known i l a) n k q = met_stays a n k q
met_stays {keys = keys} (meets_new {key = key} f l a) n k q = met_stays a n k (get_more keys (key ∷ []) n k q)

past_end : {A : Type 0} (xs : List A) (n : ℕ) → slice_get xs n ≡ None → n < length xs → ⊥
past_end [] n q l = omega (arith, l)
past_end (x ∷ xs) zero q l = cc
past_end (x ∷ xs) (suc n) q l = past_end xs n q (omega (arith, l))

module _ (p : Program) (program : IsCanonicalProgram p) where
  abbrev UpDecided : ℕ → Key → Type 0
  UpDecided number key = ((taken : Taken) × TakesUp p number key taken) ⊎ ((refusal : Refusal) × RefusesUp p number key refusal)

  within_limits : (number : ℕ) (key : Key) → NeverVaries key.head → Bodied p number key → UpDecided number key
  within_limits number key never b =
      by (result_refusal key.head b.results) refl (mono_refusal (result_of p key ∷ params_of p key)) refl
    where
      by : (x : Option Refusal)
          → result_refusal key.head b.results ≡ x
          → (y : Option Refusal)
          → mono_refusal (result_of p key ∷ params_of p key) ≡ y
          → UpDecided number key
      by (Some x) q y r = inr (x, up_result never b.has q)
      by None q (Some y) r = inr (y, up_mono never b.has q r)
      by None q None r = inl (
        record { key = key; params = params_of p key; result = result_of p key; body = b.body },
        record {
          never_varies = never;
          results = b.results;
          has_body = b.has;
          results_within = q;
          monos_within = r;
          same_key = refl;
          params = refl;
          result = refl;
        },
      )

  not_varying : (number : ℕ) (key : Key) (all : List Key)
      → IsCanonicalKey (heads_with p all) p key
      → NeverVaries key.head ⊎ ((refusal : Refusal) × RefusesUp p number key refusal)
  not_varying number key all (canonical_val m q found fixed) = inl (subst NeverVaries (sym q) tt)
  not_varying number key all (canonical_fix m {at = at} {fix = fix} q c fixed) = elim (varies_or_not at fix c) [
    | inl a ↦ inl (subst NeverVaries (sym q) a)
    | inr v ↦ inr (is_varying at (v.0), up_varies q (v.1))
  ]

  up_decided : (keys : List Key) (number : ℕ) (key : Key)
      → slice_get keys number ≡ Some key
      → IsCanonicalKey (heads_with p (take number keys)) p key
      → UpDecided number key
  up_decided keys number key here c = elim (not_varying number key (take number keys) c) [
    | inr r ↦ inr r
    | inl never ↦ within_limits number key never
        (bodied (take (suc number) keys) number key program
        (λ s at fix q r. subst (λ (t : Skeleton). HasSkeleton (map (λ (k : Key). skeleton (head_ty p k.head)) (take (suc number) keys)) number t)
        (ap (λ h. skeleton (head_ty p h)) q ∙ r)
        (skeleton_there (λ (k : Key). skeleton (head_ty p k.head)) (take (suc number) keys) number key (taken_there keys number key here)))
        (key_more (further_more p number (suc number) keys (omega arith)) c))
  ]

  -- the list from this number on
  abbrev AllDecided : List Key → ℕ → Type 0
  AllDecided keys number =
      ((taken : List Taken) × (final : List Key) × TakesAll p keys number taken final) ⊎ ((refusal : Refusal) × RefusesAll p keys number refusal)

  -- this many turns are left
  abbrev DecidedIn : ℕ → Type 0
  DecidedIn turns =
      (keys : List Key) (number : ℕ)
      → turns + number ≡ suc instance_limit
      → number ≤ length keys
      → length keys ≤ instance_limit
      → Known p program keys
      → AllDecided keys number

  one_turn : (turns : ℕ) → DecidedIn turns → DecidedIn (suc turns)
  one_turn turns rest keys number q l within known = by (slice_get keys number) refl
    where
      next : (key : Key) (taken : Taken) → slice_get keys number ≡ Some key → TakesUp p number key taken → AllDecided keys number
      next key taken here u = elim (meets_decided keys (keys_met p taken.params taken.body) within) [
        | inr m ↦ inr (too_many_instances, refuses_calls here u m)
        | inl j ↦
            let body : Body p program keys number taken = taken_body p program keys number key here (known number key here) u in
            let there = comp_more (taken_more p (suc number) keys) (body.1) in
            let sites = sites_canonical (body.0) taken.params there refl in
            let more : Known p program j.after =
            met_known p program j.meets known (keys_canonical p keys (sites_of taken.params taken.body) sites) in
            let below = slice_get_within j.after number key (met_stays j.meets number key here) in
            elim (rest j.after (suc number) (omega (arith, q)) (omega (arith, below)) j.within more) [
              | inl r ↦ inl (taken ∷ r.0, r.1, takes_next here u j.meets (r.2))
              | inr r ↦ inr (r.0, refuses_later here u j.meets (r.1))
            ]
      ]

      by : (o : Option Key) → slice_get keys number ≡ o → AllDecided keys number
      by None e = inl ([], keys, takes_end e)
      by (Some key) e = elim (up_decided keys number key e (known number key e)) [
        | inl u ↦ next key (u.0) e (u.1)
        | inr r ↦ inr (r.0, refuses_up e (r.1))
      ]

  all_decided : (turns : ℕ) → DecidedIn turns
  all_decided zero keys number q l within known = absurd (omega (arith, q, l, within))
  all_decided (suc turns) keys number q l within known = one_turn turns (all_decided turns) keys number q l within known

  abbrev ProgramDecided : Type 0
  ProgramDecided =
      ((taken : List Taken) × (keys : List Key) × HasInstances p taken keys) ⊎ ((refusal : Refusal) × RefusesInstances p refusal)

  main_decided : (number : ℕ) → IsMain p number → ProgramDecided
  main_decided number m =
      elim (all_decided (suc instance_limit) (main_key number ∷ []) zero (omega arith) (omega arith) (omega arith) (main_known p program m)) [
        | inl r ↦ inl (r.0, r.1, record { number = number; main = m; all = r.2 })
        | inr r ↦ inr (r.0, refuses_list m (r.1))
      ]

  val_decided : (number : ℕ) (val : ProgramVal) → p.main ≡ Some number → slice_get p.vals number ≡ Some val → ProgramDecided
  val_decided number val named there = by val.ty refl
    where
      other : ((spec : TripleTree) → val.ty ≡ y_hoare spec → ⊥) → ProgramDecided
      other d = inr (has_parameters, refuses_parameters named there d)

      by : (ty : TyTree) → val.ty ≡ ty → ProgramDecided
      by (y_hoare spec) q = main_decided number (record { named = named; val = val; there = there; spec = spec; is_hoare = q })
      by (y_mono mono) q = other (λ spec r. let e = sym q ∙ r in cc)
      by (y_fun argument answer) q = other (λ spec r. let e = sym q ∙ r in cc)
      by (y_all body) q = other (λ spec r. let e = sym q ∙ r in cc)
      by (y_at at ty) q = other (λ spec r. let e = sym q ∙ r in cc)

  pub program_decided : IsOfVal p.vals p.main → ProgramDecided
  program_decided = by p.main refl
    where
      by : (main : Option ℕ) → p.main ≡ main → IsOfVal p.vals main → ProgramDecided
      by None q i = inr (no_main, refuses_no_main q)
      by (Some number) q i = found (slice_get p.vals number) refl
        where
          found : (o : Option ProgramVal) → slice_get p.vals number ≡ o → ProgramDecided
          found (Some val) there = val_decided number val q there
          found None there = absurd (past_end p.vals number there i)
