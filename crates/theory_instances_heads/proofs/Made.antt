-- The made functions of a canonical program's keys are steady, and each is what its key says for all heads.
use Rattle.std.proofs.Common.{◌≡◌, ℕ, zero, suc, ◌+◌, List, [], ◌∷◌, ◌++◌, length, map, reverse, take, Some, slice_get, refl, sym, ap, ◌∙◌, subst, arith}
use Rattle.std.proofs.lemmas.List.{append-nil, append_assoc, take_at}
use Rattle.std.proofs.lemmas.Option.{same_Some}
use Rattle.theory_values.specs.Values.{Value}
use Rattle.theory_canonical.specs.Skeletons.{Skeleton, sk_o, skeleton}
use Rattle.theory_canonical.specs.Contexts.{as_term, Heads}
use Rattle.theory_canonical.specs.Canonical.{IsNeutral, e_val, e_fix}
use Rattle.theory_denotation.specs.Valuations.{ValuationEntry, entry_at, HeadEntries}
use Rattle.theory_denotation.specs.Valued.{IsOf, HeadsValued}
use Rattle.theory_denotation.proofs.HeadsDenote.{head_is_of}
use Rattle.theory_denotation_heads.specs.Agreeing.{HeadsAgree}
use Rattle.theory_denotation_heads.proofs.Agreed as heads_agreed
use Rattle.theory_denotation_unfolding.specs.Agreement.{EntriesAgree, SteadyValuation, SteadyHeads}
use Rattle.theory_denotation_unfolding.proofs.Agreed.{head_agrees}
use Rattle.theory_instances.specs.Calls.{ProgramVal, Program, head_ty, ty_of_val}
use Rattle.theory_instances.specs.Keys.{Key}
use Rattle.theory_instances_denoted.proofs.Put.{fix_ty_skeleton}
use Rattle.theory_instances_keys.specs.Laws.{with_values}
use Rattle.theory_instances_canonical.specs.Keys.{values_context, heads_with, CanonicalFixed, IsCanonicalKey, canonical_val}
use Rattle.theory_instances_canonical.specs.Keys.{canonical_fix}
use Rattle.theory_instances_canonical.proofs.Contexts.{stands_is, skeleton_there}
use Rattle.theory_instances_canonical.proofs.Values.{entry_of_values, term_skeleton, values_valued}
use Rattle.theory_instances_canonical.proofs.Taken as taken
use Rattle.theory_instances_heads.specs.Heads.{MadeFunction, function_or_none, made_entry, heads_from, counted_entries, made_functions}
use Rattle.theory_instances_heads.specs.Heads.{heads_of_instances}
use Rattle.theory_instances_heads.specs.Laws.{InstancesHaveHeads}
use Rattle.theory_instances_heads.proofs.Each.{Each, each_none, one_more, found, in_front, at_end, longer, SteadyEntry, SteadyMade, from_valued, from_steady}
use Rattle.theory_instances_heads.proofs.Pinned.{entry_agrees, entry_same}
use Rattle.theory_instances_heads.proofs.Vals.{all_steady, vals_counted}

-- values are steady
value_steady : (bound : ℕ) {x : ValuationEntry} → IsOf sk_o x → EntriesAgree bound sk_o x x
value_steady bound o = record { left = o.of; right = o.of; is_left = o.is; is_right = o.is; agree = refl }

pub values_steady : (m : ℕ) (vs : List Value) → SteadyValuation (values_context m) (with_values vs)
values_steady m vs bound = record {
  terms = λ n s d. subst (λ (t : Skeleton). EntriesAgree bound t (entry_at (with_values vs) n) (entry_at (with_values vs) n))
      (term_skeleton (sym ((stands_is m n (as_term s) d).0))) (value_steady bound (entry_of_values vs n));
  monos = λ n d. refl;
}

abbrev skeleton_of_val : ProgramVal → Skeleton
skeleton_of_val v = skeleton v.ty

abbrev pub skeleton_of_key : Program → Key → Skeleton
skeleton_of_key p key = skeleton (head_ty p key.head)

-- What a canonical key has, at the skeleton of its head.
pub record KeyParts (heads : Heads) (p : Program) (key : Key) : Type 0 where
  pub m : ℕ
  pub head : IsNeutral heads (values_context m) key.head (skeleton_of_key p key)
  pub fixed : CanonicalFixed heads (values_context m) (skeleton_of_key p key) key.fixed

pub key_parts : {p : Program} {key : Key} (keys : List Key) → IsCanonicalKey (heads_with p keys) p key → KeyParts (heads_with p keys) p key
key_parts {p = p} {key = key} keys (canonical_val m {n = n} {v = v} q found_at f) =
    let same : skeleton_of_key p key ≡ skeleton v.ty = ap (λ h. skeleton (head_ty p h)) q ∙ ap (λ o. skeleton (ty_of_val o)) found_at in record {
      m = m;
      head =
          subst (λ (s : Skeleton). IsNeutral (heads_with p keys) (values_context m) key.head s) (sym same)
          (subst (λ h. IsNeutral (heads_with p keys) (values_context m) h (skeleton v.ty)) (sym q)
          (e_val (skeleton_there skeleton_of_val p.vals n v found_at)));
      fixed = subst (λ (s : Skeleton). CanonicalFixed (heads_with p keys) (values_context m) s key.fixed) (sym same) f;
    }
key_parts {p = p} {key = key} keys (canonical_fix m {at = at} {fix = fix} {s = s} q c f) =
    let same : skeleton_of_key p key ≡ s = ap (λ h. skeleton (head_ty p h)) q ∙ fix_ty_skeleton c in record {
      m = m;
      head =
          subst (λ (t : Skeleton). IsNeutral (heads_with p keys) (values_context m) key.head t) (sym same)
          (subst (λ h. IsNeutral (heads_with p keys) (values_context m) h s) (sym q) (e_fix c));
      fixed = subst (λ (t : Skeleton). CanonicalFixed (heads_with p keys) (values_context m) t key.fixed) (sym same) f;
    }

-- Each key of the rest is canonical with those before it.
abbrev InOrder : Program → List Key → List Key → Type 0
InOrder p before [] = Unit {0}
InOrder p before (key ∷ keys) = IsCanonicalKey (heads_with p before) p key × InOrder p (before ++ (key ∷ [])) keys

module _ (p : Program) (xs : List ValuationEntry) (k : Each SteadyEntry (map skeleton_of_val p.vals) xs) where
  abbrev KnownMade : List Key → List MadeFunction → Type 0
  KnownMade keys fs = Each SteadyMade (map (skeleton_of_key p) keys) fs

  made_steady : (before : List Key) {fs : List MadeFunction} (key : Key)
      → KnownMade before fs
      → IsCanonicalKey (heads_with p before) p key
      → SteadyMade (skeleton_of_key p key) (made_entry (heads_from xs fs) key)
  made_steady before {fs = fs} key known c values bound =
      let parts = key_parts before c in
      let heads : SteadyHeads (heads_with p before) (heads_from xs fs) = from_steady k known in
      let w = values_steady parts.m (reverse values) in
      entry_agrees bound parts.fixed (heads bound) (w bound) (head_agrees bound parts.head (heads bound) (w bound))

  kept : (known : List MadeFunction) (keys : List Key) (n : ℕ) (f : MadeFunction)
      → slice_get known n ≡ Some f
      → slice_get (made_functions xs known keys) n ≡ Some f
  kept known [] n f q = q
  kept known (key ∷ keys) n f q =
      kept (known ++ (made_entry (heads_from xs known) key ∷ [])) keys n f (in_front known (made_entry (heads_from xs known) key ∷ []) n f q)

  skeletons_after : (before : List Key) (key : Key) → map (skeleton_of_key p) (before ++ (key ∷ [])) ≡ map (skeleton_of_key p) before ++ (skeleton_of_key p key ∷ [])
  skeletons_after [] key = refl
  skeletons_after (x ∷ before) key = λ j. skeleton_of_key p x ∷ skeletons_after before key j

  one_made : (before : List Key) {fs : List MadeFunction} (key : Key)
      → KnownMade before fs
      → IsCanonicalKey (heads_with p before) p key
      → KnownMade (before ++ (key ∷ [])) (fs ++ (made_entry (heads_from xs fs) key ∷ []))
  one_made before {fs = fs} key known c =
      subst (λ (l : List Skeleton). Each SteadyMade l (fs ++ (made_entry (heads_from xs fs) key ∷ []))) (sym (skeletons_after before key))
      (one_more (skeleton_of_key p key) (made_entry (heads_from xs fs) key) known (made_steady before key known c))

  all_made : (before keys : List Key) (fs : List MadeFunction)
      → KnownMade before fs
      → InOrder p before keys
      → KnownMade (before ++ keys) (made_functions xs fs keys)
  all_made before [] fs known a = subst (λ (l : List Key). KnownMade l fs) (sym (append-nil before)) known
  all_made before (key ∷ keys) fs known a =
      subst (λ (l : List Key). KnownMade l (made_functions xs fs (key ∷ keys))) (append_assoc before (key ∷ []) keys)
      (all_made (before ++ (key ∷ [])) keys (fs ++ (made_entry (heads_from xs fs) key ∷ [])) (one_made before key known (a.0)) (a.1))

  module _ (all : List MadeFunction) where
    abbrev e : HeadEntries
    e = heads_from xs all

    before_agrees : (before : List Key) {fs : List MadeFunction}
        → KnownMade before fs
        → ((n : ℕ) (f : MadeFunction) → slice_get fs n ≡ Some f → slice_get all n ≡ Some f)
        → HeadsAgree (heads_with p before) (heads_from xs fs) e
    before_agrees before known stays = record {
      vals = λ n s d. refl;
      made = λ n s values d. let r = found known d in
          ap (λ o. function_or_none o values) (stays n r.it r.there) ∙ ap (λ o. function_or_none o values) (sym r.there);
    }

    -- the made function of a key, for all heads
    made_same : (before : List Key) {fs : List MadeFunction} (key : Key)
        → KnownMade before fs
        → IsCanonicalKey (heads_with p before) p key
        → ((n : ℕ) (f : MadeFunction) → slice_get fs n ≡ Some f → slice_get all n ≡ Some f)
        → (values : List Value)
        → made_entry e key values ≡ made_entry (heads_from xs fs) key values
    made_same before {fs = fs} key known c stays values =
        let parts = key_parts before c in
        let h : HeadsValued (heads_with p before) (heads_from xs fs) = from_valued k known in
        let a = before_agrees before known stays in
        let z = values_valued parts.m (reverse values) in
        let o = head_is_of h z parts.head in
        entry_same h a o.of parts.fixed z (heads_agreed.head_agrees (heads_with p before) (heads_from xs fs) e h a parts.head z) o.is

    each_is : (before keys : List Key) (fs : List MadeFunction)
        → KnownMade before fs
        → InOrder p before keys
        → made_functions xs fs keys ≡ all
        → (j : ℕ) (key : Key)
        → slice_get keys j ≡ Some key
        → (values : List Value)
        → e.made (length fs + j) values ≡ made_entry e key values
    each_is before [] fs known a q j key there values = absurd (cc)
    each_is before (x ∷ keys) fs known a q zero key there values =
        let f = made_entry (heads_from xs fs) x in
        let stays : (n : ℕ) (g : MadeFunction) → slice_get (fs ++ (f ∷ [])) n ≡ Some g → slice_get all n ≡ Some g = λ n g r.
        subst (λ (l : List MadeFunction). slice_get l n ≡ Some g) q (kept (fs ++ (f ∷ [])) keys n g r) in
        let i : length fs ≡ length fs + 0 = omega arith in
        subst (λ n. e.made n values ≡ made_entry e key values) i
        (subst (λ (y : Key). e.made (length fs) values ≡ made_entry e y values) (same_Some x key there)
        (ap (λ o. function_or_none o values) (stays (length fs) f (at_end fs f))
        ∙ sym (made_same before x known (a.0) (λ n g r. stays n g (in_front fs (f ∷ []) n g r)) values)))
    each_is before (x ∷ keys) fs known a q (suc j) key there values =
        let f = made_entry (heads_from xs fs) x in
        let l = longer fs f in
        let i : length (fs ++ (f ∷ [])) + j ≡ length fs + suc j = omega (arith, l) in
        subst (λ n. e.made n values ≡ made_entry e key values) i
        (each_is (before ++ (x ∷ [])) keys (fs ++ (f ∷ [])) (one_made before x known (a.0)) (a.1) q j key there values)

at_middle : (before : List Key) (key : Key) (keys : List Key) → slice_get (before ++ (key ∷ keys)) (length before) ≡ Some key
at_middle [] key keys = refl
at_middle (x ∷ before) key keys = at_middle before key keys

in_order : (p : Program) (before keys : List Key)
    → ((n : ℕ) (key : Key) → slice_get (before ++ keys) n ≡ Some key → IsCanonicalKey (heads_with p (take n (before ++ keys))) p key)
    → InOrder p before keys
in_order p before [] a = tt
in_order p before (key ∷ keys) a =
    let next : (before ++ (key ∷ [])) ++ keys ≡ before ++ (key ∷ keys) = append_assoc before (key ∷ []) keys in (
      subst (λ (l : List Key). IsCanonicalKey (heads_with p l) p key) (take_at before (key ∷ keys) (length before) refl)
          (a (length before) key (at_middle before key keys)),
      in_order p (before ++ (key ∷ [])) keys
          (λ n other q. subst (λ (l : List Key). IsCanonicalKey (heads_with p (take n l)) p other) (sym next)
          (a n other (subst (λ (l : List Key). slice_get l n ≡ Some other) next q))),
    )

pub have_heads : InstancesHaveHeads
have_heads p instances keys program h =
    let xs = counted_entries [] p.vals in
    let fs = made_functions xs [] keys in
    let k : Each SteadyEntry (map skeleton_of_val p.vals) xs = all_steady p.vals each_none program in
    let a : InOrder p [] keys = in_order p [] keys (taken.canonical.keys p instances keys program h) in
    let m : Each SteadyMade (map (skeleton_of_key p) keys) fs = all_made p xs k [] keys [] each_none a in record {
      valued = from_valued k m;
      steady = from_steady k m;
      vals = vals_counted xs fs p.vals program refl;
      made = λ number key q values.
          let i : 0 + number ≡ number = omega arith in
          subst (λ n. (heads_of_instances p keys).made n values ≡ made_entry (heads_of_instances p keys) key values) i
          (each_is p xs k fs [] keys [] each_none a refl number key q values);
    }
