-- A program has one list of instances, or one reason why it has none; and no key stands twice in a list.
use Rattle.std.proofs.Common.{◌≡◌, ◌≢◌, ℕ, zero, suc, List, [], ◌∷◌, ◌++◌, length, Some, None, slice_get, ◌⊎◌, inl, inr, refl, sym, ap, ◌∙◌, subst, arith, ◌<◌}
use Rattle.std.proofs.lemmas.Option.{same_Some}
use Rattle.htt_syntax.specs.Trees.{TripleTree, y_hoare}
use Rattle.theory_instances.specs.Calls.{ProgramVal, Program}
use Rattle.theory_instances.specs.Keys.{Key, IsSameKey, plain_key}
use Rattle.theory_instances.specs.Lists.{Refusal, IsKnownAs, IsNew, instance_limit, Meets, meets_none, meets_known, meets_new, MeetsTooMany, too_many_here}
use Rattle.theory_instances.specs.Lists.{too_many_past_known}
use Rattle.theory_instances.specs.Lists.{too_many_past_new, keys_met, Taken, TakesUp, RefusesUp, TakesAll, takes_end, takes_next, RefusesAll, refuses_up}
use Rattle.theory_instances.specs.Lists.{refuses_calls, refuses_later}
use Rattle.theory_instances.specs.Lists.{main_key, IsMain, HasInstances, RefusesInstances, refuses_no_main, refuses_parameters, refuses_list}
use Rattle.theory_extraction_once.proofs.Taken.{taken_once, up_once, up_or_not}

pub none_or_some : {A : Type 0} {x : A} → None ≡ Some x → ⊥
none_or_some q = cc

meets_once : {keys met after other : List Key} → Meets keys met after → Meets keys met other → after ≡ other
meets_once meets_none meets_none = refl
meets_once (meets_known n k a) (meets_known m l b) = meets_once a b
meets_once (meets_known n k a) (meets_new f l b) = absurd (f n k)
meets_once (meets_new f l a) (meets_known m k b) = absurd (f m k)
meets_once (meets_new f l a) (meets_new g k b) = meets_once a b

meets_or_not : {keys met after : List Key} → Meets keys met after → MeetsTooMany keys met → ⊥
meets_or_not (meets_none {keys = keys}) x = elim x [ ]
meets_or_not (meets_known n k a) (too_many_here f l) = f n k
meets_or_not (meets_known n k a) (too_many_past_known m l b) = meets_or_not a b
meets_or_not (meets_known n k a) (too_many_past_new f l b) = f n k
meets_or_not (meets_new f l a) (too_many_here g k) = omega (arith, l, k)
meets_or_not (meets_new f l a) (too_many_past_known m k b) = f m k
meets_or_not (meets_new f l a) (too_many_past_new g k b) = meets_or_not a b

met_by : (p : Program) {keys after : List Key} (taken other : Taken)
    → taken ≡ other
    → Meets keys (keys_met p other.params other.body) after
    → Meets keys (keys_met p taken.params taken.body) after
met_by p {keys = keys} {after = after} taken other q m = subst (λ (t : Taken). Meets keys (keys_met p t.params t.body) after) (sym q) m

module _ {p : Program} where
  -- what is taken up with another key is taken up with this one
  up_at : {number : ℕ} {key other : Key} {taken : Taken} → key ≡ other → TakesUp p number other taken → TakesUp p number key taken
  up_at {number = number} {taken = taken} q u = subst (λ k. TakesUp p number k taken) (sym q) u

  pub takes_once : {keys final other : List Key} {number : ℕ} {rows more : List Taken}
      → TakesAll p keys number rows final
      → TakesAll p keys number more other
      → (rows ≡ more) × (final ≡ other)
  takes_once (takes_end q) (takes_end r) = (refl, refl)
  takes_once (takes_end q) (takes_next r u m rest) = absurd (none_or_some (sym q ∙ r))
  takes_once (takes_next r u m rest) (takes_end q) = absurd (none_or_some (sym q ∙ r))
  takes_once {number = number} (takes_next {key = key} {taken = taken} r u m rest)
      (takes_next {final = final'} {key = key'} {taken = taken'} {others = others'} s v n again) =
      let same = taken_once u (up_at (same_Some key key' (sym r ∙ s)) v) in
      let after = meets_once m (met_by p taken taken' same n) in
      let one = takes_once rest (subst (λ l. TakesAll p l (suc number) others' final') (sym after) again) in
      ((λ j. same j ∷ (one.0) j), one.1)

  pub refused_once : {keys : List Key} {number : ℕ} {refusal other : Refusal}
      → RefusesAll p keys number refusal
      → RefusesAll p keys number other
      → refusal ≡ other
  refused_once {number = number} (refuses_up {key = key} q u) (refuses_up {key = key'} {refusal = y} r v) =
      up_once u (subst (λ k. RefusesUp p number k y) (sym (same_Some key key' (sym q ∙ r))) v)
  refused_once {number = number} (refuses_up {key = key} {refusal = x} q u) (refuses_calls {key = key'} r v m) =
      absurd (up_or_not v (subst (λ k. RefusesUp p number k x) (same_Some key key' (sym q ∙ r)) u))
  refused_once {number = number} (refuses_up {key = key} {refusal = x} q u) (refuses_later {key = key'} r v m rest) =
      absurd (up_or_not v (subst (λ k. RefusesUp p number k x) (same_Some key key' (sym q ∙ r)) u))
  refused_once {number = number} (refuses_calls {key = key} q u m) (refuses_up {key = key'} {refusal = y} r v) =
      absurd (up_or_not u (subst (λ k. RefusesUp p number k y) (sym (same_Some key key' (sym q ∙ r))) v))
  refused_once (refuses_calls q u m) (refuses_calls r v n) = refl
  refused_once (refuses_calls {key = key} {taken = taken} q u m) (refuses_later {key = key'} {taken = taken'} r v n rest) =
      absurd (meets_or_not (met_by p taken taken' (taken_once u (up_at (same_Some key key' (sym q ∙ r)) v)) n) m)
  refused_once {number = number} (refuses_later {key = key} q u m rest) (refuses_up {key = key'} {refusal = y} r v) =
      absurd (up_or_not u (subst (λ k. RefusesUp p number k y) (sym (same_Some key key' (sym q ∙ r))) v))
  refused_once (refuses_later {key = key} {taken = taken} q u m rest) (refuses_calls {key = key'} {taken = taken'} r v n) =
      absurd (meets_or_not (met_by p taken' taken (taken_once v (up_at (same_Some key' key (sym r ∙ q)) u)) m) n)
  refused_once {number = number} (refuses_later {key = key} {taken = taken} q u m rest)
      (refuses_later {key = key'} {taken = taken'} {refusal = y} r v n again) =
      let after = meets_once m (met_by p taken taken' (taken_once u (up_at (same_Some key key' (sym q ∙ r)) v)) n) in
      refused_once rest (subst (λ l. RefusesAll p l (suc number) y) (sym after) again)

  pub takes_or_not : {keys final : List Key} {number : ℕ} {rows : List Taken} {refusal : Refusal}
      → TakesAll p keys number rows final
      → RefusesAll p keys number refusal
      → ⊥
  takes_or_not (takes_end q) (refuses_up r v) = none_or_some (sym q ∙ r)
  takes_or_not (takes_end q) (refuses_calls r v n) = none_or_some (sym q ∙ r)
  takes_or_not (takes_end q) (refuses_later r v n rest) = none_or_some (sym q ∙ r)
  takes_or_not {number = number} (takes_next {key = key} q u m rest) (refuses_up {key = key'} {refusal = y} r v) =
      up_or_not u (subst (λ k. RefusesUp p number k y) (sym (same_Some key key' (sym q ∙ r))) v)
  takes_or_not {keys = keys} (takes_next {key = key} q u m rest) (refuses_calls {key = key'} r v n) =
      meets_or_not m (subst (λ (t : Taken). MeetsTooMany keys (keys_met p t.params t.body)) (sym (taken_once u (up_at (same_Some key key' (sym q ∙ r)) v))) n)
  takes_or_not {number = number} (takes_next {key = key} {taken = taken} q u m rest) (refuses_later {key = key'} {taken = taken'} {refusal = y} r v n again) =
      let after = meets_once m (met_by p taken taken' (taken_once u (up_at (same_Some key key' (sym q ∙ r)) v)) n) in
      takes_or_not rest (subst (λ l. RefusesAll p l (suc number) y) (sym after) again)

  main_once : {n m : ℕ} → IsMain p n → IsMain p m → n ≡ m
  main_once {n = n} {m = m} a b = same_Some n m (sym a.named ∙ b.named)

  pub lists_once : {rows more : List Taken} {keys others : List Key} → HasInstances p rows keys → HasInstances p more others → (rows ≡ more) × (keys ≡ others)
  lists_once {more = more} {others = others} a b =
      takes_once a.all (subst (λ n. TakesAll p (main_key n ∷ []) zero more others) (main_once b.main a.main) b.all)

  pub list_or_not : {rows : List Taken} {keys : List Key} {refusal : Refusal} → HasInstances p rows keys → RefusesInstances p refusal → ⊥
  list_or_not a (refuses_no_main q) = none_or_some (sym q ∙ a.main.named)
  list_or_not {refusal = refusal} a (refuses_parameters {number = number} {val = val} q there d) =
      let n = same_Some number a.number (sym q ∙ a.main.named) in
      let v = same_Some val a.main.val (sym there ∙ ap (λ k. slice_get p.vals k) n ∙ a.main.there) in
      d a.main.spec (ap (λ (x : ProgramVal). x.ty) v ∙ a.main.is_hoare)
  list_or_not {refusal = refusal} a (refuses_list m r) =
      takes_or_not a.all (subst (λ n. RefusesAll p (main_key n ∷ []) zero refusal) (main_once m a.main) r)

  -- the reason is one
  main_or_not : {n number : ℕ} {val : ProgramVal}
      → IsMain p n
      → p.main ≡ Some number
      → slice_get p.vals number ≡ Some val
      → ((spec : TripleTree) → val.ty ≢ y_hoare spec)
      → ⊥
  main_or_not {n = n} {number = number} {val = val} m q there d =
      let same = same_Some number n (sym q ∙ m.named) in
      let v = same_Some val m.val (sym there ∙ ap (λ k. slice_get p.vals k) same ∙ m.there) in
      d m.spec (ap (λ (x : ProgramVal). x.ty) v ∙ m.is_hoare)

  pub refusal_once : {refusal other : Refusal} → RefusesInstances p refusal → RefusesInstances p other → refusal ≡ other
  refusal_once (refuses_no_main q) (refuses_no_main r) = refl
  refusal_once (refuses_no_main q) (refuses_parameters r there d) = absurd (none_or_some (sym q ∙ r))
  refusal_once (refuses_no_main q) (refuses_list m r) = absurd (none_or_some (sym q ∙ m.named))
  refusal_once (refuses_parameters q there d) (refuses_no_main r) = absurd (none_or_some (sym r ∙ q))
  refusal_once (refuses_parameters q there d) (refuses_parameters r here e) = refl
  refusal_once (refuses_parameters q there d) (refuses_list m r) = absurd (main_or_not m q there d)
  refusal_once (refuses_list m r) (refuses_no_main q) = absurd (none_or_some (sym q ∙ m.named))
  refusal_once (refuses_list m r) (refuses_parameters q there d) = absurd (main_or_not m q there d)
  refusal_once (refuses_list m r) (refuses_list {refusal = y} n s) =
      refused_once r (subst (λ k. RefusesAll p (main_key k ∷ []) zero y) (main_once n m) s)

-- no key stands twice
abbrev pub Distinct : List Key → Type 0
Distinct keys = (n m : ℕ) (k l : Key) → slice_get keys n ≡ Some k → slice_get keys m ≡ Some l → IsSameKey k l → n ≡ m

at_end : (keys : List Key) (key k : Key) (n : ℕ) → slice_get (keys ++ key ∷ []) n ≡ Some k → (slice_get keys n ≡ Some k) ⊎ ((n ≡ length keys) × (key ≡ k))
at_end [] key k zero q = inr (refl, same_Some key k q)
at_end [] key k (suc n) q = absurd (none_or_some q)
at_end (x ∷ keys) key k zero q = inl q
at_end (x ∷ keys) key k (suc n) q = elim (at_end keys key k n q) [ inl r ↦ inl r | inr r ↦ inr (ap suc (r.0), r.1) ]

pushed : {keys : List Key} {key : Key} → IsNew keys key → Distinct keys → Distinct (keys ++ key ∷ [])
pushed {keys = keys} {key = key} f d n m k l q r s =
    elim (at_end keys key k n q) [
      | inl a ↦ elim (at_end keys key l m r) [
        | inl b ↦ d n m k l a b s
        | inr b ↦ absurd (f n (record { known = k; at = a; same = s ∙ sym (ap plain_key (b.1)) }))
      ]
      | inr a ↦ elim (at_end keys key l m r) [
        | inl b ↦ absurd (f m (record { known = l; at = b; same = sym s ∙ sym (ap plain_key (a.1)) }))
        | inr b ↦ a.0 ∙ sym (b.0)
      ]
    ]

met_distinct : {keys met after : List Key} → Meets keys met after → Distinct keys → Distinct after
met_distinct meets_none d = d
met_distinct (meets_known n k a) d = met_distinct a d
met_distinct (meets_new f l a) d = met_distinct a (pushed f d)

taken_distinct : {p : Program} {keys final : List Key} {number : ℕ} {rows : List Taken} → TakesAll p keys number rows final → Distinct keys → Distinct final
taken_distinct (takes_end q) d = d
taken_distinct (takes_next q u m rest) d = taken_distinct rest (met_distinct m d)

one_distinct : (key : Key) → Distinct (key ∷ [])
one_distinct key zero zero k l q r s = refl
one_distinct key zero (suc m) k l q r s = absurd (none_or_some r)
one_distinct key (suc n) m k l q r s = absurd (none_or_some q)

pub keys_distinct : {p : Program} {rows : List Taken} {keys : List Key} → HasInstances p rows keys → Distinct keys
keys_distinct a = taken_distinct a.all (one_distinct (main_key a.number))
