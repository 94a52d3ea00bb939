-- Programs with as many instances as may be, or with one more.
use Rattle.std.proofs.Common.{◌≡◌, ◌≢◌, ◌<◌, ◌≤◌, ◌+◌, ℕ, zero, suc, List, [], ◌∷◌, ◌++◌, length, reverse, Option, Some, None, slice_get, refl, sym, ap, ◌∙◌, subst, arith, inl, inr}
use Rattle.std.proofs.lemmas.Bool.{cases_lt}
use Rattle.std.proofs.lemmas.List.{append-nil, append_assoc, length-append}
use Rattle.std.proofs.lemmas.List.Elements.{All-nil}
use Rattle.std.proofs.lemmas.Option.{same_Some}
use Rattle.htt_syntax.specs.Trees.{MonoTree, TermTree, CompTree, m_word, m_unit, m_var, triple, t_val, t_do, t_unit, t_var, c_ret, c_step, s_run, f_tt}
use Rattle.theory_renaming.specs.Renaming.{lift, lifts, rename_mono, rename_term}
use Rattle.theory_canonical.specs.Skeletons.{Skeleton, skeleton, sk_o, sk_c, sk_arrow, sk_all}
use Rattle.theory_canonical.specs.Eta.{expansion}
use Rattle.theory_counts.specs.Nodes.{nodes_mono}
use Rattle.theory_substitution.specs.Monotypes.{fill_mono}
use Rattle.theory_typing.specs.Positions.{plain_term}
use Rattle.theory_instances.specs.Calls.{ProgramVal, Program, Argument, head_of, arguments_of, fixed_of, ty_of_val, fix_ty, fix_comp, sites_of}
use Rattle.theory_instances.specs.Occurrences.{met_in_term}
use Rattle.theory_instances.specs.Keys.{Key, key_of, keys_of_site, IsSameKey, plain_key}
use Rattle.theory_instances.specs.Bodies.{passed_monos, result_mono, puts_none, body_of_val}
use Rattle.theory_instances.specs.Varying.{PassesOnAt, varies_here, varies_past_value}
use Rattle.theory_instances.specs.Lists.{IsNew, instance_limit, keys_met, mono_refusal, Meets, meets_none, meets_new, MeetsTooMany, too_many_here, too_many_past_new}
use Rattle.theory_instances.specs.Lists.{TakesUp, TakesAll, takes_end, takes_next, HasInstances, IsMain, main_key, RefusesUp, up_varies}
use Rattle.theory_instances.specs.Lists.{RefusesInstances, is_varying, too_many_instances, refuses_list, refuses_up, refuses_calls, refuses_later}
use Rattle.theory_instances.specs.Examples.{always}
use Rattle.theory_instances.specs.Orders.{a_word, value_taken, second_changes}
use Rattle.theory_instances.proofs.Worked.{new_to_one, new_to_two}
use Rattle.theory_extraction_refusals.specs.Crowds.{WorkedCrowds, a_unit, units, runs_from, crowd, keys_from, unit_taken, units_taken, varying_call, varying_key}
use Rattle.theory_extraction_refusals.specs.Crowds.{crowd_and, crowd_first, varying_first}

-- ---- keys of values

abbrev value_number : TermTree → ℕ
value_number (t_val n) = suc n
value_number term = zero

other_value : (key : Key) (j : ℕ) → value_number (plain_term key.head) ≢ suc j → IsSameKey key (main_key j) → ⊥
unfolding plain_term
other_value key j d e = d (ap (λ (k : Key). value_number k.head) e)

pub value_differs : (i j : ℕ) → i ≢ j → IsSameKey (main_key i) (main_key j) → ⊥
unfolding plain_term
value_differs i j d = other_value (main_key i) j (λ q. d (omega (arith, q)))

varying_is_no_value : (j : ℕ) → IsSameKey varying_key (main_key j) → ⊥
unfolding plain_term
varying_is_no_value j = other_value varying_key j (λ q. omega (arith, q))

grown : {key : Key} (other : Key) (keys : List Key) → IsNew keys key → (IsSameKey other key → ⊥) → IsNew (keys ++ other ∷ []) key
grown other [] f d zero k = d (ap plain_key (same_Some _ _ k.at) ∙ k.same)
grown other [] f d (suc n) k = absurd (cc)
grown other (x ∷ keys) f d zero k = f zero (record { known = k.known; at = k.at; same = k.same })
grown other (x ∷ keys) f d (suc n) k =
    grown other keys (λ m l. f (suc m) (record { known = l.known; at = l.at; same = l.same })) d n
    (record { known = k.known; at = k.at; same = k.same })

-- the keys of the values from one on, up to another
abbrev pub Unmet : List Key → ℕ → ℕ → Type 0
Unmet keys first last = (j : ℕ) → first ≤ j → j < last → IsNew keys (main_key j)

unmet_further : {keys : List Key} {first last : ℕ} → Unmet keys first last → Unmet (keys ++ main_key first ∷ []) (suc first) last
unmet_further {keys = keys} {first = first} u j l m = grown (main_key first) keys (u j (omega arith) m) (value_differs first j (λ q. omega (arith, q, l)))

meets_values : (count first last : ℕ) (keys : List Key)
    → length keys + count ≤ instance_limit
    → first + count ≡ last
    → Unmet keys first last
    → Meets keys (keys_from first count) (keys ++ keys_from first count)
meets_values zero first last keys l q u = subst (Meets keys []) (sym (append-nil keys)) meets_none
meets_values (suc count) first last keys l q u =
    meets_new (u first (omega arith) (omega arith)) (omega arith)
    (subst (Meets (keys ++ main_key first ∷ []) (keys_from (suc first) count))
    (append_assoc keys (main_key first ∷ []) (keys_from (suc first) count))
    (meets_values count (suc first) last (keys ++ main_key first ∷ []) (omega (arith, length-append keys (main_key first ∷ []), l)) (omega arith)
    (unmet_further u)))

pub meets_more : (count first last : ℕ) (keys : List Key)
    → length keys ≤ instance_limit
    → instance_limit < length keys + count
    → first + count ≡ last
    → Unmet keys first last
    → MeetsTooMany keys (keys_from first count)
meets_more zero first last keys l m q u = absurd (omega arith)
meets_more (suc count) first last keys l m q u =
    elim (cases_lt (length keys) instance_limit) [
      | inl k ↦ too_many_past_new (u first (omega arith) (omega arith)) k
          (meets_more count (suc first) last (keys ++ main_key first ∷ []) (omega (arith, length-append keys (main_key first ∷ []), k))
          (omega (arith, length-append keys (main_key first ∷ []), m)) (omega arith) (unmet_further u))
      | inr k ↦ too_many_here (u first (omega arith) (omega arith)) (omega arith)
    ]

-- ---- what the bodies call

none_fixed : (s : Skeleton) → fixed_of s [] ≡ []
none_fixed sk_o = refl
none_fixed sk_c = refl
none_fixed (sk_arrow sk_o t) = refl
none_fixed (sk_arrow sk_c t) = refl
none_fixed (sk_arrow (sk_arrow a b) t) = refl
none_fixed (sk_arrow (sk_all a) t) = refl
none_fixed (sk_all s) = refl

value_site : (p : Program) (g : List MonoTree) (n : ℕ) → keys_of_site p (record { call = t_val n; context = g }) ≡ main_key n ∷ []
unfolding head_of arguments_of met_in_term rename_term
value_site p g n = ap (λ (fixed : List Argument). key_of g (t_val n) fixed ∷ []) (none_fixed (skeleton (ty_of_val (slice_get p.vals n))))

pub values_met : (p : Program) (g : List MonoTree) (first count : ℕ) → keys_met p g (runs_from first count) ≡ keys_from first count
unfolding sites_of
values_met p g first zero = refl
values_met p g first (suc count) = λ j. value_site p g first j ++ values_met p (m_unit ∷ g) (suc first) count j

-- ---- values without parameters

value_up : (p : Program) (mono : MonoTree) (number n : ℕ) (comp : CompTree)
    → fill_mono m_var mono ≡ mono
    → mono_refusal (mono ∷ []) ≡ None
    → slice_get p.vals n ≡ Some (record { ty = always mono; term = t_do comp })
    → TakesUp p number (main_key n) (record { key = main_key n; params = []; result = mono; body = comp })
unfolding skeleton
value_up p mono number n comp f w there = record {
  never_varies = tt;
  results = [];
  has_body = body_of_val refl there puts_none;
  results_within = refl;
  monos_within = w;
  same_key = refl;
  params = sym (ap (λ (v : Option ProgramVal). reverse (passed_monos m_var (ty_of_val v) []) ++ []) there);
  result = sym (ap (λ (v : Option ProgramVal). result_mono m_var (ty_of_val v) []) there ∙ f);
}

pub unit_up : (p : Program) (number n : ℕ) (comp : CompTree) → slice_get p.vals n ≡ Some (a_unit comp) → TakesUp p number (main_key n) (unit_taken n comp)
unfolding fill_mono nodes_mono
unit_up p number n comp there = value_up p m_unit number n comp refl refl there

word_up : (p : Program) (number n : ℕ) (comp : CompTree) → slice_get p.vals n ≡ Some (a_word comp) → TakesUp p number (main_key n) (value_taken n comp)
unfolding fill_mono nodes_mono
word_up p number n comp there = value_up p m_word number n comp refl refl there

at_units : (n i : ℕ) (others : List ProgramVal) → i < n → slice_get (units n others) i ≡ Some (a_unit (c_ret t_unit))
at_units zero i others l = absurd (omega arith)
at_units (suc n) zero others l = refl
at_units (suc n) (suc i) others l = at_units n i others (omega arith)

pub past_units : (n : ℕ) (v : ProgramVal) (others : List ProgramVal) → slice_get (units n (v ∷ others)) n ≡ Some v
past_units zero v others = refl
past_units (suc n) v others = past_units n v others

pub next_past_units : (n : ℕ) (u v : ProgramVal) → slice_get (units n (u ∷ v ∷ [])) (suc n) ≡ Some v
next_past_units zero u v = refl
next_past_units (suc n) u v = next_past_units n u v

at_keys : (count first i j : ℕ) → i < count → first + i ≡ j → slice_get (keys_from first count) i ≡ Some (main_key j)
at_keys zero first i j l q = absurd (omega arith)
at_keys (suc count) first zero j l q = let r : first ≡ j = omega arith in ap (λ n. Some (main_key n)) r
at_keys (suc count) first (suc i) j l q = at_keys count (suc first) i j (omega arith) (omega arith)

past_keys : (count first : ℕ) → slice_get (keys_from first count) count ≡ None
past_keys zero first = refl
past_keys (suc count) first = past_keys count (suc first)

-- ---- the crowd

module _ (n : ℕ) where
  crowd_there : slice_get (crowd n).vals n ≡ Some (a_unit (runs_from 0 n))
  crowd_there = past_units n (a_unit (runs_from 0 n)) []

  crowd_is : IsMain (crowd n) n
  crowd_is = record { named = refl; val = a_unit (runs_from 0 n); there = crowd_there; spec = triple f_tt m_unit f_tt; is_hoare = refl }

  crowd_unmet : Unmet (main_key n ∷ []) 0 n
  crowd_unmet j l m = new_to_one (value_differs n j (λ q. omega (arith, q, m)))

  units_up : (count i : ℕ) → i + count ≡ n → TakesAll (crowd n) (main_key n ∷ keys_from 0 n) (suc i) (units_taken i count) (main_key n ∷ keys_from 0 n)
  unfolding sites_of
  units_up zero i q = let r : n ≡ i = omega arith in takes_end (subst (λ k. slice_get (keys_from 0 n) k ≡ None) r (past_keys n 0))
  units_up (suc count) i q =
      takes_next (at_keys n 0 i i (omega arith) (omega arith)) (unit_up (crowd n) (suc i) i (c_ret t_unit) (at_units n i (a_unit (runs_from 0 n) ∷ []) (omega arith))) meets_none
      (units_up count (suc i) (omega arith))

  as_many_as_may_be : n < 4096 → HasInstances (crowd n) (unit_taken n (runs_from 0 n) ∷ units_taken 0 n) (main_key n ∷ keys_from 0 n)
  as_many_as_may_be l = record {
    number = n;
    main = crowd_is;
    all = takes_next refl (unit_up (crowd n) 0 n (runs_from 0 n) crowd_there)
        (subst (λ met. Meets (main_key n ∷ []) met (main_key n ∷ keys_from 0 n)) (sym (values_met (crowd n) [] 0 n))
        (meets_values n 0 n (main_key n ∷ []) (omega arith) (omega arith) crowd_unmet)) (units_up n 0 (omega arith));
  }

  one_too_many : 4096 ≤ n → RefusesInstances (crowd n) too_many_instances
  one_too_many l =
      refuses_list crowd_is (refuses_calls refl (unit_up (crowd n) 0 n (runs_from 0 n) crowd_there)
      (subst (MeetsTooMany (main_key n ∷ [])) (sym (values_met (crowd n) [] 0 n))
      (meets_more n 0 n (main_key n ∷ []) (omega arith) (omega arith) (omega arith) crowd_unmet)))

-- ---- a crowd and a function that varies

it_varies : {p : Program} {number : ℕ} → RefusesUp p number varying_key (is_varying 40 2)
unfolding skeleton fix_ty fix_comp met_in_term rename_term rename_mono lift lifts expansion
it_varies = up_varies refl (record {
  before = [];
  here = _;
  after = [];
  all = refl;
  passed_on = All-nil (PassesOnAt second_changes);
  varies = varies_past_value (varies_here (λ e. cc) (λ e. cc));
})

module _ (n : ℕ) (main : CompTree) where
  main_is : IsMain (crowd_and n main) (suc n)
  main_is = record {
    named = refl;
    val = a_word main;
    there = next_past_units n (a_unit (runs_from 0 n)) (a_word main);
    spec = triple f_tt m_word f_tt;
    is_hoare = refl;
  }

  main_up : TakesUp (crowd_and n main) 0 (main_key (suc n)) (value_taken (suc n) main)
  main_up = word_up (crowd_and n main) 0 (suc n) main (next_past_units n (a_unit (runs_from 0 n)) (a_word main))

  crowd_up : TakesUp (crowd_and n main) 1 (main_key n) (unit_taken n (runs_from 0 n))
  crowd_up = unit_up (crowd_and n main) 1 n (runs_from 0 n) (past_units n (a_unit (runs_from 0 n)) (a_word main ∷ []))

-- the call of the function that varies has its key, and this isn't main's
varying_met : (p : Program) (g : List MonoTree) (others : CompTree) → keys_met p g (varying_call others) ≡ varying_key ∷ keys_met p (m_word ∷ g) others
unfolding skeleton sites_of head_of arguments_of fix_ty met_in_term rename_term rename_mono lift lifts
varying_met p g others = refl

varying_new : (j : ℕ) → IsSameKey (main_key j) varying_key → ⊥
varying_new j e = varying_is_no_value j (sym e)

first_met : (p : Program) (n : ℕ) → keys_met p [] (crowd_first n) ≡ main_key n ∷ varying_key ∷ []
unfolding sites_of
first_met p n = λ j. value_site p [] n j ++ varying_met p (m_unit ∷ []) (c_ret (t_var 0)) j

second_met : (p : Program) (n : ℕ) → keys_met p [] (varying_first n) ≡ varying_key ∷ main_key n ∷ []
unfolding sites_of
second_met p n =
    varying_met p [] (c_step (s_run (t_val n) (Some m_unit)) (c_ret (t_var 1))) ∙ (λ j. varying_key ∷ (value_site p (m_word ∷ []) n j ++ []))

module _ (n : ℕ) where
  abbrev three : List Key
  three = main_key (suc n) ∷ main_key n ∷ varying_key ∷ []

  three_met : Meets (main_key (suc n) ∷ []) (keys_met (crowd_and n (crowd_first n)) [] (crowd_first n)) three
  three_met =
      subst (λ met. Meets (main_key (suc n) ∷ []) met three) (sym (first_met (crowd_and n (crowd_first n)) n))
      (meets_new (new_to_one (value_differs (suc n) n (λ q. omega (arith, q)))) (omega arith)
      (meets_new (new_to_two (varying_new (suc n)) (varying_new n)) (omega arith) meets_none))

  three_unmet : Unmet three 0 n
  three_unmet j l m =
      grown varying_key (main_key (suc n) ∷ main_key n ∷ [])
      (new_to_two (value_differs (suc n) j (λ q. omega (arith, q, m))) (value_differs n j (λ q. omega (arith, q, m)))) (varying_is_no_value j)

  met_before_it_varies : 4094 ≤ n → RefusesInstances (crowd_and n (crowd_first n)) too_many_instances
  met_before_it_varies l =
      refuses_list (main_is n (crowd_first n)) (refuses_later refl (main_up n (crowd_first n)) three_met
      (refuses_calls refl (crowd_up n (crowd_first n))
      (subst (MeetsTooMany three) (sym (values_met (crowd_and n (crowd_first n)) [] 0 n))
      (meets_more n 0 n three (omega arith) (omega arith) (omega arith) three_unmet))))

  varies_after_fewer : n < 4094 → RefusesInstances (crowd_and n (crowd_first n)) (is_varying 40 2)
  varies_after_fewer l =
      refuses_list (main_is n (crowd_first n)) (refuses_later refl (main_up n (crowd_first n)) three_met
      (refuses_later refl (crowd_up n (crowd_first n))
      (subst (λ met. Meets three met (three ++ keys_from 0 n)) (sym (values_met (crowd_and n (crowd_first n)) [] 0 n))
      (meets_values n 0 n three (omega arith) (omega arith) three_unmet)) (refuses_up refl it_varies)))

  varies_before_it_is_met : RefusesInstances (crowd_and n (varying_first n)) (is_varying 40 2)
  varies_before_it_is_met =
      refuses_list (main_is n (varying_first n)) (refuses_later refl (main_up n (varying_first n))
      (subst (λ met. Meets (main_key (suc n) ∷ []) met (main_key (suc n) ∷ varying_key ∷ main_key n ∷ []))
      (sym (second_met (crowd_and n (varying_first n)) n))
      (meets_new (new_to_one (varying_new (suc n))) (omega arith)
      (meets_new (new_to_two (value_differs (suc n) n (λ q. omega (arith, q))) (varying_is_no_value n)) (omega arith) meets_none)))
      (refuses_up refl it_varies))

pub worked : WorkedCrowds
worked = record {
  as_many_as_may_be = as_many_as_may_be;
  one_too_many = one_too_many;
  met_before_it_varies = met_before_it_varies;
  varies_after_fewer = varies_after_fewer;
  varies_before_it_is_met = varies_before_it_is_met;
}
