-- The monotypes of instances: what is tested when one is taken up, and what flattening keeps.
use Rattle.std.proofs.Common.{◌≡◌, ◌≤◌, ℕ, List, [], ◌∷◌, ◌++◌, All, Bool, true, false, if◌then◌else◌, Option, Some, None, refl, sym, subst, arith}
use Rattle.std.specs.Prelude.{nat_lt}
use Rattle.std.proofs.lemmas.Bool.{ltb-false}
use Rattle.std.proofs.lemmas.List.Elements.{All-nil, All-cons, All-head, All-tail}
use Rattle.htt_syntax.specs.Trees.{MonoTree, TermTree, CompTree, StepTree}
use Rattle.theory_counts.specs.Nodes.{nodes_mono}
use Rattle.theory_counts_monotypes.specs.Monotypes.{greatest_in_term, greatest_in_comp, greatest_in_step}
use Rattle.theory_canonical.specs.Skeletons.{Skeleton, skeleton}
use Rattle.theory_canonical.specs.Eta.{eta}
use Rattle.theory_instances.specs.Calls.{Program, Argument, of_term, fix_ty}
use Rattle.theory_instances.specs.Keys.{Key}
use Rattle.theory_instances.specs.Bodies.{Puts, puts_none, puts_term, puts_mono, HasBody, body_of_val, body_of_fix, arguments_within, made_of}
use Rattle.theory_instances.specs.Lists.{Refusal, too_large, mono_too_large, mono_limit, node_limit, past_limit, nodes_left, result_refusal, mono_refusal}
use Rattle.theory_instances.specs.Lists.{Taken, TakesUp, TakesAll, takes_end, takes_next}
use Rattle.theory_flat.specs.Flat.{FlatTree, FlatStepTree, Instance, Flattens, flattens_ret, flattens_step, FlattensStep, flattens_run, flattens_alloc}
use Rattle.theory_flat.specs.Flat.{flattens_get, flattens_set, flattens_free, flattens_if, AreFlat, flat_none, flat_more}
use Rattle.theory_emission_valid.specs.Limits.{EachMono, EachMonoOfStep, IsWithin, HasMonosWithin}
use Rattle.theory_flat_narrow.specs.Laws.{IsNarrowProgram, InstancesAreNarrow}

-- ---- what isn't refused

some_none : {A : Type 0} {x : A} → Some x ≡ None → ⊥
some_none q = cc

not_past : (limit count : ℕ) (refusal : Refusal) (others : Option Refusal)
    → past_limit limit count refusal others ≡ None
    → (count ≤ limit) × (others ≡ None)
not_past limit count refusal others q = by (nat_lt limit count) refl q
  where
    by : (b : Bool) → nat_lt limit count ≡ b → (if b then Some refusal else others) ≡ None → (count ≤ limit) × (others ≡ None)
    by true r q = absurd (some_none q)
    by false r q = (ltb-false limit count r, q)

-- the first result is narrow, and the others aren't refused
first_narrow : (head result : TermTree) (others : List TermTree)
    → result_refusal head (result ∷ others) ≡ None
    → (greatest_in_term result ≤ mono_limit) × (result_refusal head others ≡ None)
first_narrow head result others q =
    let rest = (not_past node_limit (nodes_left head result) too_large
    (past_limit mono_limit (greatest_in_term result) mono_too_large (result_refusal head others)) q).1 in
    not_past mono_limit (greatest_in_term result) mono_too_large (result_refusal head others) rest

-- what is left after all arguments is narrow, where the function is or there are arguments
left_narrow : {function last : TermTree} {s : Skeleton} {arguments : List Argument} {results : List TermTree} (head : TermTree)
    → Puts function s arguments results last
    → (arguments ≡ [] → greatest_in_term function ≤ mono_limit)
    → result_refusal head results ≡ None
    → greatest_in_term last ≤ mono_limit
left_narrow head puts_none n q = n refl
left_narrow head (puts_term {next = next} {results = results} a rest) n q =
    let r = first_narrow head next results q in left_narrow head rest (λ e. r.0) (r.1)
left_narrow head (puts_mono {results = results} rest) n q =
    let r = first_narrow head _ results q in left_narrow head rest (λ e. r.0) (r.1)

not_nil : {A : Type 0} (xs : List A) (y : A) → xs ++ y ∷ [] ≡ [] → ⊥
not_nil [] y q = cc
not_nil (x ∷ xs) y q = cc

body_narrow : {p : Program} {number : ℕ} {key : Key} {results : List TermTree} {comp : CompTree}
    → IsNarrowProgram p
    → HasBody p number key results comp
    → result_refusal key.head results ≡ None
    → greatest_in_comp comp ≤ mono_limit
unfolding greatest_in_term
body_narrow {key = key} narrow (body_of_val {n = n} {v = v} q found puts) r = left_narrow key.head puts (λ e. narrow.terms n v found) r
body_narrow {number = number} {key = key} narrow (body_of_fix {own = own} q is_own puts) r =
    left_narrow key.head puts
    (λ e. absurd (not_nil (arguments_within (skeleton (fix_ty own)) key)
    (of_term (eta (made_of number (skeleton (fix_ty own)) key) (fix_ty own))) e)) r

-- ---- instances that are taken up

record IsNarrowTaken (taken : Taken) : Type 0 where
  result : IsWithin taken.result
  body : greatest_in_comp taken.body ≤ mono_limit

taken_narrow : {p : Program} {number : ℕ} {key : Key} {taken : Taken} → IsNarrowProgram p → TakesUp p number key taken → IsNarrowTaken taken
taken_narrow {taken = taken} narrow u = record {
  result = (not_past mono_limit (nodes_mono taken.result) mono_too_large (mono_refusal taken.params) u.monos_within).0;
  body = body_narrow narrow u.has_body u.results_within;
}

all_narrow : {p : Program} {keys final : List Key} {number : ℕ} {rows : List Taken}
    → IsNarrowProgram p
    → TakesAll p keys number rows final
    → All IsNarrowTaken rows
all_narrow narrow (takes_end q) = All-nil IsNarrowTaken
all_narrow narrow (takes_next {taken = taken} {others = others} q u m rest) =
    All-cons IsNarrowTaken taken others (taken_narrow narrow u) (all_narrow narrow rest)

-- ---- flat bodies

module _ {p : Program} {keys : List Key} where
  mutual
    unfolding EachMono greatest_in_comp

    flat_narrow : {g : List MonoTree} {comp : CompTree} {flat : FlatTree}
        → Flattens p keys g comp flat
        → greatest_in_comp comp ≤ mono_limit
        → EachMono IsWithin flat
    flat_narrow flattens_ret n = tt
    flat_narrow (flattens_step a b) n = (step_narrow a (omega (arith, n)), flat_narrow b (omega (arith, n)))

    step_narrow : {g : List MonoTree} {step : StepTree} {flat : FlatStepTree}
        → FlattensStep p keys g step flat
        → greatest_in_step step ≤ mono_limit
        → EachMonoOfStep IsWithin flat
    step_narrow (flattens_run a) n = tt
    step_narrow flattens_alloc n = omega (arith, n)
    step_narrow flattens_get n = omega (arith, n)
    step_narrow flattens_set n = omega (arith, n)
    step_narrow flattens_free n = omega (arith, n)
    step_narrow (flattens_if a b) n = (omega (arith, n), flat_narrow a (omega (arith, n)), flat_narrow b (omega (arith, n)))

  flats_narrow : {rows : List Taken} {instances : List Instance} → AreFlat p keys rows instances → All IsNarrowTaken rows → All HasMonosWithin instances
  flats_narrow flat_none n = All-nil HasMonosWithin
  flats_narrow (flat_more {taken = taken} {instance = instance} {others = others} {rest = rest} a b) n =
      let here = All-head IsNarrowTaken taken others n in
      All-cons HasMonosWithin instance rest
      (record { result = subst IsWithin (sym a.result) here.result; body = flat_narrow a.body here.body })
      (flats_narrow b (All-tail IsNarrowTaken taken others n))

pub instances_are_narrow : InstancesAreNarrow
instances_are_narrow p instances narrow h = flats_narrow h.flat (all_narrow narrow h.has.all)
