-- Lists of instances are closed under calls.
use Rattle.std.proofs.Common.{◌≡◌, ◌≤◌, ◌<◌, ℕ, zero, suc, ◌+◌, List, [], ◌∷◌, ◌++◌, length, reverse, Some, None, slice_get, refl, sym, ap, ◌∙◌, subst, arith}
use Rattle.std.proofs.lemmas.List.{length-append}
use Rattle.std.proofs.lemmas.Option.{slice_get_within, same_Some}
use Rattle.htt_syntax.specs.Trees.{MonoTree, TyTree, TermTree, CompTree, StepTree, m_var, y_hoare}
use Rattle.theory_instances.specs.Calls.{Program, ProgramVal, Site, ty_of_val}
use Rattle.theory_instances.specs.Keys.{Key}
use Rattle.theory_instances.specs.Bodies.{passed_monos, params_of}
use Rattle.theory_instances.specs.Lists.{instance_limit, Meets, meets_none, meets_known, meets_new, Taken, TakesAll, takes_end, takes_next, HasInstances}
use Rattle.theory_instances.specs.Lists.{IsMain, main_key}
use Rattle.theory_flat.specs.Flat.{FlatTree, FlatStepTree, Instance, Names, names_key, names_made, Flattens, flattens_ret, flattens_step, FlattensStep}
use Rattle.theory_flat.specs.Flat.{flattens_run, flattens_alloc}
use Rattle.theory_flat.specs.Flat.{flattens_get, flattens_set, flattens_free, flattens_if, AreFlat, flat_none, flat_more, HasFlatInstances}
use Rattle.theory_flat_closed.specs.Calls.{EachCall, EachCallOfStep}
use Rattle.theory_flat_closed.specs.Laws.{ListsAreClosed}

some_or_none : {A : Type 0} {x : A} → Some x ≡ None → ⊥
some_or_none q = cc

past_end : {A : Type 0} (xs : List A) (n : ℕ) → slice_get xs n ≡ None → length xs ≤ n
past_end [] n q = omega arith
past_end (x ∷ xs) zero q = absurd (some_or_none q)
past_end (x ∷ xs) (suc n) q = let r = past_end xs n q in omega (arith, r)

no_fewer : {keys met after : List Key} → Meets keys met after → length keys ≤ length after
no_fewer meets_none = omega arith
no_fewer (meets_known n k a) = no_fewer a
no_fewer {keys = keys} (meets_new {key = key} f l a) =
    let r = no_fewer a in let q = length-append keys (key ∷ []) in omega (arith, r, q)

within_limit : {keys met after : List Key} → Meets keys met after → length keys ≤ instance_limit → length after ≤ instance_limit
within_limit meets_none l = l
within_limit (meets_known n k a) l = within_limit a l
within_limit {keys = keys} (meets_new {key = key} f few a) l =
    let q = length-append keys (key ∷ []) in within_limit a (omega (arith, few, q))

all_taken : {p : Program} {keys final : List Key} {number : ℕ} {rows : List Taken}
    → TakesAll p keys number rows final
    → number ≤ length keys
    → number + length rows ≡ length final
all_taken {keys = keys} {number = number} (takes_end q) l = let r = past_end keys number q in omega (arith, r, l)
all_taken {keys = keys} {number = number} (takes_next {key = key} {others = others} q u m rest) l =
    let here = slice_get_within keys number key q in
    let more = no_fewer m in
    let r = all_taken rest (omega (arith, here, more)) in
    omega (arith, r)

all_within : {p : Program} {keys final : List Key} {number : ℕ} {rows : List Taken}
    → TakesAll p keys number rows final
    → length keys ≤ instance_limit
    → length final ≤ instance_limit
all_within (takes_end q) l = l
all_within (takes_next q u m rest) l = all_within rest (within_limit m l)

as_many : {p : Program} {keys : List Key} {rows : List Taken} {instances : List Instance} → AreFlat p keys rows instances → length rows ≡ length instances
as_many flat_none = refl
as_many (flat_more a b) = ap suc (as_many b)

module _ {p : Program} {keys : List Key} where
  named : {site : Site} {number : ℕ} {params : List TermTree} → Names p keys site number params → number < length keys
  named {number = number} (names_key q k) = slice_get_within keys number k.known k.at
  named {number = number} (names_made {key = key} q a) = slice_get_within keys number key a

  mutual
    unfolding EachCall

    flat_closed : {g : List MonoTree} {comp : CompTree} {flat : FlatTree} → Flattens p keys g comp flat → EachCall (λ called. called < length keys) flat
    flat_closed flattens_ret = tt
    flat_closed (flattens_step a b) = (step_closed a, flat_closed b)

    step_closed : {g : List MonoTree} {step : StepTree} {flat : FlatStepTree}
        → FlattensStep p keys g step flat
        → EachCallOfStep (λ called. called < length keys) flat
    step_closed (flattens_run a) = named a
    step_closed flattens_alloc = tt
    step_closed flattens_get = tt
    step_closed flattens_set = tt
    step_closed flattens_free = tt
    step_closed (flattens_if a b) = (flat_closed a, flat_closed b)

  each_closed : {rows : List Taken} {instances : List Instance} (number : ℕ) (instance : Instance)
      → AreFlat p keys rows instances
      → slice_get instances number ≡ Some instance
      → EachCall (λ called. called < length keys) instance.body
  each_closed number instance flat_none q = absurd (some_or_none (sym q))
  each_closed zero instance (flat_more {instance = first} a b) q =
      subst (λ (i : Instance). EachCall (λ called. called < length keys) i.body) (same_Some first instance q) (flat_closed a.body)
  each_closed (suc number) instance (flat_more a b) q = each_closed number instance b q

count_is : {p : Program} {instances : List Instance} (h : HasFlatInstances p instances) → length h.keys ≡ length instances
count_is h = let r = all_taken h.has.all (omega arith) in let q = as_many h.flat in omega (arith, r, q)

main_first : {p : Program} {number : ℕ} {keys final : List Key} {rows : List Taken} {instances : List Instance}
    → IsMain p number
    → TakesAll p (main_key number ∷ []) zero rows final
    → AreFlat p keys rows instances
    → (instance : Instance) × (slice_get instances zero ≡ Some instance) × (instance.params ≡ [])
main_first m (takes_end q) f = absurd (some_or_none q)
main_first {p = p} {number = number} m (takes_next {key = key} {taken = taken} q u met rest) (flat_more {instance = instance} a b) =
    let ty_is : ty_of_val (slice_get p.vals number) ≡ y_hoare m.spec = ap ty_of_val m.there ∙ m.is_hoare in
    let none : taken.params ≡ [] =
    u.params ∙ ap (params_of p) (sym (same_Some (main_key number) key q)) ∙ (λ j. reverse (passed_monos m_var (ty_is j) []) ++ []) in
    (instance, refl, a.params ∙ ap reverse none)

pub closed : ListsAreClosed
closed = record {
  calls = λ p instances number instance h q.
      subst (λ n. EachCall (λ called. called < n) instance.body) (count_is h) (each_closed number instance h.flat q);
  main_is_first = λ p instances h. main_first h.has.main h.has.all h.flat;
  few = λ p instances h.
      subst (λ n. n ≤ instance_limit) (count_is h) (all_within h.has.all (omega arith));
}
