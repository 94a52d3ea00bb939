-- The instances of a program, in the order in which they are met, or why it has none. Instance 0 is main.
-- Instances are taken up in the order of their numbers; the calls of a body are met from the first step to
-- the last.
use Rattle.std.specs.Prelude.{◌≡◌, ◌≢◌, ◌<◌, ℕ, zero, suc, List, [], ◌∷◌, ◌++◌, length, flat_map, Option}
use Rattle.std.specs.Prelude.{Some}
use Rattle.std.specs.Prelude.{None, slice_get, nat_lt, if◌then◌else◌}
use Rattle.htt_syntax.specs.Trees.{MonoTree, TripleTree, TermTree, FixTree, CompTree, y_hoare, t_val, t_lam}
use Rattle.htt_syntax.specs.Trees.{t_do, t_fix, t_unit, c_ret}
use Rattle.theory_counts.specs.Nodes.{nodes_mono, nodes_term, nodes_comp}
use Rattle.theory_counts_monotypes.specs.Monotypes.{greatest_in_term}
use Rattle.theory_instances.specs.Calls.{ProgramVal, Program, sites_of}
use Rattle.theory_instances.specs.Keys.{Key, keys_of_site, IsSameKey}
use Rattle.theory_instances.specs.Bodies.{params_of, result_of, HasBody}
use Rattle.theory_instances.specs.Varying.{NeverVaries, Varies}

-- Why a program has no list of instances. A recursive function that varies is told by its byte and a
-- position among its parameters.
pub data Refusal : Type 0 where
  no_main has_parameters : Refusal
  is_varying : ℕ → ℕ → Refusal
  too_many_instances too_large mono_too_large : Refusal

abbrev pub instance_limit : ℕ
instance_limit = 4096

abbrev pub node_limit : ℕ
node_limit = 1000000

abbrev pub mono_limit : ℕ
mono_limit = 64

-- A count past its limit refuses.
abbrev pub past_limit : ℕ → ℕ → Refusal → Option Refusal → Option Refusal
past_limit limit count refusal others = if nat_lt limit count then Some refusal else others

-- The computation of a recursive function that waits for further arguments.
unfoldable pub computation_in : TermTree → CompTree
computation_in (t_lam body) = computation_in body
computation_in (t_do comp) = comp
computation_in term = c_ret t_unit

-- What is left after an argument is counted as a term, and of a recursive function as its computation.
abbrev pub nodes_left : TermTree → TermTree → ℕ
nodes_left (t_fix at fix) result = nodes_comp (computation_in result)
nodes_left head result = nodes_term result

-- The first result that is too large, or has too large a monotype.
abbrev pub result_refusal : TermTree → List TermTree → Option Refusal
result_refusal head [] = None
result_refusal head (result ∷ others) =
    past_limit node_limit (nodes_left head result) too_large
    (past_limit mono_limit (greatest_in_term result) mono_too_large (result_refusal head others))

-- The first monotype that is too large.
abbrev pub mono_refusal : List MonoTree → Option Refusal
mono_refusal [] = None
mono_refusal (mono ∷ others) = past_limit mono_limit (nodes_mono mono) mono_too_large (mono_refusal others)

-- The key is that of an instance with this number.
pub record IsKnownAs (keys : List Key) (number : ℕ) (key : Key) : Type 0 where
  pub known : Key
  pub at : slice_get keys number ≡ Some known
  pub same : IsSameKey known key

abbrev pub IsNew : List Key → Key → Type 0
IsNew keys key = (number : ℕ) → IsKnownAs keys number key → ⊥

-- Keys are met one after the other, and new ones join at the end, as far as the limit allows.
pub data Meets : List Key → List Key → List Key → Type 0 where
  meets_none : {keys : List Key} → Meets keys [] keys
  meets_known : {keys after others : List Key} {key : Key} (number : ℕ)
      → IsKnownAs keys number key
      → Meets keys others after
      → Meets keys (key ∷ others) after
  meets_new : {keys after others : List Key} {key : Key}
      → IsNew keys key
      → length keys < instance_limit
      → Meets (keys ++ key ∷ []) others after
      → Meets keys (key ∷ others) after

-- A new key is met where there are as many as may be.
pub data MeetsTooMany : List Key → List Key → Type 0 where
  too_many_here : {keys others : List Key} {key : Key}
      → IsNew keys key
      → length keys ≡ instance_limit
      → MeetsTooMany keys (key ∷ others)
  too_many_past_known : {keys others : List Key} {key : Key} (number : ℕ)
      → IsKnownAs keys number key
      → MeetsTooMany keys others
      → MeetsTooMany keys (key ∷ others)
  too_many_past_new : {keys others : List Key} {key : Key}
      → IsNew keys key
      → length keys < instance_limit
      → MeetsTooMany (keys ++ key ∷ []) others
      → MeetsTooMany keys (key ∷ others)

-- The keys that the calls of a body name, which stands under these parameters.
abbrev pub keys_met : Program → List MonoTree → CompTree → List Key
keys_met p params comp = flat_map (keys_of_site p) (sites_of params comp)

-- An instance that was taken up: its key, its parameters with the innermost first, its result and its body.
pub record Taken : Type 0 where
  pub key : Key
  pub params : List MonoTree
  pub result : MonoTree
  pub body : CompTree

-- An instance is taken up: its key doesn't vary, it has a body, and all is within the limits.
pub record TakesUp (p : Program) (number : ℕ) (key : Key) (taken : Taken) : Type 0 where
  pub never_varies : NeverVaries key.head
  pub results : List TermTree
  pub has_body : HasBody p number key results taken.body
  pub results_within : result_refusal key.head results ≡ None
  pub monos_within : mono_refusal (taken.result ∷ taken.params) ≡ None
  pub same_key : taken.key ≡ key
  pub params : taken.params ≡ params_of p key
  pub result : taken.result ≡ result_of p key

-- Why an instance isn't taken up: it varies; or else a result of its body is past a limit; or else a
-- monotype of its parameters or of its result is.
pub data RefusesUp (p : Program) (number : ℕ) (key : Key) : Refusal → Type 0 where
  up_varies : {at position : ℕ} {fix : FixTree}
      → key.head ≡ t_fix at fix
      → Varies fix position
      → RefusesUp p number key (is_varying at position)
  up_result : {results : List TermTree} {comp : CompTree} {refusal : Refusal}
      → NeverVaries key.head
      → HasBody p number key results comp
      → result_refusal key.head results ≡ Some refusal
      → RefusesUp p number key refusal
  up_mono : {results : List TermTree} {comp : CompTree} {refusal : Refusal}
      → NeverVaries key.head
      → HasBody p number key results comp
      → result_refusal key.head results ≡ None
      → mono_refusal (result_of p key ∷ params_of p key) ≡ Some refusal
      → RefusesUp p number key refusal

-- With these keys so far, the instances from this number on are taken up; the keys at the end.
pub data TakesAll (p : Program) : List Key → ℕ → List Taken → List Key → Type 0 where
  takes_end : {keys : List Key} {number : ℕ} → slice_get keys number ≡ None → TakesAll p keys number [] keys
  takes_next : {keys more final : List Key} {number : ℕ} {key : Key} {taken : Taken} {others : List Taken}
      → slice_get keys number ≡ Some key
      → TakesUp p number key taken
      → Meets keys (keys_met p taken.params taken.body) more
      → TakesAll p more (suc number) others final
      → TakesAll p keys number (taken ∷ others) final

pub data RefusesAll (p : Program) : List Key → ℕ → Refusal → Type 0 where
  refuses_up : {keys : List Key} {number : ℕ} {key : Key} {refusal : Refusal}
      → slice_get keys number ≡ Some key
      → RefusesUp p number key refusal
      → RefusesAll p keys number refusal
  refuses_calls : {keys : List Key} {number : ℕ} {key : Key} {taken : Taken}
      → slice_get keys number ≡ Some key
      → TakesUp p number key taken
      → MeetsTooMany keys (keys_met p taken.params taken.body)
      → RefusesAll p keys number too_many_instances
  refuses_later : {keys more : List Key} {number : ℕ} {key : Key} {taken : Taken} {refusal : Refusal}
      → slice_get keys number ≡ Some key
      → TakesUp p number key taken
      → Meets keys (keys_met p taken.params taken.body) more
      → RefusesAll p more (suc number) refusal
      → RefusesAll p keys number refusal

abbrev pub main_key : ℕ → Key
main_key number = record { head = t_val number; fixed = []; captured = [] }

-- Main is a computation without parameters.
pub record IsMain (p : Program) (number : ℕ) : Type 0 where
  pub named : p.main ≡ Some number
  pub val : ProgramVal
  pub there : slice_get p.vals number ≡ Some val
  pub spec : TripleTree
  pub is_hoare : val.ty ≡ y_hoare spec

-- The instances of a program, with all keys.
pub record HasInstances (p : Program) (instances : List Taken) (keys : List Key) : Type 0 where
  pub number : ℕ
  pub main : IsMain p number
  pub all : TakesAll p (main_key number ∷ []) zero instances keys

pub data RefusesInstances (p : Program) : Refusal → Type 0 where
  refuses_no_main : p.main ≡ None → RefusesInstances p no_main
  refuses_parameters : {number : ℕ} {val : ProgramVal}
      → p.main ≡ Some number
      → slice_get p.vals number ≡ Some val
      → ((spec : TripleTree) → val.ty ≢ y_hoare spec)
      → RefusesInstances p has_parameters
  refuses_list : {number : ℕ} {refusal : Refusal}
      → IsMain p number
      → RefusesAll p (main_key number ∷ []) zero refusal
      → RefusesInstances p refusal
