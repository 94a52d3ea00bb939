-- What an instance denotes, and what each call does: it enters the body of the instance that it names, with the
-- values of the parameters that it gives.
use Rattle.std.specs.Prelude.{◌≡◌, ℕ, List, ◌++◌, map, length, reverse, Some, slice_get}
use Rattle.htt_syntax.specs.Trees.{TermTree}
use Rattle.theory_values.specs.Values.{Value}
use Rattle.theory_canonical.specs.Skeletons.{sk_o, sk_c, skeleton}
use Rattle.theory_canonical.specs.Canonical.{IsNeutral}
use Rattle.theory_denotation.specs.Valuations.{den_term, HeadEntries}
use Rattle.theory_denotation.specs.Recursion.{entered_running}
use Rattle.theory_denotation.specs.Denotation.{term_den, head_den, comp_den}
use Rattle.theory_instances.specs.Calls.{Program, passed_count, head_ty, Site}
use Rattle.theory_instances.specs.Keys.{Key}
use Rattle.theory_instances.specs.Bodies.{arguments_within}
use Rattle.theory_instances.specs.Lists.{Taken, HasInstances}
use Rattle.theory_flat.specs.Flat.{Names}
use Rattle.theory_instances_passing.specs.Pinned.{given, applied_to}
use Rattle.theory_instances_keys.specs.Laws.{with_values}
use Rattle.theory_instances_canonical.specs.Keys.{values_context, heads_with, IsCanonicalProgram}
use Rattle.theory_instances_heads.specs.Heads.{AreInstanceHeads}

-- The head of an instance, with the values of the captured variables, at its fixed arguments and what is passed:
-- it is out of fuel without any, and otherwise does what the body does with one unit less.
abbrev pub InstancesDenote : Type 0
InstancesDenote =
    (p : Program) (instances : List Taken) (keys : List Key) (e : HeadEntries)
    → IsCanonicalProgram p
    → HasInstances p instances keys
    → AreInstanceHeads p keys e
    → (number : ℕ) (key : Key) (taken : Taken)
    → slice_get keys number ≡ Some key
    → slice_get instances number ≡ Some taken
    → (captured passed : List Value)
    → length passed ≡ passed_count (skeleton (head_ty p key.head))
    → applied_to (head_den e (with_values captured) key.head)
    (map (given e (with_values (reverse passed ++ captured))) (arguments_within (skeleton (head_ty p key.head)) key))
    ≡ den_term sk_c (entered_running (comp_den e (with_values (reverse passed ++ captured)) taken.body))

-- The values of the parameters that a call gives, in order.
abbrev pub values_of : HeadEntries → List Value → List TermTree → List Value
values_of e vs params = map (λ (x : TermTree). term_den e (with_values vs) x sk_o) params

abbrev pub CallsDenote : Type 0
CallsDenote =
    (p : Program) (instances : List Taken) (keys : List Key) (e : HeadEntries)
    → IsCanonicalProgram p
    → HasInstances p instances keys
    → AreInstanceHeads p keys e
    → (m : ℕ) (vs : List Value) (site : Site) (number : ℕ) (params : List TermTree) (taken : Taken)
    → IsNeutral (heads_with p keys) (values_context m) site.call sk_c
    → Names p keys site number params
    → slice_get instances number ≡ Some taken
    → head_den e (with_values vs) site.call
    ≡ den_term sk_c (entered_running (comp_den e (with_values (reverse (values_of e vs params))) taken.body))
