-- What the heads of a program's instances denote. The use of a value takes one unit of fuel, as a call of its
-- instance does. The made function of a key denotes the key's head, whose fixed arguments are pinned to those of
-- the key, whatever a call gives for them; the captured variables have the values that it was made with.
use Rattle.std.specs.Prelude.{◌≡◌, ℕ, List, [], ◌∷◌, ◌++◌, map, reverse, Option, Some, None, slice_get}
use Rattle.theory_values.specs.Values.{Value}
use Rattle.theory_canonical.specs.Skeletons.{Skeleton, sk_o, sk_arrow, sk_all}
use Rattle.theory_denotation.specs.Valuations.{Domain, ValuationEntry, den_term, no_entry, HeadEntries}
use Rattle.theory_denotation.specs.Denotation.{head_den, entry_or_none}
use Rattle.theory_denotation.specs.Valued.{HeadsValued}
use Rattle.theory_denotation_unfolding.specs.Agreement.{SteadyHeads}
use Rattle.theory_instances.specs.Calls.{ProgramVal, Program}
use Rattle.theory_instances.specs.Keys.{Key}
use Rattle.theory_instances_passing.specs.Pinned.{GivenArgument, given_term, given_mono, given}
use Rattle.theory_instances_keys.specs.Laws.{with_values}
use Rattle.theory_instances_canonical.specs.Keys.{heads_with}
use Rattle.theory_instances_canonical.specs.Counted.{counted_entry}

-- A function that takes what is set here for its fixed arguments.
abbrev pub pinned_to : (s : Skeleton) → List GivenArgument → Domain s → Domain s
pinned_to (sk_arrow sk_o t) set f = λ d. pinned_to t set (f d)
pinned_to (sk_arrow s t) (given_term x ∷ set) f = λ d. pinned_to t set (f (x s))
pinned_to (sk_all s) (given_mono t ∷ set) f = λ u. pinned_to s set (f t)
pinned_to s set f = f

abbrev pub pinned_entry : List GivenArgument → ValuationEntry → ValuationEntry
pinned_entry set (den_term s f) = den_term s (pinned_to s set f)
pinned_entry set x = x

-- The values are those of the captured variables, that of the outermost first.
abbrev pub made_entry : HeadEntries → Key → List Value → ValuationEntry
made_entry e key values =
    pinned_entry (map (given e (with_values (reverse values))) key.fixed)
    (head_den e (with_values (reverse values)) key.head)

pub record AreInstanceHeads (p : Program) (keys : List Key) (e : HeadEntries) : Type 0 where
  pub valued : HeadsValued (heads_with p keys) e
  pub steady : SteadyHeads (heads_with p keys) e
  pub vals : (n : ℕ) (val : ProgramVal) → slice_get p.vals n ≡ Some val → e.vals n ≡ counted_entry e val
  pub made : (number : ℕ) (key : Key)
      → slice_get keys number ≡ Some key
      → (values : List Value)
      → e.made number values ≡ made_entry e key values

-- Each value knows those before it, and each made function all values and the made functions before it.
abbrev pub MadeFunction : Type 0
MadeFunction = List Value → ValuationEntry

abbrev pub function_or_none : Option MadeFunction → MadeFunction
function_or_none (Some f) = f
function_or_none None = λ values. no_entry

abbrev pub heads_from : List ValuationEntry → List MadeFunction → HeadEntries
heads_from vals made =
    record { vals = λ n. entry_or_none (slice_get vals n); made = λ n. function_or_none (slice_get made n) }

abbrev pub counted_entries : List ValuationEntry → List ProgramVal → List ValuationEntry
counted_entries known [] = known
counted_entries known (v ∷ vals) = counted_entries (known ++ (counted_entry (heads_from known []) v ∷ [])) vals

abbrev pub made_functions : List ValuationEntry → List MadeFunction → List Key → List MadeFunction
made_functions vals known [] = known
made_functions vals known (key ∷ keys) =
    made_functions vals (known ++ (made_entry (heads_from vals known) key ∷ [])) keys

abbrev pub heads_of_instances : Program → List Key → HeadEntries
heads_of_instances p keys =
    heads_from (counted_entries [] p.vals) (made_functions (counted_entries [] p.vals) [] keys)
