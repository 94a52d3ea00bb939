-- What a call of a value denotes: the body of the instance that it names, entered with the captured values and
-- the values that are passed.
use Rattle.std.specs.Prelude.{◌≡◌, ℕ, List, [], ◌++◌, map, reverse, Some, slice_get}
use Rattle.htt_syntax.specs.Trees.{TermTree, CompTree, t_val}
use Rattle.theory_values.specs.Values.{Value}
use Rattle.theory_canonical.specs.Skeletons.{Skeleton, sk_o, sk_c, skeleton}
use Rattle.theory_canonical.specs.Contexts.{Heads}
use Rattle.theory_canonical.specs.Canonical.{IsCanonical, IsNeutral}
use Rattle.theory_denotation.specs.Valuations.{den_term, HeadEntries}
use Rattle.theory_denotation.specs.Recursion.{entered_running}
use Rattle.theory_denotation.specs.Denotation.{term_den, head_den, comp_den}
use Rattle.theory_denotation.specs.Valued.{HeadsValued}
use Rattle.theory_instances.specs.Calls.{ProgramVal, Program, head_of, arguments_of, fixed_of, passed_of, Site}
use Rattle.theory_instances.specs.Keys.{key_of_site}
use Rattle.theory_instances.specs.Bodies.{HasBody}
use Rattle.theory_instances_keys.specs.Laws.{with_values, captured_values}
use Rattle.theory_instances_canonical.specs.Keys.{values_context}
use Rattle.theory_instances_canonical.specs.Counted.{counted_entry}

-- The values of what a call passes, in order, and those of all parameters, the innermost first.
abbrev pub passed_values : HeadEntries → List Value → Skeleton → TermTree → List Value
passed_values e vs s call = map (λ (x : TermTree). term_den e (with_values vs) x sk_o) (passed_of s (arguments_of call))

abbrev pub parameter_values : HeadEntries → List Value → Skeleton → TermTree → List Value
parameter_values e vs s call =
    reverse (passed_values e vs s call) ++ captured_values vs (head_of call) (fixed_of s (arguments_of call))

abbrev pub CallsOfValuesDenote : Type 0
CallsOfValuesDenote =
    (heads : Heads) (e : HeadEntries)
    → HeadsValued heads e
    → (p : Program) (n m number : ℕ) (val : ProgramVal) (vs : List Value) (site : Site)
    (results : List TermTree) (comp : CompTree)
    → slice_get p.vals n ≡ Some val
    → e.vals n ≡ counted_entry e val
    → IsCanonical heads [] val.term (skeleton val.ty)
    → head_of site.call ≡ t_val n
    → IsNeutral heads (values_context m) site.call sk_c
    → HasBody p number (key_of_site p site) results comp
    → head_den e (with_values vs) site.call
    ≡ den_term sk_c
    (entered_running (comp_den e (with_values (parameter_values e vs (skeleton val.ty) site.call)) comp))
