-- That a use of a value takes fuel changes no outcome, where each outcome is one for some fuel.
use Rattle.std.specs.Prelude.{◌≡◌, ◌≢◌, ◌↔◌, ℕ, List, [], map, Some, slice_get}
use Rattle.htt_syntax.specs.Trees.{TermTree}
use Rattle.theory_values.specs.Heaps.{Heap}
use Rattle.theory_canonical.specs.Skeletons.{sk_c, skeleton}
use Rattle.theory_canonical.specs.Canonical.{IsCanonical}
use Rattle.theory_denotation.specs.Outcomes.{Outcome, out_of_fuel}
use Rattle.theory_denotation.specs.Valuations.{HeadEntries}
use Rattle.theory_denotation.specs.Denotation.{term_den, heads_of_vals}
use Rattle.theory_instances.specs.Calls.{ProgramVal, Program}
use Rattle.theory_instances.specs.Keys.{Key}
use Rattle.theory_instances_canonical.specs.Keys.{heads_with, val_tree, IsCanonicalProgram}
use Rattle.theory_instances_canonical.specs.Counted.{counted_entry}
use Rattle.theory_instances_heads.specs.Heads.{AreInstanceHeads}

-- The use of each value takes one unit of fuel.
pub record AreCounted (p : Program) (e : HeadEntries) : Type 0 where
  pub at : (n : ℕ) (v : ProgramVal) → slice_get p.vals n ≡ Some v → e.vals n ≡ counted_entry e v

-- The entries of a program's values whose uses take none.
abbrev pub plain_heads : Program → HeadEntries
plain_heads p = heads_of_vals (map val_tree p.vals)

-- A closed computation comes to an outcome other than want of fuel with both heads, each with some fuel, or with
-- neither.
abbrev pub SameOutcomes : HeadEntries → HeadEntries → TermTree → Type 0
SameOutcomes e e' term =
    (h : Heap) (cs : List ℕ) (end : Outcome)
    → end ≢ out_of_fuel
    → ((n : ℕ) × (term_den e [] term sk_c n h cs ≡ end)) ↔ ((n : ℕ) × (term_den e' [] term sk_c n h cs ≡ end))

-- A canonical computation in which no made function occurs.
abbrev pub CountedValuesKeepOutcomes : Type 0
CountedValuesKeepOutcomes =
    (p : Program) (e : HeadEntries)
    → IsCanonicalProgram p
    → AreCounted p e
    → (term : TermTree)
    → IsCanonical (heads_with p []) [] term sk_c
    → SameOutcomes e (plain_heads p) term

-- The canonical term of a value that is a computation, with the heads of instances.
abbrev pub InstanceHeadsKeepOutcomes : Type 0
InstanceHeadsKeepOutcomes =
    (p : Program) (keys : List Key) (e : HeadEntries)
    → IsCanonicalProgram p
    → AreInstanceHeads p keys e
    → (number : ℕ) (v : ProgramVal)
    → slice_get p.vals number ≡ Some v
    → skeleton v.ty ≡ sk_c
    → SameOutcomes e (plain_heads p) v.term
