-- What stands around a place, as definitions speak of it.
use Rattle.std.specs.Prelude.{◌≡◌, List, [], map, reverse}
use Rattle.theory_canonical.specs.Skeletons as theory
use Rattle.theory_canonical.specs.Contexts.{Standing, as_mono, as_heap, as_open, as_term, standing_of, Heads}
use Rattle.canonical_forms_skeletons.specs.declared.skeleton.Skeleton.{Skeleton}
use Rattle.canonical_forms_skeletons.specs.Views.{skeleton_tree}
use Rattle.canonical_forms_decision.specs.declared.context.Entry.{Entry}
use Rattle.canonical_forms_decision.specs.declared.context.Entry.TheVariants as entries
use Rattle.canonical_forms_decision.specs.declared.context.Context.{Context}

abbrev pub standing : Entry → Standing
standing entries.Mono = as_mono
standing entries.Heap = as_heap
standing entries.Value = as_term theory.sk_o
standing entries.Open = as_open
standing (entries.Term s) = as_term (skeleton_tree s.now)

-- the entries, which the code keeps with the outermost first
unfoldable pub innermost_first : List Entry → List Standing
innermost_first es = reverse (map standing es)

abbrev pub context_tree : Context → List Standing
context_tree c = innermost_first c.entries.items

-- no made function is known
abbrev pub given_heads : List Skeleton → Heads
given_heads vals = record { vals = map skeleton_tree vals; made = [] }

abbrev pub heads_tree : Context → Heads
heads_tree c = given_heads c.vals.now

-- a context of which skeletons alone are told
abbrev pub given_standings : List Skeleton → List Standing
given_standings context = reverse (map (λ s. standing_of (skeleton_tree s)) context)

-- a function's skeleton
abbrev pub IsArrow : theory.Skeleton → Type 0
IsArrow s = (from : theory.Skeleton) × (to : theory.Skeleton) × (s ≡ theory.sk_arrow from to)
