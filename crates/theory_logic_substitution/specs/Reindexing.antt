-- Worlds that differ in one entry, worlds that agree on the entries of sorts, and arguments as entries.
use Rattle.std.specs.Prelude.{◌≡◌, ◌≢◌, ℕ, List, [], ◌∷◌}
use Rattle.htt_syntax.specs.Trees.{ArgTree, a_heap, a_term}
use Rattle.theory_truth.specs.Worlds.{Thing, World, th_value, th_heap, thing_at, heap_at}
use Rattle.theory_truth.specs.TermValue.{term_value}
use Rattle.theory_substitution.specs.Closing.{closing}
use Rattle.theory_logic_sorts.specs.Sorts.{Sort, Sorts, HasSort}

-- The whole has this thing at x, and the things of w at the others.
pub record HasMore (x : ℕ) (thing : Thing) (w whole : World) : Type 0 where
  pub here : thing_at whole x ≡ thing
  pub others : (n : ℕ) → n ≢ x → thing_at whole n ≡ thing_at w (closing x n)

-- The worlds have the same things at the variables that have a sort.
pub record AgreesOn (g : Sorts) (w v : World) : Type 0 where
  pub at : (n : ℕ) (s : Sort) → HasSort g n s → thing_at w n ≡ thing_at v n

-- What an argument stands for.
abbrev pub thing_of_arg : World → ArgTree → Thing
thing_of_arg w (a_heap heap) = th_heap (heap_at w heap)
thing_of_arg w (a_term term) = th_value (term_value w term)

-- The world `inner` with the arguments, as they are in w, as further entries, the last of them innermost.
abbrev pub world_of_args : World → World → List ArgTree → World
world_of_args w inner [] = inner
world_of_args w inner (argument ∷ others) = world_of_args w (thing_of_arg w argument ∷ inner) others

-- Each heap among the arguments is one in w.
abbrev pub AreHeapsIn : World → List ArgTree → Type 0
AreHeapsIn w [] = Unit {0}
AreHeapsIn w (a_heap heap ∷ others) = (thing_at w heap ≡ th_heap (heap_at w heap)) × AreHeapsIn w others
AreHeapsIn w (a_term term ∷ others) = AreHeapsIn w others
