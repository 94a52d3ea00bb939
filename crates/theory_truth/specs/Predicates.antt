-- What recursive predicates say: by recursion on the predicate's number, and then on the index.
use Rattle.std.specs.Prelude.{ℕ, zero, suc, List, [], ◌∷◌, length, Bool, true, false, Option, Some, None, nat_eq}
use Rattle.std.specs.Prelude.{slice_get}
use Rattle.htt_syntax.specs.Trees.{MonoTree, FormulaTree}
use Rattle.theory_values.specs.Values.{Value, v_word}
use Rattle.theory_values.specs.Heaps.{Heap}
use Rattle.theory_truth.specs.Worlds.{World, th_value, th_heap}
use Rattle.theory_truth.specs.Truth.{Recs, Holds}

-- A recursive predicate: the monotypes of its parameters, what it says at 0, under the parameters
-- and then the heap, and what it says above 0, under the index less one, the parameters and the heap.
pub record RecTree : Type 0 where
  pub params : List MonoTree
  pub at_zero : FormulaTree
  pub at_next : FormulaTree

-- A world with these values as further entries, the first of them outermost.
abbrev pub world_of_values : World → List Value → World
world_of_values w [] = w
world_of_values w (v ∷ vs) = world_of_values (th_value v ∷ w) vs

abbrev pub zero_world : List Value → Heap → World
zero_world vs h = th_heap h ∷ world_of_values [] vs

abbrev pub next_world : ℕ → List Value → Heap → World
next_world j vs h = th_heap h ∷ world_of_values (th_value (v_word j) ∷ []) vs

-- What one predicate says, of an index, arguments and a heap.
abbrev pub Saying : Type 1
Saying = ℕ → List Value → Heap → Type 0

abbrev pub type_if : Bool → Type 0 → Type 0 → Type 0
type_if true A B = A
type_if false A B = B

-- The predicates as before, but one of them says this.
abbrev pub recs_with : Recs → ℕ → Saying → Recs
recs_with R p said q j vs h = type_if (nat_eq q p) (said j vs h) (R q j vs h)

-- What a predicate says, where R is what the earlier ones say. Above 0 each atom of the predicate
-- itself stands at the index less one.
abbrev pub saying_of : Recs → ℕ → RecTree → Saying
saying_of R p r zero vs h = Holds R (zero_world vs h) r.at_zero
saying_of R p r (suc j) vs h = Holds (recs_with R p (λ i. saying_of R p r j)) (next_world j vs h) r.at_next

abbrev pub saying_of_entry : Recs → ℕ → Option RecTree → Saying
saying_of_entry R p (Some r) = saying_of R p r
saying_of_entry R p None = λ j vs h. ⊥

-- What the predicates below a number say. No other says anything.
unfoldable pub recs_below : List RecTree → ℕ → Recs
recs_below table zero = λ q j vs h. ⊥
recs_below table (suc p) = recs_with (recs_below table p) p (saying_of_entry (recs_below table p) p (slice_get table p))

-- What the predicates of a table say.
abbrev pub recs_of : List RecTree → Recs
recs_of table = recs_below table (length table)
