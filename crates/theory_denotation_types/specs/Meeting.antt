-- When a computation meets a triple: from a heap whose one part makes the precondition true it never
-- goes wrong, and where it ends the other part is unchanged and the rest makes the postcondition true.
use Rattle.std.specs.Prelude.{ℕ, List, All}
use Rattle.htt_syntax.specs.Trees.{MonoTree}
use Rattle.theory_values.specs.Values.{Value, HasType, IsWord}
use Rattle.theory_values.specs.Heaps.{Heap, IsHeap, IsJoin}
use Rattle.theory_denotation.specs.Outcomes.{Outcome, Running, ended, out_of_fuel, asking, wrong}

-- What a postcondition says of a result, the own heap before and the own heap after.
abbrev pub Post : Type 1
Post = Value → Heap → Heap → Type 0

-- A computation from the own heap before and beside the frame has ended with a value and a heap, of
-- which all but the frame is its own.
pub record LeavesPost (mono : MonoTree) (post : Post) (before frame : Heap) (v : Value) (whole : Heap) : Type 0 where
  pub own : Heap
  pub parts : IsJoin whole own frame
  pub is_heap : IsHeap whole
  pub typed : HasType v mono
  pub holds : post v before own

-- The choices that are left are words, as those that were given.
abbrev pub EndsWell : MonoTree → Post → Heap → Heap → Outcome → Type 0
EndsWell mono post before frame (ended v whole rest) = LeavesPost mono post before frame v whole × All IsWord rest
EndsWell mono post before frame out_of_fuel = Unit {0}
EndsWell mono post before frame asking = Unit {0}
EndsWell mono post before frame wrong = ⊥

pub record Meets (pre : Heap → Type 0) (mono : MonoTree) (post : Post) (f : Running) : Type 0 where
  pub at : (n : ℕ) (before frame whole : Heap) (cs : List ℕ)
      → IsHeap whole
      → IsJoin whole before frame
      → All IsWord cs
      → pre before
      → EndsWell mono post before frame (f n whole cs)
