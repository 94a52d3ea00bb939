-- States in valuations: a state is a formula under the heaps mem and init, of which mem is the own part
-- of the heap beside the frame.
use Rattle.std.specs.Prelude.{ℕ, List, ◌∷◌, All, Option, Some, None}
use Rattle.htt_syntax.specs.Trees.{FormulaTree}
use Rattle.theory_values.specs.Values.{IsWord}
use Rattle.theory_values.specs.Heaps.{Heap, IsHeap, IsJoin}
use Rattle.theory_truth.specs.Predicates.{RecTree, recs_of}
use Rattle.theory_canonical.specs.Skeletons.{sk_o}
use Rattle.theory_denotation.specs.Valuations.{den_heap, den_term, Valuation, HeadEntries}
use Rattle.theory_denotation.specs.Satisfaction.{Satisfies}
use Rattle.theory_denotation_types.specs.Meeting.{Post}

abbrev pub StateAt : List RecTree → HeadEntries → Valuation → FormulaTree → Heap → Heap → Type 0
StateAt table e w state init mem = Satisfies (recs_of table) e (den_heap mem ∷ den_heap init ∷ w) state

-- The state after a step, as a postcondition: under the step's variable.
abbrev pub NextState : List RecTree → HeadEntries → Valuation → FormulaTree → Post
NextState table e w state v init mem = StateAt table e (den_term sk_o v ∷ w) state init mem

-- What is owed is true in the state.
abbrev pub OwedAt : List RecTree → HeadEntries → Valuation → Option FormulaTree → Heap → Heap → Type 0
OwedAt table e w None init mem = Unit {0}
OwedAt table e w (Some goal) init mem = StateAt table e w goal init mem

-- A run stands in a state: the whole heap is the own part and the frame, and the choices are words.
pub record InState (table : List
    RecTree) (e : HeadEntries) (w : Valuation) (R : FormulaTree) (init mem frame whole : Heap) (cs : List ℕ) :
    Type 0 where
  pub is_heap : IsHeap whole
  pub parts : IsJoin whole mem frame
  pub words : All IsWord cs
  pub state : StateAt table e w R init mem
