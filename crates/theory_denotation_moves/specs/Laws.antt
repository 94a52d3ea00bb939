-- The states of a computation are sound: where a run stands in a state and what is owed is true there,
-- the step never goes wrong, and where it ends the run stands in the next state beside the same frame.
use Rattle.std.specs.Prelude.{◌≡◌, ℕ, List, ◌∷◌, Bool}
use Rattle.htt_syntax.specs.Trees.{MonoTree, TripleTree, TermTree, FormulaTree, m_loc, m_unit, s_alloc, s_get, s_set}
use Rattle.htt_syntax.specs.Trees.{s_free}
use Rattle.theory_values.specs.Values.{v_bool, v_unit, HasType}
use Rattle.theory_values.specs.Heaps.{Heap}
use Rattle.theory_truth.specs.Predicates.{RecTree, recs_of}
use Rattle.theory_canonical.specs.Skeletons.{sk_o}
use Rattle.theory_states.specs.States.{move_alloc, move_get, move_set, move_free, move_run, move_claim, start, owed}
use Rattle.theory_states.specs.States.{after, branch}
use Rattle.theory_denotation.specs.Outcomes.{Running}
use Rattle.theory_denotation.specs.Valuations.{den_heap, Valuation, mono_in, HeadEntries}
use Rattle.theory_denotation.specs.Denotation.{term_den, step_den}
use Rattle.theory_denotation.specs.Satisfaction.{Satisfies, PreAt, PostAt, answer_mono}
use Rattle.theory_denotation_types.specs.Meeting.{EndsWell, Meets}
use Rattle.theory_denotation_moves.specs.States.{StateAt, NextState, OwedAt, InState}

pub record MovesAreSound : Type 0 where
  pub alloc : (table : List RecTree) (e : HeadEntries) (w : Valuation) (t : MonoTree) (N : TermTree) (R : FormulaTree)
      (n : ℕ) (init mem frame whole : Heap) (cs : List ℕ)
      → InState table e w R init mem frame whole cs
      → HasType (term_den e w N sk_o) (mono_in w t)
      → EndsWell m_loc (NextState table e w (after (move_alloc t N) R)) init frame
      (step_den e w (s_alloc t N) n whole cs)
  pub get : (table : List RecTree) (e : HeadEntries) (w : Valuation) (t : MonoTree) (M : TermTree) (R : FormulaTree)
      (n : ℕ) (init mem frame whole : Heap) (cs : List ℕ)
      → InState table e w R init mem frame whole cs
      → HasType (term_den e w M sk_o) m_loc
      → OwedAt table e w (owed (move_get t M) R) init mem
      → EndsWell (mono_in w t) (NextState table e w (after (move_get t M) R)) init frame
      (step_den e w (s_get t M) n whole cs)
  pub set : (table : List RecTree) (e : HeadEntries) (w : Valuation) (t : MonoTree) (M N : TermTree) (R : FormulaTree)
      (n : ℕ) (init mem frame whole : Heap) (cs : List ℕ)
      → InState table e w R init mem frame whole cs
      → HasType (term_den e w M sk_o) m_loc
      → HasType (term_den e w N sk_o) (mono_in w t)
      → OwedAt table e w (owed (move_set t M N) R) init mem
      → EndsWell m_unit (NextState table e w (after (move_set t M N) R)) init frame
      (step_den e w (s_set t M N) n whole cs)
  pub free : (table : List RecTree) (e : HeadEntries) (w : Valuation) (t : MonoTree) (M : TermTree) (R : FormulaTree)
      (n : ℕ) (init mem frame whole : Heap) (cs : List ℕ)
      → InState table e w R init mem frame whole cs
      → HasType (term_den e w M sk_o) m_loc
      → OwedAt table e w (owed (move_free t M) R) init mem
      → EndsWell m_unit (NextState table e w (after (move_free t M) R)) init frame
      (step_den e w (s_free t M) n whole cs)
  -- a computation that meets its triple is run, at every split of the own part
  pub run : (table : List RecTree) (e : HeadEntries) (w : Valuation) (spec : TripleTree) (f : Running) (R : FormulaTree)
      (n : ℕ) (init mem frame whole : Heap) (cs : List ℕ)
      → InState table e w R init mem frame whole cs
      → Meets (PreAt (recs_of table) e w spec) (answer_mono w spec) (PostAt (recs_of table) e w spec) f
      → OwedAt table e w (owed (move_run spec) R) init mem
      → EndsWell (answer_mono w spec) (NextState table e w (after (move_run spec) R)) init frame (f n whole cs)
  -- a claim that is owed is the next state
  pub claim : (table : List RecTree) (e : HeadEntries) (w : Valuation) (F R : FormulaTree) (init mem : Heap)
      → StateAt table e w R init mem
      → OwedAt table e w (owed (move_claim F) R) init mem
      → NextState table e w (after (move_claim F) R) v_unit init mem
  -- a branch starts where the test has its value
  pub branching : (table : List RecTree) (e : HeadEntries) (w : Valuation) (M : TermTree) (R : FormulaTree)
      (side : Bool) (init mem : Heap)
      → StateAt table e w R init mem
      → term_den e w M sk_o ≡ v_bool side
      → StateAt table e w (branch R M side) init mem
  -- a body starts where its precondition is true
  pub starting : (table : List RecTree) (e : HeadEntries) (w : Valuation) (P : FormulaTree) (mem : Heap)
      → Satisfies (recs_of table) e (den_heap mem ∷ w) P
      → StateAt table e w (start P) mem mem
