-- What the two variants say that is wrong.
use Rattle.std.specs.Prelude.{◌≡◌, [], ◌∷◌, List, Some}
use Rattle.htt_syntax.specs.Trees.{TripleTree, FormulaTree, m_word, m_unit, triple, t_word, t_loc, f_tt, f_emp, f_cell}
use Rattle.htt_syntax.specs.Trees.{f_same}
use Rattle.theory_values.specs.Values.{v_word, v_loc, v_unit}
use Rattle.theory_values.specs.Heaps.{Heap, IsSame, with_block, single_block}
use Rattle.theory_truth.specs.Worlds.{World, th_value, th_heap}
use Rattle.theory_truth.specs.Truth.{Holds}
use Rattle.theory_truth.specs.Predicates.{RecTree, recs_of}
use Rattle.theory_meaning.specs.Closures.{base, done}
use Rattle.theory_meaning.specs.Meaning.{set_result}
use Rattle.theory_states.specs.States.{move_set, move_run, after}
use Rattle.theory_examples.specs.Variants.{set_keeping, run_at_some}

-- place 5 holds 7, and 8
abbrev pub seven_at_five : Heap
seven_at_five = single_block 5 (7 ∷ [])

abbrev pub eight : Heap
eight = single_block 5 (8 ∷ [])

-- Cell[word](mem, place 5, 7)
abbrev pub holds_seven : FormulaTree
holds_seven = f_cell m_word 0 (t_loc 5) (t_word 7)

-- under the step's variable, a unit, and the heaps init and mem
abbrev pub after_step : Heap → Heap → World
after_step init mem = th_heap mem ∷ th_heap init ∷ th_value v_unit ∷ []

-- `_ <- set[word] (place 5) 8` from the heap with 7: the state is true of the heap with 8, and one that
-- keeps the old cell isn't
pub record SetForgets : Type 0 where
  pub runs : set_result (Some m_word) (base (v_loc 5)) (base (v_word 8)) seven_at_five []
      ≡ done (base v_unit) (with_block seven_at_five 5 (8 ∷ [])) []
  pub ends : IsSame (with_block seven_at_five 5 (8 ∷ [])) eight
  pub right : (table : List RecTree)
      → Holds (recs_of table) (after_step seven_at_five eight)
      (after (move_set m_word (t_loc 5) (t_word 8)) holds_seven)
  pub keeping : (table : List RecTree)
      → Holds (recs_of table) (after_step seven_at_five eight) (set_keeping m_word (t_loc 5) (t_word 8) holds_seven)
      → ⊥

-- {tt} x : unit {emp}: whatever the own part, nothing is left of it
abbrev pub clears : TripleTree
clears = triple f_tt m_unit (f_emp 0)

-- A run of this triple can't end in a heap with a block, since all of it may be the own part. The state says
-- so; one that speaks of some split would let it end with the block untouched.
pub record RunsAtEachSplit : Type 0 where
  pub each : (table : List RecTree)
      → Holds (recs_of table) (after_step seven_at_five seven_at_five) (after (move_run clears) (f_same 0 1))
      → ⊥
  pub some : (table : List RecTree)
      → Holds (recs_of table) (after_step seven_at_five seven_at_five) (run_at_some clears (f_same 0 1))
