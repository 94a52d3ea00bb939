-- The laws of truth.
use Rattle.std.specs.Prelude.{◌≡◌, ◌↔◌, ℕ, zero, suc, List, length, Some, slice_get, ◌∷◌}
use Rattle.htt_syntax.specs.Trees.{MonoTree, TermTree, FormulaTree, f_ff, f_and, f_or, f_imp, f_ex_h, f_emp, f_cell}
use Rattle.htt_syntax.specs.Trees.{f_block, f_join}
use Rattle.theory_renaming.specs.Renaming.{Map, rename_mono, rename_term, rename_formula}
use Rattle.theory_values.specs.Values.{Value, HasType, encoding, width}
use Rattle.theory_values.specs.Heaps.{Block, Heap, InUse, IsHeap, IsJoin, IsSame, single_block}
use Rattle.theory_truth.specs.Worlds.{World, thing_at, th_heap, heap_at, mono_under}
use Rattle.theory_truth.specs.TermValue.{term_value, loc_of}
use Rattle.theory_truth.specs.Truth.{NotNot, Recs, Holds}
use Rattle.theory_truth.specs.Predicates.{RecTree, recs_of, zero_world, next_world}
use Rattle.theory_truth.specs.Atoms.{IsFoundedTable}

-- What a table of predicates says is stable, and where that is so truth is stable under double
-- negation, so that the excluded middle holds.
pub record TruthIsClassical : Type 0 where
  pub tables : (table : List RecTree) (p j : ℕ) (vs : List Value) (h : Heap)
      → NotNot (recs_of table p j vs h)
      → recs_of table p j vs h
  pub stable : (table : List RecTree) (w : World) (F : FormulaTree)
      → NotNot (Holds (recs_of table) w F)
      → Holds (recs_of table) w F
  pub excluded_middle : (table : List RecTree) (w : World) (F : FormulaTree)
      → Holds (recs_of table) w (f_or F (f_imp F f_ff))

-- Each thing of w stands in w' where the map sends its index.
pub record Agrees (m : Map) (w w' : World) : Type 0 where
  pub at : (n : ℕ) → thing_at w' (m n) ≡ thing_at w n

-- What is renamed means in the one world what it meant in the other.
pub record RenamingKeepsTruth : Type 0 where
  pub monos : {m : Map} {w w' : World}
      → Agrees m w w'
      → (t : MonoTree)
      → mono_under w' (rename_mono m t) ≡ mono_under w t
  pub values : {m : Map} {w w' : World}
      → Agrees m w w'
      → (M : TermTree)
      → term_value w' (rename_term m M) ≡ term_value w M
  pub truths : (table : List RecTree) {m : Map} {w w' : World}
      → Agrees m w w'
      → (F : FormulaTree)
      → Holds (recs_of table) w' (rename_formula m F) ↔ Holds (recs_of table) w F

-- The formula that a star of two formulas at a heap stands for; each is under both parts.
abbrev pub star : ℕ → FormulaTree → FormulaTree → FormulaTree
star h F G = f_ex_h (f_ex_h (f_and (f_join (suc (suc h)) 1 0) (f_and F G)))

-- Two disjoint parts of a heap, of which the one makes F true and the other G.
pub record Split (R : Recs) (w : World) (h : Heap) (F G : FormulaTree) : Type 0 where
  pub left : Heap
  pub right : Heap
  pub left_is_heap : IsHeap left
  pub right_is_heap : IsHeap right
  pub parts : IsJoin h left right
  pub in_left : Holds R (th_heap right ∷ th_heap left ∷ w) F
  pub in_right : Holds R (th_heap right ∷ th_heap left ∷ w) G

pub record StarIsSplit : Type 0 where
  pub star_is_split : (table : List RecTree) (w : World) (h : ℕ) (F G : FormulaTree)
      → Holds (recs_of table) w (star h F G) ↔ NotNot (Split (recs_of table) w (heap_at w h) F G)

-- A predicate of a founded table says at 0 what its first body says, and at j + 1 what its second
-- body says with the index variable at j, with the whole table's predicates in both.
pub record PredicatesUnfold : Type 0 where
  pub at_zero : (table : List RecTree)
      → IsFoundedTable table
      → (p : ℕ) (r : RecTree)
      → slice_get table p ≡ Some r
      → (vs : List Value) (h : Heap)
      → recs_of table p zero vs h ↔ Holds (recs_of table) (zero_world vs h) r.at_zero
  pub at_next : (table : List RecTree)
      → IsFoundedTable table
      → (p : ℕ) (r : RecTree)
      → slice_get table p ≡ Some r
      → (j : ℕ) (vs : List Value)
      → length vs ≡ length r.params
      → (h : Heap)
      → recs_of table p (suc j) vs h ↔ Holds (recs_of table) (next_world j vs h) r.at_next

-- The formulas of one heap, in other words: no location is in use; the heap is a single block, which
-- holds the value; the heap is a single block of the width. A cell is a block.
pub record HeapFormulas : Type 0 where
  pub emp_is_unused : (table : List RecTree) (w : World) (h : ℕ)
      → Holds (recs_of table) w (f_emp h) ↔ ((l : ℕ) → InUse (heap_at w h) l → ⊥)
  pub cell_is_single : (table : List RecTree) (w : World) (t : MonoTree) (h : ℕ) (M N : TermTree)
      → Holds (recs_of table) w (f_cell t h M N)
      ↔ IsSame (heap_at w h) (single_block (loc_of (term_value w M)) (encoding (term_value w N)))
  pub block_is_single : (table : List RecTree) (w : World) (t : MonoTree) (h : ℕ) (M : TermTree)
      → Holds (recs_of table) w (f_block t h M)
      ↔ ((b : Block)
      × (length b ≡ width (mono_under w t))
      × IsSame (heap_at w h) (single_block (loc_of (term_value w M)) b))
  pub cell_is_block : (table : List RecTree) (w : World) (t : MonoTree) (h : ℕ) (M N : TermTree)
      → HasType (term_value w N) (mono_under w t)
      → Holds (recs_of table) w (f_cell t h M N)
      → Holds (recs_of table) w (f_block t h M)
