-- The steps on a heap touch their own part alone: whatever the frame beside it is, it is left as it
-- was. The own part is that of the least heap that the step needs.
use Rattle.std.specs.Prelude.{◌≡◌, ℕ, List, length, All}
use Rattle.htt_syntax.specs.Trees.{MonoTree}
use Rattle.theory_values.specs.Values.{Value, v_loc, v_unit, IsWord, HasType, encoding, width}
use Rattle.theory_values.specs.Heaps.{Block, Heap, IsHeap, IsOnly, IsJoin, single_block, with_block, without_block}
use Rattle.theory_denotation.specs.Outcomes.{Outcome, ended, out_of_fuel, asking, wrong, alloc_outcome, get_outcome}
use Rattle.theory_denotation.specs.Outcomes.{set_outcome, free_outcome}

-- A place was given, beside which the own part is as it was.
pub record Allocated (v : Value) (before frame : Heap) (u : Value) (whole : Heap) : Type 0 where
  pub place : ℕ
  pub is_place : u ≡ v_loc place
  pub is_word : IsWord place
  pub own : Heap
  pub parts : IsJoin whole own frame
  pub is_heap : IsHeap whole
  pub adds : IsJoin own before (single_block place (encoding v))
  pub block_is_heap : IsHeap (single_block place (encoding v))

abbrev pub Allocates : Value → Heap → Heap → Outcome → Type 0
Allocates v before frame (ended u whole rest) = Allocated v before frame u whole × All IsWord rest
Allocates v before frame out_of_fuel = ⊥
Allocates v before frame asking = Unit {0}
Allocates v before frame wrong = ⊥

-- The block at a place was replaced: k is what else is the own part.
pub record Replaced (l : ℕ) (b : Block) (k frame whole : Heap) : Type 0 where
  pub own : Heap
  pub parts : IsJoin whole own frame
  pub is_heap : IsHeap whole
  pub has : IsJoin own (single_block l b) k
  pub block_is_heap : IsHeap (single_block l b)

pub record StepsAreLocal : Type 0 where
  -- an allocation asks, or it adds a block to the own part
  pub alloc : (t : MonoTree) (v : Value) (whole before frame : Heap) (cs : List ℕ)
      → IsHeap whole
      → IsJoin whole before frame
      → All IsWord cs
      → HasType v t
      → Allocates v before frame (alloc_outcome v whole cs)
  -- where a part of the own part is the block that holds a value, reading gives it
  pub get : (t : MonoTree) (v : Value) (l : ℕ) (whole own frame g k : Heap) (cs : List ℕ)
      → IsJoin whole own frame
      → IsJoin own g k
      → IsOnly g l (encoding v)
      → HasType v t
      → get_outcome t (v_loc l) whole cs ≡ ended v whole cs
  -- where a part of the own part is a block as wide, writing replaces it
  pub set : (t : MonoTree) (v : Value) (l : ℕ) (b : Block) (whole own frame g k : Heap) (cs : List ℕ)
      → IsHeap whole
      → IsJoin whole own frame
      → IsJoin own g k
      → IsOnly g l b
      → length b ≡ width t
      → HasType v t
      → (set_outcome t (v_loc l) v whole cs ≡ ended v_unit (with_block whole l (encoding v)) cs)
      × Replaced l (encoding v) k frame (with_block whole l (encoding v))
  -- and releasing it leaves the rest of the own part
  pub free : (t : MonoTree) (l : ℕ) (b : Block) (whole own frame g k : Heap) (cs : List ℕ)
      → IsHeap whole
      → IsJoin whole own frame
      → IsJoin own g k
      → IsOnly g l b
      → length b ≡ width t
      → (free_outcome t (v_loc l) whole cs ≡ ended v_unit (without_block whole l) cs)
      × IsJoin (without_block whole l) k frame
      × IsHeap (without_block whole l)
