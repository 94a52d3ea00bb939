-- A heap as an ordered table keeps it: at each key the block that the entry there stands for.
use Rattle.std.specs.Prelude.{ℕ, List, option_map, map}
use Rattle.std.specs.Ordering.{nat_cmp}
use Rattle.std.specs.Map.{lookup}
use Rattle.std.specs.BTreeMap.{is_at}
use Rattle.theory_values.specs.Heaps.{Heap, Block}

module _ {X : Type 0} (block : X → Block) where
  abbrev pub table_heap : List (ℕ × X) → Heap
  table_heap entries l = option_map block (lookup (is_at (nat_cmp l)) entries)

  -- the blocks in the order of the table
  abbrev pub table_listing : List (ℕ × X) → List (ℕ × Block)
  table_listing entries = map (λ e. (e.0, block e.1)) entries
