-- A heap put for the innermost variable is reindexing of the world.
use Rattle.std.proofs.Common.{◌≡◌, ℕ, zero, suc, ◌∷◌, refl}
use Rattle.theory_values.specs.Heaps.{Heap}
use Rattle.theory_truth.specs.Worlds.{World, th_heap, thing_at}
use Rattle.theory_truth.specs.Predicates.{recs_of}
use Rattle.theory_truth.specs.Laws.{Agrees}
use Rattle.theory_truth.proofs.Renamed.{truth_renamed, both_ways}
use Rattle.theory_logic_rules.specs.Sequents.{putting}
use Rattle.theory_logic_substitution.specs.Laws.{HeapsReindex}

pub agrees_putting : (w : World) (heap : ℕ) (h : Heap) → thing_at w heap ≡ th_heap h → Agrees (putting heap) (th_heap h ∷ w) w
unfolding putting
agrees_putting w heap h e = record { at = go }
  where
    go : (n : ℕ) → thing_at w (putting heap n) ≡ thing_at (th_heap h ∷ w) n
    go zero = e
    go (suc n) = refl

pub heaps : HeapsReindex
heaps table w heap h e F = both_ways (truth_renamed (recs_of table) F (agrees_putting w heap h e))
