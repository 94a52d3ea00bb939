-- A valuation in the shape of a context gives each entry a thing of its sort.
use Rattle.std.proofs.Common.{◌≡◌, ℕ, refl}
use Rattle.theory_values.specs.Heaps as values
use Rattle.theory_canonical.specs.Skeletons.{skeleton}
use Rattle.theory_canonical.specs.Contexts.{as_heap, Stands, here, there}
use Rattle.theory_typing.specs.Contexts.{Context}
use Rattle.theory_typing_canonical.specs.Environments.{standings}
use Rattle.theory_denotation.specs.Valuations.{den_mono, den_heap, Valuation, entry_at, heap_in}
use Rattle.theory_denotation.specs.Valued.{ContextValued}
use Rattle.theory_denotation.proofs.HeadsDenote.{valued_term, valued_other}
use Rattle.theory_denotation_shapes.specs.Shapes.{ContextShaped, shaped_none, shaped_mono, shaped_heap, shaped_term}

pub context_valued : {g : Context} {w : Valuation} → ContextShaped g w → ContextValued (standings g) w
context_valued shaped_none = record { at = λ n s d. elim d [ ] }
context_valued (shaped_mono {t = t} c k) = (valued_other (den_mono t) (context_valued k)).0
context_valued (shaped_heap {h = h} i k) = (valued_other (den_heap h) (context_valued k)).1
context_valued (shaped_term {ty = ty} {d = d} m k) = valued_term (skeleton ty) d (context_valued k)

-- the entry of a heap variable is a heap
pub heap_shaped_at : {g : Context} {w : Valuation} {n : ℕ}
    → ContextShaped g w
    → Stands (standings g) n as_heap
    → (entry_at w n ≡ den_heap (heap_in w n)) × values.IsHeap (heap_in w n)
heap_shaped_at shaped_none d = elim d [ ]
heap_shaped_at (shaped_mono c k) (there d) = heap_shaped_at k d
heap_shaped_at (shaped_heap i k) here = (refl, i)
heap_shaped_at (shaped_heap i k) (there d) = heap_shaped_at k d
heap_shaped_at (shaped_term m k) (there d) = heap_shaped_at k d
