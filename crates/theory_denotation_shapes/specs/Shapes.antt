-- Denotations in the shape of a type: what is left of its meaning when its formulas are forgotten. A
-- value is of its monotype; a function gives for each denotation in the argument's shape one in the
-- answer's; of a computation nothing is said, nor of a denotation at another skeleton than the type's.
use Rattle.std.specs.Prelude.{[], ◌∷◌}
use Rattle.htt_syntax.specs.Trees.{MonoTree, TyTree, y_mono, y_fun, y_all, y_at}
use Rattle.theory_values.specs.Values.{HasType, IsClosed}
use Rattle.theory_values.specs.Heaps.{Heap, IsHeap}
use Rattle.theory_canonical.specs.Skeletons.{Skeleton, sk_o, sk_arrow, sk_all, skeleton}
use Rattle.theory_typing.specs.Contexts.{Context, en_mono, en_heap, en_term}
use Rattle.theory_denotation.specs.Valuations.{Domain, den_mono, den_heap, den_term, Valuation, mono_in}

unfoldable pub InShape : Valuation → TyTree → (s : Skeleton) → Domain s → Type 0
InShape w (y_mono mono) sk_o v = HasType v (mono_in w mono)
InShape w (y_fun argument answer) (sk_arrow s t) f =
    (d : Domain s) → InShape w argument s d → InShape (den_term s d ∷ w) answer t (f d)
InShape w (y_all body) (sk_all s) f = (t : MonoTree) → IsClosed t → InShape (den_mono t ∷ w) body s (f t)
InShape w (y_at at ty) s d = InShape w ty s d
InShape w _ s d = Unit {0}

-- A valuation of a context: closed monotypes, denotations in the shapes of the types, and heaps.
pub data ContextShaped : Context → Valuation → Type 0 where
  shaped_none : ContextShaped [] []
  shaped_mono : {g : Context} {w : Valuation} {t : MonoTree}
      → IsClosed t
      → ContextShaped g w
      → ContextShaped (en_mono ∷ g) (den_mono t ∷ w)
  shaped_heap : {g : Context} {w : Valuation} {h : Heap}
      → IsHeap h
      → ContextShaped g w
      → ContextShaped (en_heap ∷ g) (den_heap h ∷ w)
  shaped_term : {g : Context} {w : Valuation} {ty : TyTree} {d : Domain (skeleton ty)}
      → InShape w ty (skeleton ty) d
      → ContextShaped g w
      → ContextShaped (en_term ty ∷ g) (den_term (skeleton ty) d ∷ w)
