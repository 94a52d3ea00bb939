-- What canonical types mean in a valuation: a denotation at the type's skeleton is of the type. A
-- value is of its monotype; a function is in the shape of its type, and gives for each denotation of
-- the argument's type one of the answer's type, where the argument is valued so; a computation meets
-- its triple. So what is of a type is in its shape.
use Rattle.std.specs.Prelude.{[], ◌∷◌}
use Rattle.htt_syntax.specs.Trees.{MonoTree, TyTree, y_mono, y_fun, y_all, y_hoare, y_at}
use Rattle.theory_values.specs.Values.{HasType, IsClosed}
use Rattle.theory_values.specs.Heaps.{Heap, IsHeap}
use Rattle.theory_truth.specs.Truth.{Recs}
use Rattle.theory_canonical.specs.Skeletons.{Skeleton, sk_o, sk_c, sk_arrow, sk_all, skeleton}
use Rattle.theory_typing.specs.Contexts.{Context, en_mono, en_heap, en_term}
use Rattle.theory_denotation.specs.Valuations.{Domain, den_mono, den_heap, den_term, Valuation, mono_in, HeadEntries}
use Rattle.theory_denotation.specs.Satisfaction.{PreAt, PostAt, answer_mono}
use Rattle.theory_denotation_shapes.specs.Shapes.{InShape}
use Rattle.theory_denotation_types.specs.Meeting.{Meets}

-- At another skeleton than its own a type has no denotation.
unfoldable pub Means : Recs → HeadEntries → Valuation → TyTree → (s : Skeleton) → Domain s → Type 0
Means R e w (y_mono mono) sk_o v = HasType v (mono_in w mono)
Means R e w (y_fun argument answer) (sk_arrow s t) f =
    InShape w (y_fun argument answer) (sk_arrow s t) f
    × ((d : Domain s) → Means R e w argument s d → Means R e (den_term s d ∷ w) answer t (f d))
Means R e w (y_all body) (sk_all s) f = (t : MonoTree) → IsClosed t → Means R e (den_mono t ∷ w) body s (f t)
Means R e w (y_hoare spec) sk_c f = Meets (PreAt R e w spec) (answer_mono w spec) (PostAt R e w spec) f
Means R e w (y_at at ty) s d = Means R e w ty s d
Means R e w _ s d = ⊥

-- A valuation of a context: closed monotypes, denotations of the types, and heaps.
pub data ContextMeans (R : Recs) (e : HeadEntries) : Context → Valuation → Type 0 where
  means_none : ContextMeans R e [] []
  means_mono : {g : Context} {w : Valuation} {t : MonoTree}
      → IsClosed t
      → ContextMeans R e g w
      → ContextMeans R e (en_mono ∷ g) (den_mono t ∷ w)
  means_heap : {g : Context} {w : Valuation} {h : Heap}
      → IsHeap h
      → ContextMeans R e g w
      → ContextMeans R e (en_heap ∷ g) (den_heap h ∷ w)
  means_term : {g : Context} {w : Valuation} {ty : TyTree} {d : Domain (skeleton ty)}
      → Means R e w ty (skeleton ty) d
      → ContextMeans R e g w
      → ContextMeans R e (en_term ty ∷ g) (den_term (skeleton ty) d ∷ w)
