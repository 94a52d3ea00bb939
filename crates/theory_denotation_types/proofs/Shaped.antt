-- What is of a type is in its shape, and so is a valuation of a context.
use Rattle.std.specs.Prelude.{◌∷◌}
use Rattle.htt_syntax.specs.Trees.{TyTree, y_mono, y_fun, y_all, y_hoare, y_at}
use Rattle.theory_truth.specs.Truth.{Recs}
use Rattle.theory_truth.specs.Predicates.{recs_of}
use Rattle.theory_canonical.specs.Skeletons.{Skeleton, sk_o, sk_arrow, sk_all, skeleton}
use Rattle.theory_typing.specs.Contexts.{Context}
use Rattle.theory_denotation.specs.Valuations.{Domain, den_mono, Valuation, HeadEntries}
use Rattle.theory_denotation_shapes.specs.Shapes.{InShape, ContextShaped, shaped_none, shaped_mono, shaped_heap, shaped_term}
use Rattle.theory_denotation_types.specs.Types.{Means, ContextMeans, means_none, means_mono, means_heap, means_term}
use Rattle.theory_denotation_types.specs.Laws.{MeaningHasShape}

pub means_shaped : (R : Recs) (e : HeadEntries) (w : Valuation) (ty : TyTree) (s : Skeleton) (d : Domain s) → Means R e w ty s d → InShape w ty s d
unfolding Means InShape
means_shaped R e w (y_mono mono) sk_o d m = m
means_shaped R e w (y_fun argument answer) (sk_arrow s t) d m = m.0
means_shaped R e w (y_all body) (sk_all s) d m = λ t c. means_shaped R e (den_mono t ∷ w) body s (d t) (m t c)
means_shaped R e w (y_at at ty) s d m = means_shaped R e w ty s d m
means_shaped R e w (y_hoare spec) s d m = tt
means_shaped R e w _ s d m = absurd m

pub context_shaped : (R : Recs) (e : HeadEntries) {g : Context} {w : Valuation} → ContextMeans R e g w → ContextShaped g w
context_shaped R e means_none = shaped_none
context_shaped R e (means_mono c k) = shaped_mono c (context_shaped R e k)
context_shaped R e (means_heap i k) = shaped_heap i (context_shaped R e k)
context_shaped R e (means_term {w = w} {ty = ty} {d = d} m k) = shaped_term (means_shaped R e w ty (skeleton ty) d m) (context_shaped R e k)

pub has_shape : MeaningHasShape
has_shape = record {
  types = λ table e w ty s d m. means_shaped (recs_of table) e w ty s d m;
  contexts = λ table e g w k. context_shaped (recs_of table) e k;
}
