-- The meaning of types is kept by renaming and by substitution, is stable, and is closed under
-- recursion.
use Rattle.std.specs.Prelude.{◌≡◌, ◌↔◌, ℕ, List}
use Rattle.htt_syntax.specs.Trees.{MonoTree, TyTree, TermTree}
use Rattle.theory_renaming.specs.Renaming.{Map, rename_ty}
use Rattle.theory_values.specs.Values.{IsClosed}
use Rattle.theory_values.specs.Heaps.{Heap, IsHeap}
use Rattle.theory_truth.specs.Truth.{NotNot}
use Rattle.theory_truth.specs.Predicates.{RecTree, recs_of}
use Rattle.theory_canonical.specs.Skeletons.{Skeleton, skeleton}
use Rattle.theory_canonical.specs.Contexts.{Standing, Heads}
use Rattle.theory_canonical.specs.Canonical.{IsCanonicalTy}
use Rattle.theory_substitution.specs.Monotypes.{put_mono_ty}
use Rattle.theory_substitution.specs.Substitution.{SubTy}
use Rattle.theory_typing.specs.Contexts.{Context, HasEntryType, IsMonoEntry, IsHeapEntry, EndsInHoare}
use Rattle.theory_denotation.specs.Valuations.{Domain, den_mono, den_heap, den_term, Valuation, entry_at, HeadEntries}
use Rattle.theory_denotation.specs.Recursion.{entered, recursion}
use Rattle.theory_denotation.specs.Valued.{ContextValued}
use Rattle.theory_denotation_renaming.specs.Along.{AgreeAlong}
use Rattle.theory_denotation_renaming.specs.Laws.{MayFillIn}
use Rattle.theory_denotation_substitution.specs.Put.{MayPutIn}
use Rattle.theory_typing_canonical.specs.Environments.{standings}
use Rattle.theory_denotation_shapes.specs.Shapes.{InShape, ContextShaped}
use Rattle.theory_denotation_types.specs.Types.{Means, ContextMeans}

-- A renamed type, and one in which a term or a monotype is put for a variable, means what the type
-- means in the valuation that gives the variables so.
pub record TypesReindex : Type 0 where
  pub renamed : (table : List RecTree) (e : HeadEntries) {m : Map} {w w' : Valuation}
      → AgreeAlong m w w'
      → (ty : TyTree) (s : Skeleton) (d : Domain s)
      → Means (recs_of table) e w' (rename_ty m ty) s d ↔ Means (recs_of table) e w ty s d
  pub terms : (table : List RecTree) (heads : Heads) (e : HeadEntries) (new : TermTree) (s : Skeleton) (x : ℕ)
      (g whole : List Standing) (w w' : Valuation)
      → MayPutIn heads e new s x g whole w w'
      → (ty r : TyTree)
      → SubTy new s x ty r
      → IsCanonicalTy heads whole ty
      → (d : Domain (skeleton ty))
      → Means (recs_of table) e w r (skeleton ty) d ↔ Means (recs_of table) e w' ty (skeleton ty) d
  pub monotypes : (table : List RecTree) (heads : Heads) (e : HeadEntries) (mono : MonoTree) (x : ℕ)
      (g whole : List Standing) (w w' : Valuation)
      → MayFillIn heads e mono x g whole w w'
      → (ty : TyTree)
      → IsCanonicalTy heads whole ty
      → (d : Domain (skeleton ty))
      → Means (recs_of table) e w (put_mono_ty mono x ty) (skeleton ty) d
      ↔ Means (recs_of table) e w' ty (skeleton ty) d

-- The meaning of a type is stable under double negation.
abbrev pub MeaningIsStable : Type 0
MeaningIsStable =
    (table : List RecTree) (e : HeadEntries) (w : Valuation) (ty : TyTree) (s : Skeleton) (d : Domain s)
    → NotNot (Means (recs_of table) e w ty s d)
    → Means (recs_of table) e w ty s d

-- What is entered is of its type, and so is a recursion of what keeps the type. No bound on fuel is
-- needed: each turn is of the type.
pub record RecursionMeans : Type 0 where
  pub entering : (table : List RecTree) (e : HeadEntries) (w : Valuation) (ty : TyTree)
      → EndsInHoare ty
      → (d : Domain (skeleton ty))
      → Means (recs_of table) e w ty (skeleton ty) d
      → Means (recs_of table) e w ty (skeleton ty) (entered (skeleton ty) d)
  pub recursing : (table : List RecTree) (e : HeadEntries) (w : Valuation) (ty : TyTree)
      → EndsInHoare ty
      → (f : Domain (skeleton ty) → Domain (skeleton ty))
      → ((d : Domain (skeleton ty)) → Means (recs_of table) e w ty (skeleton ty) d →
      Means (recs_of table) e w ty (skeleton ty) (f d))
      → Means (recs_of table) e w ty (skeleton ty) (recursion (skeleton ty) f)

-- The entry of an index is a denotation of the type that is seen there.
pub record EntryMeans (table : List RecTree) (e : HeadEntries) (w : Valuation) (n : ℕ) (ty : TyTree) : Type 0 where
  pub of : Domain (skeleton ty)
  pub is : entry_at w n ≡ den_term (skeleton ty) of
  pub means : Means (recs_of table) e w ty (skeleton ty) of

pub record ContextsGive : Type 0 where
  pub monos : (table : List RecTree) (e : HeadEntries) {g : Context} {w : Valuation}
      → ContextMeans (recs_of table) e g w
      → (n : ℕ)
      → IsMonoEntry g n
      → (t : MonoTree) × (entry_at w n ≡ den_mono t) × IsClosed t
  pub heaps : (table : List RecTree) (e : HeadEntries) {g : Context} {w : Valuation}
      → ContextMeans (recs_of table) e g w
      → (n : ℕ)
      → IsHeapEntry g n
      → (h : Heap) × (entry_at w n ≡ den_heap h) × IsHeap h
  pub terms : (table : List RecTree) (e : HeadEntries) {g : Context} {w : Valuation}
      → ContextMeans (recs_of table) e g w
      → (n : ℕ) (ty : TyTree)
      → HasEntryType g n ty
      → EntryMeans table e w n ty
  pub valued : (table : List RecTree) (e : HeadEntries) {g : Context} {w : Valuation}
      → ContextMeans (recs_of table) e g w
      → ContextValued (standings g) w

-- What is of a type is in its shape.
pub record MeaningHasShape : Type 0 where
  pub types : (table : List RecTree) (e : HeadEntries) (w : Valuation) (ty : TyTree) (s : Skeleton) (d : Domain s)
      → Means (recs_of table) e w ty s d
      → InShape w ty s d
  pub contexts : (table : List RecTree) (e : HeadEntries) (g : Context) (w : Valuation)
      → ContextMeans (recs_of table) e g w
      → ContextShaped g w
