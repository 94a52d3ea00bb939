-- A valuation of a context gives each entry a thing of its sort, and of its type.
use Rattle.std.proofs.Common.{◌≡◌, ℕ, zero, suc, List, ◌∷◌, refl, sym, subst}
use Rattle.htt_syntax.specs.Trees.{MonoTree, TyTree}
use Rattle.theory_renaming.specs.Renaming.{rename_ty}
use Rattle.theory_values.specs.Values.{IsClosed}
use Rattle.theory_values.specs.Heaps.{Heap, IsHeap}
use Rattle.theory_truth.specs.Predicates.{RecTree, recs_of}
use Rattle.theory_canonical.specs.Skeletons.{Skeleton, skeleton}
use Rattle.theory_canonical.proofs.Renamed.{skeleton_stays}
use Rattle.theory_typing.specs.Contexts.{Context, IsMonoEntry, mono_here, mono_there, IsHeapEntry, heap_here, heap_there, HasEntryType, type_here, type_there}
use Rattle.theory_denotation.specs.Valuations.{Domain, ValuationEntry, den_mono, den_heap, den_term, Valuation, entry_at, HeadEntries}
use Rattle.theory_denotation.specs.Valued.{ContextValued}
use Rattle.theory_denotation.proofs.HeadsDenote.{valued_term, valued_other}
use Rattle.theory_denotation_renaming.proofs.Renamed.{agree_suc}
use Rattle.theory_denotation_types.specs.Types.{Means, ContextMeans, means_none, means_mono, means_heap, means_term}
use Rattle.theory_typing_canonical.specs.Environments.{standings}
use Rattle.theory_denotation_types.specs.Laws.{EntryMeans, ContextsGive}
use Rattle.theory_denotation_types.proofs.Reindexed.{means_renamed}

module _ (table : List RecTree) (e : HeadEntries) where
  mono_given : {g : Context} {w : Valuation}
      → ContextMeans (recs_of table) e g w
      → (n : ℕ)
      → IsMonoEntry g n
      → (t : MonoTree) × (entry_at w n ≡ den_mono t) × IsClosed t
  mono_given means_none n d = elim d [ ]
  mono_given (means_heap i m) zero d = elim d [ ]
  mono_given (means_term x m) zero d = elim d [ ]
  mono_given (means_mono {t = t} c m) zero mono_here = (t, refl, c)
  mono_given (means_mono c m) (suc n) (mono_there d) = mono_given m n d
  mono_given (means_heap i m) (suc n) (mono_there d) = mono_given m n d
  mono_given (means_term x m) (suc n) (mono_there d) = mono_given m n d

  heap_given : {g : Context} {w : Valuation}
      → ContextMeans (recs_of table) e g w
      → (n : ℕ)
      → IsHeapEntry g n
      → (h : Heap) × (entry_at w n ≡ den_heap h) × IsHeap h
  heap_given means_none n d = elim d [ ]
  heap_given (means_mono c m) zero d = elim d [ ]
  heap_given (means_term x m) zero d = elim d [ ]
  heap_given (means_heap {h = h} i m) zero heap_here = (h, refl, i)
  heap_given (means_mono c m) (suc n) (heap_there d) = heap_given m n d
  heap_given (means_heap i m) (suc n) (heap_there d) = heap_given m n d
  heap_given (means_term x m) (suc n) (heap_there d) = heap_given m n d

  -- the same denotation is of the renamed type, seen from one more entry
  seen_further : {w : Valuation} (x : ValuationEntry) (ty : TyTree) (d : Domain (skeleton ty))
      → Means (recs_of table) e w ty (skeleton ty) d
      → (n : ℕ)
      → entry_at (x ∷ w) n ≡ den_term (skeleton ty) d
      → EntryMeans table e (x ∷ w) n (rename_ty suc ty)
  seen_further {w = w} x ty d m n q =
      let all =
      subst
      (λ (s : Skeleton). (c : Domain s) × (entry_at (x ∷ w) n ≡ den_term s c) × Means (recs_of table) e (x ∷ w) (rename_ty suc ty) s c)
      (sym (skeleton_stays suc ty))
      (d, q, subst (λ (A : Type 0). A) (sym (means_renamed (recs_of table) e ty (agree_suc x w) (skeleton ty) d)) m) in
      record { of = all.0; is = all.1; means = all.2 }

  term_given : {g : Context} {w : Valuation} → ContextMeans (recs_of table) e g w → (n : ℕ) (ty : TyTree) → HasEntryType g n ty → EntryMeans table e w n ty
  term_given means_none n t d = elim d [ ]
  term_given (means_mono c m) zero t d = elim d [ ]
  term_given (means_heap i m) zero t d = elim d [ ]
  term_given (means_term {ty = ty} {d = d} x m) zero t type_here = seen_further (den_term (skeleton ty) d) ty d x zero refl
  term_given (means_mono {t = u} c m) (suc n) t (type_there {ty = ty} i) = let o = term_given m n ty i in seen_further (den_mono u) ty o.of o.means (suc n) o.is
  term_given (means_heap {h = h} c m) (suc n) t (type_there {ty = ty} i) = let o = term_given m n ty i in seen_further (den_heap h) ty o.of o.means (suc n) o.is
  term_given (means_term {ty = u} {d = d} x m) (suc n) t (type_there {ty = ty} i) =
      let o = term_given m n ty i in seen_further (den_term (skeleton u) d) ty o.of o.means (suc n) o.is

  pub context_valued : {g : Context} {w : Valuation} → ContextMeans (recs_of table) e g w → ContextValued (standings g) w
  context_valued means_none = record { at = λ n s d. elim d [ ] }
  context_valued (means_mono {t = t} c m) = (valued_other (den_mono t) (context_valued m)).0
  context_valued (means_heap {h = h} i m) = (valued_other (den_heap h) (context_valued m)).1
  context_valued (means_term {ty = ty} {d = d} x m) = valued_term (skeleton ty) d (context_valued m)

pub given : ContextsGive
given = record { monos = mono_given; heaps = heap_given; terms = term_given; valued = context_valued }
