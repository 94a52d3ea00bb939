-- A world of a context gives each variable a thing of its sort.
use Rattle.std.proofs.Common.{ℕ, suc, ◌∷◌, refl, sym, subst}
use Rattle.htt_syntax.specs.Trees.{MonoTree, TyTree, y_mono, y_fun, y_all, y_hoare, y_at}
use Rattle.theory_renaming.specs.Renaming.{rename_mono, rename_ty}
use Rattle.theory_values.specs.Values.{Value, HasType, IsClosed}
use Rattle.theory_values.specs.Heaps.{IsHeap}
use Rattle.theory_truth.specs.Worlds.{Thing, th_mono, th_value, th_heap, World, mono_at, value_at, heap_at, mono_under}
use Rattle.theory_truth.proofs.Renamed.{mono_renamed}
use Rattle.theory_typing.specs.Contexts.{Context, IsMonoEntry, mono_here, mono_there, IsHeapEntry, heap_here, heap_there, HasEntryType, type_here, type_there}
use Rattle.theory_typing.specs.Worlds.{IsWorldOf, world_none, world_mono, world_value, world_heap}
use Rattle.theory_typing.specs.Laws.{WorldsGive}

pub mono_given : {g : Context} {w : World} {n : ℕ} → IsWorldOf g w → IsMonoEntry g n → IsClosed (mono_at w n)
mono_given (world_mono closed q) mono_here = closed
mono_given (world_mono closed q) (mono_there i) = mono_given q i
mono_given (world_value typed q) (mono_there i) = mono_given q i
mono_given (world_heap is q) (mono_there i) = mono_given q i
mono_given world_none i = elim i [ ]

pub heap_given : {g : Context} {w : World} {n : ℕ} → IsWorldOf g w → IsHeapEntry g n → IsHeap (heap_at w n)
heap_given (world_heap is q) heap_here = is
heap_given (world_heap is q) (heap_there i) = heap_given q i
heap_given (world_mono closed q) (heap_there i) = heap_given q i
heap_given (world_value typed q) (heap_there i) = heap_given q i
heap_given world_none i = elim i [ ]

-- a value under one more thing
raised_type : (w : World) (v : Value) (x : Thing) (t : MonoTree) → HasType v (mono_under w t) → HasType v (mono_under (x ∷ w) (rename_mono suc t))
raised_type w v x t d = subst (HasType v) (sym (mono_renamed {m = suc} {w = w} {w' = x ∷ w} (record { at = λ n. refl }) t)) d

-- of a value at a type that is a monotype it is said that it has the monotype; at others nothing
abbrev ValueFits : World → Value → TyTree → Type 0
ValueFits w v (y_mono t) = HasType v (mono_under w t)
ValueFits w v _ = Unit {0}

raised_fits : (w : World) (v : Value) (x : Thing) (ty : TyTree) → ValueFits w v ty → ValueFits (x ∷ w) v (rename_ty suc ty)
unfolding rename_ty
raised_fits w v x (y_mono t) d = raised_type w v x t d
raised_fits w v x (y_fun argument answer) d = tt
raised_fits w v x (y_all body) d = tt
raised_fits w v x (y_hoare spec) d = tt
raised_fits w v x (y_at at ty) d = tt

value_fits : {g : Context} {w : World} {n : ℕ} {ty : TyTree} → IsWorldOf g w → HasEntryType g n ty → ValueFits w (value_at w n) ty
unfolding rename_ty
value_fits (world_value {w = w} {t = t} {v = v} typed q) type_here = raised_type w v (th_value v) t typed
value_fits (world_value {w = w} {v = v} typed q) (type_there {n = n} {ty = ty} i) = raised_fits w (value_at w n) (th_value v) ty (value_fits q i)
value_fits (world_mono {w = w} {t = t} closed q) (type_there {n = n} {ty = ty} i) = raised_fits w (value_at w n) (th_mono t) ty (value_fits q i)
value_fits (world_heap {w = w} {h = h} is q) (type_there {n = n} {ty = ty} i) = raised_fits w (value_at w n) (th_heap h) ty (value_fits q i)
value_fits world_none i = elim i [ ]

pub given : WorldsGive
given = record {
  monos = λ g w q n i. mono_given q i;
  heaps = λ g w q n i. heap_given q i;
  values = λ g w q n t i. value_fits q i;
}
