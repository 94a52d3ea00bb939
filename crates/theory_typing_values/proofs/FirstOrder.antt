-- First-order contexts have monotypes alone as types.
use Rattle.std.proofs.Common.{◌≡◌, ℕ, suc, refl, ap}
use Rattle.htt_syntax.specs.Trees.{MonoTree, TyTree, y_mono}
use Rattle.theory_renaming.specs.Renaming.{rename_ty, rename_mono}
use Rattle.theory_typing.specs.Contexts.{Context, HasEntryType, type_here, type_there}
use Rattle.theory_typing_values.specs.FirstOrder.{IsFirstOrder, fo_none, fo_mono, fo_heap, fo_value}
use Rattle.theory_typing_values.specs.Laws.{FirstOrderContexts}

entry_is_mono : {g : Context} {n : ℕ} {ty : TyTree} → IsFirstOrder g → HasEntryType g n ty → (t : MonoTree) × (ty ≡ y_mono t)
unfolding rename_ty
entry_is_mono (fo_value {t = t} f p) type_here = (rename_mono suc t, refl)
entry_is_mono (fo_value f p) (type_there i) = let r = entry_is_mono p i in (rename_mono suc r.0, ap (rename_ty suc) r.1)
entry_is_mono (fo_mono p) (type_there i) = let r = entry_is_mono p i in (rename_mono suc r.0, ap (rename_ty suc) r.1)
entry_is_mono (fo_heap p) (type_there i) = let r = entry_is_mono p i in (rename_mono suc r.0, ap (rename_ty suc) r.1)
entry_is_mono fo_none i = elim i [ ]

pub contexts : FirstOrderContexts
contexts = record { types = λ g p n ty i. entry_is_mono p i }
