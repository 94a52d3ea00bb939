-- Shapes are kept by renaming and by substitution.
use Rattle.std.specs.Prelude.{◌↔◌, ℕ, List}
use Rattle.htt_syntax.specs.Trees.{MonoTree, TyTree, TermTree}
use Rattle.theory_renaming.specs.Renaming.{Map, rename_ty}
use Rattle.theory_canonical.specs.Skeletons.{Skeleton, skeleton}
use Rattle.theory_canonical.specs.Contexts.{Standing, Heads}
use Rattle.theory_canonical.specs.Canonical.{IsCanonicalTy}
use Rattle.theory_substitution.specs.Monotypes.{put_mono_ty}
use Rattle.theory_substitution.specs.Substitution.{SubTy}
use Rattle.theory_typing.specs.Contexts.{EndsInHoare}
use Rattle.theory_typing.specs.Positions.{plain_ty}
use Rattle.theory_denotation.specs.Valuations.{Domain, Valuation, HeadEntries}
use Rattle.theory_denotation_renaming.specs.Along.{AgreeAlong}
use Rattle.theory_denotation_renaming.specs.Laws.{MayFillIn}
use Rattle.theory_denotation_substitution.specs.Put.{MayPutIn}
use Rattle.theory_denotation_shapes.specs.Shapes.{InShape}

pub record ShapesReindex : Type 0 where
  pub renamed : {m : Map} {w w' : Valuation}
      → AgreeAlong m w w'
      → (ty : TyTree) (s : Skeleton) (d : Domain s)
      → InShape w' (rename_ty m ty) s d ↔ InShape w ty s d
  pub terms : (heads : Heads) (e : HeadEntries) (new : TermTree) (s : Skeleton) (x : ℕ) (g whole : List Standing)
      (w w' : Valuation)
      → MayPutIn heads e new s x g whole w w'
      → (ty r : TyTree)
      → SubTy new s x ty r
      → IsCanonicalTy heads whole ty
      → (d : Domain (skeleton ty))
      → InShape w r (skeleton ty) d ↔ InShape w' ty (skeleton ty) d
  pub monotypes : (heads : Heads) (e : HeadEntries) (mono : MonoTree) (x : ℕ) (g whole : List Standing)
      (w w' : Valuation)
      → MayFillIn heads e mono x g whole w w'
      → (ty : TyTree)
      → IsCanonicalTy heads whole ty
      → (d : Domain (skeleton ty))
      → InShape w (put_mono_ty mono x ty) (skeleton ty) d ↔ InShape w' ty (skeleton ty) d
  pub positions : (w : Valuation) (ty : TyTree) (s : Skeleton) (d : Domain s)
      → InShape w (plain_ty ty) s d ↔ InShape w ty s d
  -- of what ends in a computation nothing is said
  pub ending : (w : Valuation) (ty : TyTree) → EndsInHoare ty → (s : Skeleton) (d : Domain s) → InShape w ty s d
