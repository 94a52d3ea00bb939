-- Substitution in a type leaves its skeleton as it was.
use Rattle.std.proofs.Common.{◌≡◌, ℕ, refl}
use Rattle.htt_syntax.specs.Trees.{TyTree, TermTree, y_mono, y_fun, y_all, y_hoare, y_at}
use Rattle.theory_renaming.specs.Renaming.{Map, lift}
use Rattle.theory_canonical.specs.Skeletons.{Skeleton, sk_arrow, sk_all, skeleton}
use Rattle.theory_substitution.specs.Monotypes.{Filling, next_filling, fill_ty}
use Rattle.theory_substitution.specs.Substitution.{SubTy, u_y_mono, u_y_fun, u_y_all, u_y_hoare}

pub skeleton_kept : {new : TermTree} {s : Skeleton} {x : ℕ} {ty r : TyTree} → SubTy new s x ty r → skeleton r ≡ skeleton ty
unfolding skeleton
skeleton_kept u_y_mono = refl
skeleton_kept (u_y_fun d e) = λ j. sk_arrow (skeleton_kept d j) (skeleton_kept e j)
skeleton_kept (u_y_all d) = λ j. sk_all (skeleton_kept d j)
skeleton_kept (u_y_hoare d) = refl

pub skeleton_filled : (f : Filling) (m : Map) (ty : TyTree) → skeleton (fill_ty f m ty) ≡ skeleton ty
unfolding skeleton fill_ty
skeleton_filled f m (y_mono mono) = refl
skeleton_filled f m (y_fun argument answer) = λ j. sk_arrow (skeleton_filled f m argument j) (skeleton_filled (next_filling f) (lift m) answer j)
skeleton_filled f m (y_all body) = λ j. sk_all (skeleton_filled (next_filling f) (lift m) body j)
skeleton_filled f m (y_hoare spec) = refl
skeleton_filled f m (y_at at ty) = skeleton_filled f m ty
