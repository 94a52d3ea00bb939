-- What is closed is realised in every valuation, the heads of items are valued, and phrases that are the
-- same but for positions are realised by the same.
use Rattle.std.proofs.Common.{◌≡◌, ℕ, [], refl, sym, ap, ◌∙◌, subst}
use Rattle.htt_syntax.specs.Trees.{TyTree}
use Rattle.theory_meaning.specs.Closures.{RunValue, Items}
use Rattle.theory_canonical.specs.Skeletons.{Skeleton, skeleton}
use Rattle.theory_canonical.specs.Contexts.{Heads}
use Rattle.theory_canonical.specs.Canonical.{IsCanonicalTy}
use Rattle.theory_typing.specs.Contexts.{Environment}
use Rattle.theory_typing.specs.Positions.{plain_ty}
use Rattle.theory_typing_canonical.specs.Environments.{heads_of}
use Rattle.theory_denotation.specs.Valuations.{Domain, Valuation, HeadEntries}
use Rattle.theory_denotation.specs.Valued.{IsOf, HeadsValued}
use Rattle.theory_denotation_moves.proofs.Agreeing.{into, out_of}
use Rattle.theory_denotation_positions.proofs.Plain.{plain_skeleton}
use Rattle.theory_typing_sound.proofs.Closed.{nothing_valued, nothing_along, ty_same, type_at}
use Rattle.theory_adequacy.specs.Adequacy.{Realises, ValRealises, ItemsRealise}
use Rattle.theory_adequacy.proofs.Reindexed.{realises_filled, realises_plain}

module _ (items : Items) where
  pub closed_realises : {heads : Heads} {e : HeadEntries} (ty : TyTree) (w : Valuation)
      → HeadsValued heads e
      → IsCanonicalTy heads [] ty
      → (u : RunValue) (d : Domain (skeleton ty))
      → Realises items [] ty (skeleton ty) u d
      → Realises items w ty (skeleton ty) u d
  closed_realises ty w h c u d m =
      subst (λ t. Realises items w t (skeleton ty) u d) (ty_same c)
      (into (realises_filled items ty h c (nothing_along w) nothing_valued (skeleton ty) refl u d) m)

  pub same_realises : (w : Valuation) (ty v : TyTree) (u : RunValue) (f : (s : Skeleton) → Domain s)
      → plain_ty ty ≡ plain_ty v
      → Realises items w ty (skeleton ty) u (f (skeleton ty))
      → Realises items w v (skeleton v) u (f (skeleton v))
  same_realises w ty v u f q m =
      let there : skeleton ty ≡ skeleton v = sym (plain_skeleton ty) ∙ ap skeleton q ∙ plain_skeleton v in
      let plain = into (realises_plain items ty w (skeleton ty) u (f (skeleton ty))) m in
      let other = subst (λ t. Realises items w t (skeleton ty) u (f (skeleton ty))) q plain in
      let back = out_of (realises_plain items v w (skeleton ty) u (f (skeleton ty))) other in
      subst (λ s. Realises items w v s u (f s)) there back

val_is_of : {items : Items} {e : HeadEntries} {n : ℕ} {ty : TyTree} {s : Skeleton} → ValRealises items e n ty → skeleton ty ≡ s → IsOf s (e.vals n)
val_is_of {e = e} {n = n} v q = subst (λ u. IsOf u (e.vals n)) q (record { of = v.of; is = v.is })

pub items_valued : {items : Items} {env : Environment} {e : HeadEntries} → ItemsRealise items env e → HeadsValued (heads_of env) e
items_valued {env = env} m =
    record { vals = λ n s d. let o = type_at env.vals n s d in val_is_of (m.vals n o.ty o.found) o.is; made = λ n s values d. elim d [ ] }
