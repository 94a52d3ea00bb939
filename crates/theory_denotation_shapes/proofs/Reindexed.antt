-- Renaming and substitution in a type are reindexing of the valuation for its shape too.
use Rattle.std.proofs.Common.{◌≡◌, ℕ, List, ◌∷◌, refl, sym, ◌∙◌, subst}
use Rattle.htt_syntax.specs.Trees.{MonoTree, TyTree, TermTree, y_mono, y_fun, y_all, y_hoare, y_at}
use Rattle.theory_renaming.specs.Renaming.{Map, rename_ty}
use Rattle.theory_values.specs.Values.{HasType, IsClosed}
use Rattle.theory_truth.proofs.Renamed.{both_ways}
use Rattle.theory_canonical.specs.Skeletons.{Skeleton, sk_o, sk_c, sk_arrow, sk_all, skeleton}
use Rattle.theory_canonical.specs.Contexts.{Standing, as_mono, as_term, Heads}
use Rattle.theory_canonical.specs.Canonical.{IsCanonicalTy, n_mono, n_fun, n_all}
use Rattle.theory_substitution.specs.Monotypes.{Filling, fill_ty}
use Rattle.theory_substitution.specs.Substitution.{SubTy, u_y_mono, u_y_fun, u_y_all, u_y_hoare}
use Rattle.theory_typing.specs.Contexts.{EndsInHoare}
use Rattle.theory_typing.specs.Positions.{plain_ty}
use Rattle.theory_denotation.specs.Valuations.{Domain, den_mono, den_term, Valuation, HeadEntries}
use Rattle.theory_denotation.specs.Valued.{ContextValued, HeadsValued}
use Rattle.theory_denotation.proofs.HeadsDenote.{valued_term, valued_other}
use Rattle.theory_denotation_renaming.specs.Along.{AgreeAlong, FillAlong}
use Rattle.theory_denotation_renaming.proofs.Renamed.{agree_next, mono_renamed}
use Rattle.theory_denotation_renaming.proofs.Filled.{fill_next, mono_filled}
use Rattle.theory_denotation_renaming.proofs.FilledTruth.{put_along}
use Rattle.theory_denotation_substitution.specs.Put.{MayPutIn}
use Rattle.theory_denotation_substitution.proofs.Results.{arrow_parts, all_part}
use Rattle.theory_denotation_substitution.proofs.Placing.{put_term, put_mono_entry, mono_beside}
use Rattle.theory_denotation_shapes.specs.Shapes.{InShape}
use Rattle.theory_denotation_shapes.specs.Laws.{ShapesReindex}

pub shape_renamed : (ty : TyTree) {m : Map} {w w' : Valuation}
    → AgreeAlong m w w'
    → (s : Skeleton) (d : Domain s)
    → InShape w' (rename_ty m ty) s d ≡ InShape w ty s d
unfolding InShape rename_ty
shape_renamed (y_mono mono) a sk_o d = λ j. HasType d (mono_renamed a mono j)
shape_renamed (y_fun argument answer) a (sk_arrow s t) d =
    λ j. (x : Domain s) → shape_renamed argument a s x j → shape_renamed answer (agree_next (den_term s x) a) t (d x) j
shape_renamed (y_all body) a (sk_all s) d = λ j. (t : MonoTree) → IsClosed t → shape_renamed body (agree_next (den_mono t) a) s (d t) j
shape_renamed (y_at at ty) a s d = shape_renamed ty a s d
shape_renamed _ a s d = refl

pub shape_put : {heads : Heads} {e : HeadEntries} {new : TermTree} {u : Skeleton} {x : ℕ} {ty r : TyTree} {g whole : List Standing}
    {w w' : Valuation}
    → SubTy new u x ty r
    → IsCanonicalTy heads whole ty
    → MayPutIn heads e new u x g whole w w'
    → (s : Skeleton)
    → skeleton ty ≡ s
    → (d : Domain s)
    → InShape w r s d ≡ InShape w' ty s d
unfolding InShape skeleton
shape_put u_y_mono (n_mono m) p sk_o q d = λ j. HasType d (mono_beside m p.may.inserted p.valuation j)
shape_put {heads = heads} {whole = whole} (u_y_fun {argument = argument} {answer = answer} a b) (n_fun c i f) p (sk_arrow s t) q d =
    let parts = arrow_parts {s = skeleton argument} {t = skeleton answer} {u = s} {v = t} q in
    let inner = subst (λ v. IsCanonicalTy heads (as_term v ∷ whole) answer) (sym i ∙ parts.0) f in
    λ j. (y : Domain s) → shape_put a c p s parts.0 y j → shape_put b inner (put_term s y p) t parts.1 (d y) j
shape_put (u_y_all {body = body} a) (n_all c) p (sk_all s) q d =
    λ j. (t : MonoTree) → IsClosed t → shape_put a c (put_mono_entry t p) s (all_part {s = skeleton body} {t = s} q) (d t) j
shape_put u_y_mono c p s q d = refl
shape_put (u_y_fun a b) c p s q d = refl
shape_put (u_y_all a) c p s q d = refl
shape_put (u_y_hoare a) c p s q d = refl

pub shape_filled : {heads : Heads} {e : HeadEntries} (ty : TyTree) {f : Filling} {m : Map} {g : List Standing} {w w' : Valuation}
    → HeadsValued heads e
    → IsCanonicalTy heads g ty
    → FillAlong f m g w w'
    → ContextValued g w
    → (s : Skeleton)
    → skeleton ty ≡ s
    → (d : Domain s)
    → InShape w' (fill_ty f m ty) s d ≡ InShape w ty s d
unfolding InShape skeleton fill_ty
shape_filled (y_mono mono) h (n_mono t) k z sk_o q d = λ j. HasType d (mono_filled t k j)
shape_filled {heads = heads} {e = e} (y_fun argument answer) {g = g} h (n_fun c i f) k z (sk_arrow s t) q d =
    let parts = arrow_parts {s = skeleton argument} {t = skeleton answer} {u = s} {v = t} q in
    let inner = subst (λ v. IsCanonicalTy heads (as_term v ∷ g) answer) (sym i ∙ parts.0) f in
    λ j.
    (y : Domain s)
    → shape_filled {e = e} argument h c k z s parts.0 y j
    → shape_filled {e = e} answer h inner (fill_next (as_term s) (den_term s y) k) (valued_term s y z) t parts.1 (d y) j
shape_filled {e = e} (y_all body) h (n_all c) k z (sk_all s) q d =
    λ j.
    (t : MonoTree)
    → IsClosed t
    → shape_filled {e = e} body h c (fill_next as_mono (den_mono t) k) (valued_other (den_mono t) z).0 s
    (all_part {s = skeleton body} {t = s} q) (d t) j
shape_filled (y_mono mono) h c k z s q d = refl
shape_filled (y_fun argument answer) h c k z s q d = refl
shape_filled (y_all body) h c k z s q d = refl
shape_filled (y_hoare spec) h c k z s q d = refl
shape_filled (y_at at ty) h c k z s q d = elim c [ ]

pub shape_plain : (ty : TyTree) (w : Valuation) (s : Skeleton) (d : Domain s) → InShape w (plain_ty ty) s d ≡ InShape w ty s d
unfolding InShape plain_ty
shape_plain (y_mono mono) w s d = refl
shape_plain (y_fun argument answer) w (sk_arrow s t) d = λ j. (x : Domain s) → shape_plain argument w s x j → shape_plain answer (den_term s x ∷ w) t (d x) j
shape_plain (y_all body) w (sk_all s) d = λ j. (t : MonoTree) → IsClosed t → shape_plain body (den_mono t ∷ w) s (d t) j
shape_plain (y_at at ty) w s d = shape_plain ty w s d
shape_plain _ w s d = refl

pub ending_shaped : (w : Valuation) (ty : TyTree) → EndsInHoare ty → (s : Skeleton) (d : Domain s) → InShape w ty s d
unfolding InShape
ending_shaped w (y_mono mono) r s d = absurd r
ending_shaped w (y_fun argument answer) r (sk_arrow s t) d = λ x m. ending_shaped (den_term s x ∷ w) answer r t (d x)
ending_shaped w (y_fun argument answer) r sk_o d = tt
ending_shaped w (y_fun argument answer) r sk_c d = tt
ending_shaped w (y_fun argument answer) r (sk_all s) d = tt
ending_shaped w (y_all body) r (sk_all s) d = λ t c. ending_shaped (den_mono t ∷ w) body r s (d t)
ending_shaped w (y_all body) r sk_o d = tt
ending_shaped w (y_all body) r sk_c d = tt
ending_shaped w (y_all body) r (sk_arrow s t) d = tt
ending_shaped w (y_hoare spec) r s d = tt
ending_shaped w (y_at at ty) r s d = absurd r

pub reindex : ShapesReindex
reindex = record {
  renamed = λ a ty s d. both_ways (shape_renamed ty a s d);
  terms = λ heads e new s x g whole w w' p ty r a c d. both_ways (shape_put a c p (skeleton ty) refl d);
  monotypes = λ heads e mono x g whole w w' p ty c d. both_ways (shape_filled ty p.heads_valued c (put_along p) p.valued (skeleton ty) refl d);
  positions = λ w ty s d. both_ways (shape_plain ty w s d);
  ending = ending_shaped;
}
