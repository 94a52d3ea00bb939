-- Renaming and substitution in a type are reindexing of the valuation.
use Rattle.std.proofs.Common.{◌≡◌, ℕ, List, ◌∷◌, refl, sym, ◌∙◌, subst}
use Rattle.htt_syntax.specs.Trees.{MonoTree, TyTree, TermTree, y_mono, y_fun, y_all, y_hoare, y_at}
use Rattle.theory_renaming.specs.Renaming.{Map, rename_ty}
use Rattle.theory_values.specs.Values.{HasType, IsClosed}
use Rattle.theory_truth.specs.Truth.{Recs}
use Rattle.theory_truth.specs.Predicates.{recs_of}
use Rattle.theory_truth.proofs.Renamed.{both_ways}
use Rattle.theory_canonical.specs.Skeletons.{Skeleton, sk_o, sk_c, sk_arrow, sk_all, skeleton}
use Rattle.theory_canonical.specs.Contexts.{Standing, as_mono, as_term, Heads}
use Rattle.theory_canonical.specs.Canonical.{IsCanonicalTy, n_mono, n_fun, n_all, n_hoare}
use Rattle.theory_substitution.specs.Monotypes.{Filling, fill_ty}
use Rattle.theory_substitution.specs.Substitution.{SubTy, u_y_mono, u_y_fun, u_y_all, u_y_hoare}
use Rattle.theory_denotation.specs.Valuations.{Domain, den_mono, den_term, Valuation, HeadEntries}
use Rattle.theory_denotation.specs.Valued.{ContextValued, HeadsValued}
use Rattle.theory_denotation.proofs.HeadsDenote.{valued_term, valued_other}
use Rattle.theory_denotation_renaming.specs.Along.{AgreeAlong, FillAlong}
use Rattle.theory_denotation_renaming.proofs.Renamed.{agree_next, mono_renamed}
use Rattle.theory_denotation_renaming.proofs.RenamedTruth.{pre_renamed, post_renamed, answer_renamed}
use Rattle.theory_denotation_renaming.proofs.Filled.{fill_next, mono_filled}
use Rattle.theory_denotation_renaming.proofs.FilledTruth.{pre_filled, post_filled, answer_filled, put_along}
use Rattle.theory_denotation_substitution.specs.Put.{MayPutIn}
use Rattle.theory_denotation_substitution.proofs.Results.{arrow_parts, all_part}
use Rattle.theory_denotation_substitution.proofs.Placing.{put_term, put_mono_entry, mono_beside}
use Rattle.theory_denotation_substitution.proofs.Formulas.{pre_put, post_put, answer_put}
use Rattle.theory_denotation_shapes.proofs.Reindexed.{shape_renamed, shape_put, shape_filled}
use Rattle.theory_denotation_types.specs.Meeting.{Meets}
use Rattle.theory_denotation_types.specs.Types.{Means}
use Rattle.theory_denotation_types.specs.Laws.{TypesReindex}

pub means_renamed : (R : Recs) (e : HeadEntries) (ty : TyTree) {m : Map} {w w' : Valuation}
    → AgreeAlong m w w'
    → (s : Skeleton) (d : Domain s)
    → Means R e w' (rename_ty m ty) s d ≡ Means R e w ty s d
unfolding Means rename_ty
means_renamed R e (y_mono mono) a sk_o d = λ j. HasType d (mono_renamed a mono j)
means_renamed R e (y_fun argument answer) a (sk_arrow s t) d =
    λ j.
    shape_renamed (y_fun argument answer) a (sk_arrow s t) d j
    × ((x : Domain s) → means_renamed R e argument a s x j → means_renamed R e answer (agree_next (den_term s x) a) t (d x) j)
means_renamed R e (y_all body) a (sk_all s) d = λ j. (t : MonoTree) → IsClosed t → means_renamed R e body (agree_next (den_mono t) a) s (d t) j
means_renamed R e (y_hoare spec) a sk_c d = λ j. Meets (λ h. pre_renamed R e spec a h j) (answer_renamed spec a j) (λ v b k. post_renamed R e spec a v b k j) d
means_renamed R e (y_at at ty) a s d = means_renamed R e ty a s d
means_renamed R e _ a s d = refl

pub means_put : (R : Recs) {heads : Heads} {e : HeadEntries} {new : TermTree} {u : Skeleton} {x : ℕ} {ty r : TyTree}
    {g whole : List Standing} {w w' : Valuation}
    → SubTy new u x ty r
    → IsCanonicalTy heads whole ty
    → MayPutIn heads e new u x g whole w w'
    → (s : Skeleton)
    → skeleton ty ≡ s
    → (d : Domain s)
    → Means R e w r s d ≡ Means R e w' ty s d
unfolding Means skeleton
means_put R u_y_mono (n_mono m) p sk_o q d = λ j. HasType d (mono_beside m p.may.inserted p.valuation j)
means_put R {heads = heads} {whole = whole} (u_y_fun {argument = argument} {answer = answer} a b) (n_fun c i f) p (sk_arrow s t) q d =
    let parts = arrow_parts {s = skeleton argument} {t = skeleton answer} {u = s} {v = t} q in
    let inner = subst (λ v. IsCanonicalTy heads (as_term v ∷ whole) answer) (sym i ∙ parts.0) f in
    λ j.
    shape_put (u_y_fun a b) (n_fun c i f) p (sk_arrow s t) q d j
    × ((y : Domain s) → means_put R a c p s parts.0 y j → means_put R b inner (put_term s y p) t parts.1 (d y) j)
means_put R (u_y_all {body = body} a) (n_all c) p (sk_all s) q d =
    λ j. (t : MonoTree) → IsClosed t → means_put R a c (put_mono_entry t p) s (all_part {s = skeleton body} {t = s} q) (d t) j
means_put R (u_y_hoare a) (n_hoare c) p sk_c q d = λ j. Meets (λ h. pre_put R a c p h j) (answer_put a c p j) (λ v b k. post_put R a c p v b k j) d
means_put R u_y_mono c p s q d = refl
means_put R (u_y_fun a b) c p s q d = refl
means_put R (u_y_all a) c p s q d = refl
means_put R (u_y_hoare a) c p s q d = refl

pub means_filled : (R : Recs) {heads : Heads} {e : HeadEntries} (ty : TyTree) {f : Filling} {m : Map} {g : List Standing} {w w' : Valuation}
    → HeadsValued heads e
    → IsCanonicalTy heads g ty
    → FillAlong f m g w w'
    → ContextValued g w
    → (s : Skeleton)
    → skeleton ty ≡ s
    → (d : Domain s)
    → Means R e w' (fill_ty f m ty) s d ≡ Means R e w ty s d
unfolding Means skeleton fill_ty
means_filled R (y_mono mono) h (n_mono t) k z sk_o q d = λ j. HasType d (mono_filled t k j)
means_filled R {heads = heads} {e = e} (y_fun argument answer) {g = g} h (n_fun c i f) k z (sk_arrow s t) q d =
    let parts = arrow_parts {s = skeleton argument} {t = skeleton answer} {u = s} {v = t} q in
    let inner = subst (λ v. IsCanonicalTy heads (as_term v ∷ g) answer) (sym i ∙ parts.0) f in
    λ j.
    shape_filled {e = e} (y_fun argument answer) h (n_fun c i f) k z (sk_arrow s t) q d j
    × ((y : Domain s) → means_filled R argument h c k z s parts.0 y j →
    means_filled R answer h inner (fill_next (as_term s) (den_term s y) k) (valued_term s y z) t parts.1 (d y) j)
means_filled R (y_all body) h (n_all c) k z (sk_all s) q d =
    λ j.
    (t : MonoTree)
    → IsClosed t
    → means_filled R body h c (fill_next as_mono (den_mono t) k) (valued_other (den_mono t) z).0 s (all_part {s = skeleton body} {t = s} q)
    (d t) j
means_filled R (y_hoare spec) h (n_hoare c) k z sk_c q d =
    λ j. Meets (λ l. pre_filled R h c k z l j) (answer_filled c k j) (λ v b l. post_filled R h c k z v b l j) d
means_filled R (y_mono mono) h c k z s q d = refl
means_filled R (y_fun argument answer) h c k z s q d = refl
means_filled R (y_all body) h c k z s q d = refl
means_filled R (y_hoare spec) h c k z s q d = refl
means_filled R (y_at at ty) h c k z s q d = elim c [ ]

pub reindex : TypesReindex
reindex = record {
  renamed = λ table e a ty s d. both_ways (means_renamed (recs_of table) e ty a s d);
  terms = λ table heads e new s x g whole w w' p ty r a c d. both_ways (means_put (recs_of table) a c p (skeleton ty) refl d);
  monotypes = λ table heads e mono x g whole w w' p ty c d.
      both_ways (means_filled (recs_of table) ty p.heads_valued c (put_along p) p.valued (skeleton ty) refl d);
}
