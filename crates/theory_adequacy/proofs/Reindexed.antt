-- Renaming and substitution in a type, and positions, keep what realises a denotation.
use Rattle.std.proofs.Common.{◌≡◌, ℕ, List, ◌∷◌, Some, refl, sym, ◌∙◌, subst}
use Rattle.htt_syntax.specs.Trees.{MonoTree, TyTree, TermTree, y_mono, y_fun, y_all, y_hoare, y_at}
use Rattle.theory_renaming.specs.Renaming.{Map, rename_ty}
use Rattle.theory_values.specs.Heaps.{Heap}
use Rattle.theory_meaning.specs.Closures.{RunValue, base, Items}
use Rattle.theory_meaning.specs.Meaning.{application_result, instance_result, inner_result, start_result, runner_of}
use Rattle.theory_truth.proofs.Renamed.{both_ways}
use Rattle.theory_canonical.specs.Skeletons.{Skeleton, sk_o, sk_c, sk_arrow, sk_all, skeleton}
use Rattle.theory_canonical.specs.Contexts.{Standing, as_mono, as_term, Heads}
use Rattle.theory_canonical.specs.Canonical.{IsCanonicalTy, n_mono, n_fun, n_all, n_hoare}
use Rattle.theory_substitution.specs.Monotypes.{Filling, fill_ty}
use Rattle.theory_substitution.specs.Substitution.{SubTy, u_y_mono, u_y_fun, u_y_all, u_y_hoare}
use Rattle.theory_typing.specs.Positions.{plain_ty}
use Rattle.theory_denotation.specs.Valuations.{Domain, den_mono, den_term, Valuation, HeadEntries}
use Rattle.theory_denotation.specs.Valued.{ContextValued, HeadsValued}
use Rattle.theory_denotation.proofs.HeadsDenote.{valued_term, valued_other}
use Rattle.theory_denotation_renaming.specs.Along.{AgreeAlong, FillAlong}
use Rattle.theory_denotation_renaming.proofs.Renamed.{agree_next, mono_renamed}
use Rattle.theory_denotation_renaming.proofs.RenamedTruth.{answer_renamed}
use Rattle.theory_denotation_renaming.proofs.Filled.{fill_next, mono_filled}
use Rattle.theory_denotation_renaming.proofs.FilledTruth.{answer_filled, put_along}
use Rattle.theory_denotation_substitution.specs.Put.{MayPutIn}
use Rattle.theory_denotation_substitution.proofs.Results.{arrow_parts, all_part}
use Rattle.theory_denotation_substitution.proofs.Placing.{put_term, put_mono_entry, mono_beside}
use Rattle.theory_denotation_substitution.proofs.Formulas.{answer_put}
use Rattle.theory_denotation_positions.proofs.PlainTruth.{answer_plain}
use Rattle.theory_meaning_simulation.specs.Simulation.{Shaped}
use Rattle.theory_adequacy.specs.Adequacy.{EventuallyGives, Reaches, Realises}
use Rattle.theory_adequacy.specs.Laws.{RealisationReindexes}

module _ (items : Items) where
  pub realises_renamed : (ty : TyTree) {m : Map} {w w' : Valuation}
      → AgreeAlong m w w'
      → (s : Skeleton) (u : RunValue) (d : Domain s)
      → Realises items w' (rename_ty m ty) s u d ≡ Realises items w ty s u d
  unfolding Realises rename_ty
  realises_renamed (y_mono mono) a sk_o u d = λ j. (u ≡ base d) × Shaped d (mono_renamed a mono j)
  realises_renamed (y_fun argument answer) a (sk_arrow s t) u d =
      λ j.
      (x : RunValue) (c : Domain s)
      → realises_renamed argument a s x c j
      → EventuallyGives (λ i. application_result (inner_result items i) u x) (λ y. realises_renamed answer (agree_next (den_term s c) a) t y (d c) j)
  realises_renamed (y_all body) a (sk_all s) u d = λ j.
      (t : MonoTree)
      → EventuallyGives (λ i. instance_result (inner_result items i) u (Some t)) (λ y. realises_renamed body (agree_next (den_mono t) a) s y (d t) j)
  realises_renamed (y_hoare spec) a sk_c u d = λ j.
      (n : ℕ) (h : Heap) (cs : List ℕ) → Reaches (answer_renamed spec a j) (λ i. start_result (runner_of items i) u h cs) (d n h cs)
  realises_renamed (y_at at ty) a s u d = realises_renamed ty a s u d
  realises_renamed _ a s u d = refl

  pub realises_put : {heads : Heads} {e : HeadEntries} {new : TermTree} {v : Skeleton} {x : ℕ} {ty r : TyTree} {g whole : List Standing}
      {w w' : Valuation}
      → SubTy new v x ty r
      → IsCanonicalTy heads whole ty
      → MayPutIn heads e new v x g whole w w'
      → (s : Skeleton)
      → skeleton ty ≡ s
      → (u : RunValue) (d : Domain s)
      → Realises items w r s u d ≡ Realises items w' ty s u d
  unfolding Realises skeleton
  realises_put u_y_mono (n_mono m) p sk_o q u d = λ j. (u ≡ base d) × Shaped d (mono_beside m p.may.inserted p.valuation j)
  realises_put {heads = heads} {whole = whole} (u_y_fun {argument = argument} {answer = answer} a b) (n_fun c i f) p (sk_arrow s t) q u d =
      let parts = arrow_parts {s = skeleton argument} {t = skeleton answer} {u = s} {v = t} q in
      let inner = subst (λ z. IsCanonicalTy heads (as_term z ∷ whole) answer) (sym i ∙ parts.0) f in
      λ j.
      (x : RunValue) (y : Domain s)
      → realises_put a c p s parts.0 x y j
      → EventuallyGives (λ l. application_result (inner_result items l) u x) (λ z. realises_put b inner (put_term s y p) t parts.1 z (d y) j)
  realises_put (u_y_all {body = body} a) (n_all c) p (sk_all s) q u d =
      λ j.
      (t : MonoTree)
      → EventuallyGives (λ l. instance_result (inner_result items l) u (Some t))
      (λ z. realises_put a c (put_mono_entry t p) s (all_part {s = skeleton body} {t = s} q) z (d t) j)
  realises_put (u_y_hoare a) (n_hoare c) p sk_c q u d = λ j.
      (n : ℕ) (h : Heap) (cs : List ℕ) → Reaches (answer_put a c p j) (λ i. start_result (runner_of items i) u h cs) (d n h cs)
  realises_put u_y_mono c p s q u d = refl
  realises_put (u_y_fun a b) c p s q u d = refl
  realises_put (u_y_all a) c p s q u d = refl
  realises_put (u_y_hoare a) c p s q u d = refl

  pub realises_filled : {heads : Heads} {e : HeadEntries} (ty : TyTree) {f : Filling} {m : Map} {g : List Standing} {w w' : Valuation}
      → HeadsValued heads e
      → IsCanonicalTy heads g ty
      → FillAlong f m g w w'
      → ContextValued g w
      → (s : Skeleton)
      → skeleton ty ≡ s
      → (u : RunValue) (d : Domain s)
      → Realises items w' (fill_ty f m ty) s u d ≡ Realises items w ty s u d
  unfolding Realises skeleton fill_ty
  realises_filled (y_mono mono) h (n_mono t) a z sk_o q u d = λ j. (u ≡ base d) × Shaped d (mono_filled t a j)
  realises_filled {heads = heads} (y_fun argument answer) {g = g} h (n_fun c i f) a z (sk_arrow s t) q u d =
      let parts = arrow_parts {s = skeleton argument} {t = skeleton answer} {u = s} {v = t} q in
      let inner = subst (λ v. IsCanonicalTy heads (as_term v ∷ g) answer) (sym i ∙ parts.0) f in
      λ j.
      (x : RunValue) (y : Domain s)
      → realises_filled argument h c a z s parts.0 x y j
      → EventuallyGives (λ l. application_result (inner_result items l) u x)
      (λ v. realises_filled answer h inner (fill_next (as_term s) (den_term s y) a) (valued_term s y z) t parts.1 v (d y) j)
  realises_filled (y_all body) h (n_all c) a z (sk_all s) q u d =
      λ j.
      (t : MonoTree)
      → EventuallyGives (λ l. instance_result (inner_result items l) u (Some t)) (λ v.
      realises_filled body h c (fill_next as_mono (den_mono t) a) (valued_other (den_mono t) z).0 s (all_part {s = skeleton body} {t = s} q) v (d t) j)
  realises_filled (y_hoare spec) h (n_hoare c) a z sk_c q u d = λ j.
      (n : ℕ) (l : Heap) (cs : List ℕ) → Reaches (answer_filled c a j) (λ i. start_result (runner_of items i) u l cs) (d n l cs)
  realises_filled (y_mono mono) h c a z s q u d = refl
  realises_filled (y_fun argument answer) h c a z s q u d = refl
  realises_filled (y_all body) h c a z s q u d = refl
  realises_filled (y_hoare spec) h c a z s q u d = refl
  realises_filled (y_at at ty) h c a z s q u d = elim c [ ]

  pub realises_plain : (ty : TyTree) (w : Valuation) (s : Skeleton) (u : RunValue) (d : Domain s)
      → Realises items w (plain_ty ty) s u d ≡ Realises items w ty s u d
  unfolding Realises plain_ty
  realises_plain (y_mono mono) w s u d = refl
  realises_plain (y_fun argument answer) w (sk_arrow s t) u d = λ j.
      (x : RunValue) (c : Domain s)
      → realises_plain argument w s x c j
      → EventuallyGives (λ i. application_result (inner_result items i) u x) (λ y. realises_plain answer (den_term s c ∷ w) t y (d c) j)
  realises_plain (y_all body) w (sk_all s) u d = λ j.
      (t : MonoTree)
      → EventuallyGives (λ i. instance_result (inner_result items i) u (Some t)) (λ y. realises_plain body (den_mono t ∷ w) s y (d t) j)
  realises_plain (y_hoare spec) w sk_c u d = λ j.
      (n : ℕ) (h : Heap) (cs : List ℕ) → Reaches (answer_plain spec w j) (λ i. start_result (runner_of items i) u h cs) (d n h cs)
  realises_plain (y_at at ty) w s u d = realises_plain ty w s u d
  realises_plain _ w s u d = refl

pub reindex : RealisationReindexes
reindex = record {
  renamed = λ items a ty s u d. both_ways (realises_renamed items ty a s u d);
  terms = λ items heads e new s x g whole w w' p ty r a c u d. both_ways (realises_put items a c p (skeleton ty) refl u d);
  monotypes = λ items heads e mono x g whole w w' p ty c u d.
      both_ways (realises_filled items ty p.heads_valued c (put_along p) p.valued (skeleton ty) refl u d);
  positions = λ items w ty s u d. both_ways (realises_plain items ty w s u d);
}
