-- Renaming and substitution in a type, and positions, keep what does as a denotation.
use Rattle.std.proofs.Common.{◌≡◌, ◌<◌, ◌≤◌, ℕ, List, ◌∷◌, Some, refl, sym, ◌∙◌, subst}
use Rattle.htt_syntax.specs.Trees.{MonoTree, TyTree, TermTree, y_mono, y_fun, y_all, y_hoare, y_at}
use Rattle.theory_renaming.specs.Renaming.{Map, rename_ty}
use Rattle.theory_values.specs.Heaps.{Heap}
use Rattle.theory_meaning.specs.Closures.{RunValue, base, Items}
use Rattle.theory_meaning.specs.Meaning.{application_result, instance_result, inner_result, start_result, runner_of}
use Rattle.theory_canonical.specs.Skeletons.{Skeleton, sk_o, sk_c, sk_arrow, sk_all, skeleton}
use Rattle.theory_canonical.specs.Contexts.{Standing, as_mono, as_term, Heads}
use Rattle.theory_canonical.specs.Canonical.{IsCanonicalTy, n_mono, n_fun, n_all, n_hoare}
use Rattle.theory_substitution.specs.Monotypes.{Filling, fill_ty}
use Rattle.theory_substitution.specs.Substitution.{SubTy, u_y_mono, u_y_fun, u_y_all, u_y_hoare}
use Rattle.theory_typing.specs.Positions.{plain_ty}
use Rattle.theory_denotation.specs.Valuations.{Domain, den_mono, den_term, Valuation, HeadEntries}
use Rattle.theory_denotation.specs.Valued.{ContextValued, HeadsValued}
use Rattle.theory_denotation.proofs.HeadsDenote.{valued_term, valued_other}
use Rattle.theory_denotation_renaming.specs.Along.{AgreeAlong, FillAlong}
use Rattle.theory_denotation_renaming.proofs.Renamed.{agree_next, mono_renamed}
use Rattle.theory_denotation_renaming.proofs.RenamedTruth.{answer_renamed}
use Rattle.theory_denotation_renaming.proofs.Filled.{fill_next, mono_filled}
use Rattle.theory_denotation_renaming.proofs.FilledTruth.{answer_filled}
use Rattle.theory_denotation_substitution.specs.Put.{MayPutIn}
use Rattle.theory_denotation_substitution.proofs.Results.{arrow_parts, all_part}
use Rattle.theory_denotation_substitution.proofs.Placing.{put_term, put_mono_entry, mono_beside}
use Rattle.theory_denotation_substitution.proofs.Formulas.{answer_put}
use Rattle.theory_denotation_positions.proofs.PlainTruth.{answer_plain}
use Rattle.theory_meaning_simulation.specs.Simulation.{Shaped, GivesSo, AlikeOutcomes, Does}

module _ (items : Items) where
  pub does_renamed : (ty : TyTree) {m : Map} {w w' : Valuation}
      → AgreeAlong m w w'
      → (s : Skeleton) (k : ℕ) (u : RunValue) (d : Domain s)
      → Does items w' (rename_ty m ty) s k u d ≡ Does items w ty s k u d
  unfolding Does rename_ty
  does_renamed (y_mono mono) a sk_o k u d = λ j. (u ≡ base d) × Shaped d (mono_renamed a mono j)
  does_renamed (y_fun argument answer) a (sk_arrow s t) k u d =
      λ j.
      (m : ℕ)
      → m ≤ k
      → (x : RunValue) (c : Domain s)
      → does_renamed argument a s m x c j
      → (i : ℕ)
      → GivesSo (application_result (inner_result items i) u x) (λ y. does_renamed answer (agree_next (den_term s c) a) t m y (d c) j)
  does_renamed (y_all body) a (sk_all s) k u d = λ j.
      (t : MonoTree) (i : ℕ)
      → GivesSo (instance_result (inner_result items i) u (Some t)) (λ y. does_renamed body (agree_next (den_mono t) a) s k y (d t) j)
  does_renamed (y_hoare spec) a sk_c k u d = λ j.
      (i n : ℕ)
      → i < k
      → i ≤ n
      → (h : Heap) (cs : List ℕ)
      → AlikeOutcomes (answer_renamed spec a j) (start_result (runner_of items i) u h cs) (d n h cs)
  does_renamed (y_at at ty) a s k u d = does_renamed ty a s k u d
  does_renamed _ a s k u d = refl

  pub does_put : {heads : Heads} {e : HeadEntries} {new : TermTree} {v : Skeleton} {x : ℕ} {ty r : TyTree} {g whole : List Standing}
      {w w' : Valuation}
      → SubTy new v x ty r
      → IsCanonicalTy heads whole ty
      → MayPutIn heads e new v x g whole w w'
      → (s : Skeleton)
      → skeleton ty ≡ s
      → (k : ℕ) (u : RunValue) (d : Domain s)
      → Does items w r s k u d ≡ Does items w' ty s k u d
  unfolding Does skeleton
  does_put u_y_mono (n_mono m) p sk_o q k u d = λ j. (u ≡ base d) × Shaped d (mono_beside m p.may.inserted p.valuation j)
  does_put {heads = heads} {whole = whole} (u_y_fun {argument = argument} {answer = answer} a b) (n_fun c i f) p (sk_arrow s t) q k u d =
      let parts = arrow_parts {s = skeleton argument} {t = skeleton answer} {u = s} {v = t} q in
      let inner = subst (λ z. IsCanonicalTy heads (as_term z ∷ whole) answer) (sym i ∙ parts.0) f in
      λ j.
      (m : ℕ)
      → m ≤ k
      → (x : RunValue) (y : Domain s)
      → does_put a c p s parts.0 m x y j
      → (l : ℕ)
      → GivesSo (application_result (inner_result items l) u x) (λ z. does_put b inner (put_term s y p) t parts.1 m z (d y) j)
  does_put (u_y_all {body = body} a) (n_all c) p (sk_all s) q k u d =
      λ j.
      (t : MonoTree) (l : ℕ)
      → GivesSo (instance_result (inner_result items l) u (Some t))
      (λ z. does_put a c (put_mono_entry t p) s (all_part {s = skeleton body} {t = s} q) k z (d t) j)
  does_put (u_y_hoare a) (n_hoare c) p sk_c q k u d = λ j.
      (i n : ℕ)
      → i < k
      → i ≤ n
      → (h : Heap) (cs : List ℕ)
      → AlikeOutcomes (answer_put a c p j) (start_result (runner_of items i) u h cs) (d n h cs)
  does_put u_y_mono c p s q k u d = refl
  does_put (u_y_fun a b) c p s q k u d = refl
  does_put (u_y_all a) c p s q k u d = refl
  does_put (u_y_hoare a) c p s q k u d = refl

  pub does_filled : {heads : Heads} {e : HeadEntries} (ty : TyTree) {f : Filling} {m : Map} {g : List Standing} {w w' : Valuation}
      → HeadsValued heads e
      → IsCanonicalTy heads g ty
      → FillAlong f m g w w'
      → ContextValued g w
      → (s : Skeleton)
      → skeleton ty ≡ s
      → (k : ℕ) (u : RunValue) (d : Domain s)
      → Does items w' (fill_ty f m ty) s k u d ≡ Does items w ty s k u d
  unfolding Does skeleton fill_ty
  does_filled (y_mono mono) h (n_mono t) a z sk_o q k u d = λ j. (u ≡ base d) × Shaped d (mono_filled t a j)
  does_filled {heads = heads} (y_fun argument answer) {g = g} h (n_fun c i f) a z (sk_arrow s t) q k u d =
      let parts = arrow_parts {s = skeleton argument} {t = skeleton answer} {u = s} {v = t} q in
      let inner = subst (λ v. IsCanonicalTy heads (as_term v ∷ g) answer) (sym i ∙ parts.0) f in
      λ j.
      (m : ℕ)
      → m ≤ k
      → (x : RunValue) (y : Domain s)
      → does_filled argument h c a z s parts.0 m x y j
      → (l : ℕ)
      → GivesSo (application_result (inner_result items l) u x)
      (λ v. does_filled answer h inner (fill_next (as_term s) (den_term s y) a) (valued_term s y z) t parts.1 m v (d y) j)
  does_filled (y_all body) h (n_all c) a z (sk_all s) q k u d =
      λ j.
      (t : MonoTree) (l : ℕ)
      → GivesSo (instance_result (inner_result items l) u (Some t)) (λ v.
      does_filled body h c (fill_next as_mono (den_mono t) a) (valued_other (den_mono t) z).0 s (all_part {s = skeleton body} {t = s} q) k v
      (d t) j)
  does_filled (y_hoare spec) h (n_hoare c) a z sk_c q k u d = λ j.
      (i n : ℕ)
      → i < k
      → i ≤ n
      → (l : Heap) (cs : List ℕ)
      → AlikeOutcomes (answer_filled c a j) (start_result (runner_of items i) u l cs) (d n l cs)
  does_filled (y_mono mono) h c a z s q k u d = refl
  does_filled (y_fun argument answer) h c a z s q k u d = refl
  does_filled (y_all body) h c a z s q k u d = refl
  does_filled (y_hoare spec) h c a z s q k u d = refl
  does_filled (y_at at ty) h c a z s q k u d = elim c [ ]

  pub does_plain : (ty : TyTree) (w : Valuation) (s : Skeleton) (k : ℕ) (u : RunValue) (d : Domain s)
      → Does items w (plain_ty ty) s k u d ≡ Does items w ty s k u d
  unfolding Does plain_ty
  does_plain (y_mono mono) w s k u d = refl
  does_plain (y_fun argument answer) w (sk_arrow s t) k u d = λ j.
      (m : ℕ)
      → m ≤ k
      → (x : RunValue) (c : Domain s)
      → does_plain argument w s m x c j
      → (i : ℕ)
      → GivesSo (application_result (inner_result items i) u x) (λ y. does_plain answer (den_term s c ∷ w) t m y (d c) j)
  does_plain (y_all body) w (sk_all s) k u d = λ j.
      (t : MonoTree) (i : ℕ)
      → GivesSo (instance_result (inner_result items i) u (Some t)) (λ y. does_plain body (den_mono t ∷ w) s k y (d t) j)
  does_plain (y_hoare spec) w sk_c k u d = λ j.
      (i n : ℕ)
      → i < k
      → i ≤ n
      → (h : Heap) (cs : List ℕ)
      → AlikeOutcomes (answer_plain spec w j) (start_result (runner_of items i) u h cs) (d n h cs)
  does_plain (y_at at ty) w s k u d = does_plain ty w s k u d
  does_plain _ w s k u d = refl
