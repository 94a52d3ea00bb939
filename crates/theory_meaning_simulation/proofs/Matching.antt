-- Environments that match: with less fuel they match too, and each variable has what its type says.
use Rattle.std.proofs.Common.{◌≡◌, ◌≤◌, ℕ, suc, ◌∷◌, Some, refl, sym, subst, arith}
use Rattle.htt_syntax.specs.Trees.{MonoTree, TyTree, y_mono, y_fun, y_all, y_hoare, y_at}
use Rattle.theory_renaming.specs.Renaming.{rename_ty}
use Rattle.theory_meaning.specs.Closures.{RunValue, Env, gives, Items, value_entry, mono_entry, pair_mono, closed_mono}
use Rattle.theory_canonical.specs.Skeletons.{Skeleton, sk_o, sk_c, sk_arrow, sk_all, skeleton}
use Rattle.theory_canonical.proofs.Renamed.{skeleton_stays}
use Rattle.theory_typing.specs.Contexts.{Context, IsMonoEntry, mono_here, mono_there, HasEntryType, type_here, type_there, FormsMono, forms_word, forms_bool}
use Rattle.theory_typing.specs.Contexts.{forms_loc, forms_unit, forms_pair, forms_var}
use Rattle.theory_typing_canonical.specs.Environments.{standings}
use Rattle.theory_denotation.specs.Valuations.{Domain, ValuationEntry, den_mono, den_term, Valuation, entry_at, mono_of_entry, mono_in}
use Rattle.theory_denotation.specs.Valued.{ContextValued}
use Rattle.theory_denotation.proofs.HeadsDenote.{valued_term, valued_other}
use Rattle.theory_denotation_renaming.proofs.Renamed.{agree_suc}
use Rattle.theory_meaning_simulation.specs.Simulation.{Does, Matches, match_none, match_mono, match_value}
use Rattle.theory_meaning_simulation.proofs.Results.{gives_more}
use Rattle.theory_meaning_simulation.proofs.Reindexed.{does_renamed}

-- A variable's value in the text, and its entry.
pub record Found (items : Items) (k n : ℕ) (ty : TyTree) (e : Env) (w : Valuation) : Type 0 where
  pub value : RunValue
  pub of : Domain (skeleton ty)
  pub is : value_entry e n ≡ gives value
  pub entry : entry_at w n ≡ den_term (skeleton ty) of
  pub does : Does items w ty (skeleton ty) k value of

module _ (items : Items) where
  pub does_down : (ty : TyTree) (w : Valuation) (s : Skeleton) (k m : ℕ) (u : RunValue) (d : Domain s)
      → m ≤ k
      → Does items w ty s k u d
      → Does items w ty s m u d
  unfolding Does
  does_down (y_mono mono) w sk_o k m u d l h = h
  does_down (y_fun argument answer) w (sk_arrow s t) k m u d l h = λ i a. h i (omega (arith, a, l))
  does_down (y_all body) w (sk_all s) k m u d l h = λ t i.
      gives_more _ (λ y. Does items (den_mono t ∷ w) body s k y (d t)) (λ y. Does items (den_mono t ∷ w) body s m y (d t))
      (λ y x. does_down body (den_mono t ∷ w) s k m y (d t) l x) (h t i)
  does_down (y_hoare spec) w sk_c k m u d l h = λ i n a. h i n (omega (arith, a, l))
  does_down (y_at at ty) w s k m u d l h = does_down ty w s k m u d l h
  does_down _ w s k m u d l h = absurd h

  pub match_down : {k : ℕ} (m : ℕ) {g : Context} {e : Env} {w : Valuation} → m ≤ k → Matches items k g e w → Matches items m g e w
  match_down m l match_none = match_none
  match_down m l (match_mono a) = match_mono (match_down m l a)
  match_down {k = k} m l (match_value {w = w} {ty = ty} {u = u} {d = d} h a) = match_value (does_down ty w (skeleton ty) k m u d l h) (match_down m l a)

  seen_further : {k n : ℕ} {e : Env} {w : Valuation} (x : ValuationEntry) (ty : TyTree) (u : RunValue) (d : Domain (skeleton ty))
      → Does items w ty (skeleton ty) k u d
      → value_entry e n ≡ gives u
      → entry_at (x ∷ w) n ≡ den_term (skeleton ty) d
      → Found items k n (rename_ty suc ty) e (x ∷ w)
  seen_further {k = k} {n = n} {w = w} x ty u d h q p =
      let all =
      subst (λ (s : Skeleton). (c : Domain s) × (entry_at (x ∷ w) n ≡ den_term s c) × Does items (x ∷ w) (rename_ty suc ty) s k u c)
      (sym (skeleton_stays suc ty)) (d, p, subst (λ (A : Type 0). A) (sym (does_renamed items ty (agree_suc x w) (skeleton ty) k u d)) h) in
      record { value = u; of = all.0; is = q; entry = all.1; does = all.2 }

  pub found : {k : ℕ} {g : Context} {n : ℕ} {ty : TyTree} {e : Env} {w : Valuation} → HasEntryType g n ty → Matches items k g e w → Found items k n ty e w
  found d match_none = elim d [ ]
  found (type_here {ty = ty}) (match_value {u = u} {d = d} h a) = seen_further (den_term (skeleton ty) d) ty u d h refl refl
  found (type_there {ty = ty} i) (match_mono {t = t} a) = let o = found i a in seen_further (den_mono t) ty o.value o.of o.does o.is o.entry
  found (type_there {ty = ty} i) (match_value {ty = v} {u = u} {d = d} h a) =
      let o = found i a in seen_further (den_term (skeleton v) d) ty o.value o.of o.does o.is o.entry

  mono_found : {k : ℕ} {g : Context} {n : ℕ} {e : Env} {w : Valuation}
      → IsMonoEntry g n
      → Matches items k g e w
      → mono_entry e n ≡ Some (mono_of_entry (entry_at w n))
  mono_found d match_none = elim d [ ]
  mono_found mono_here (match_mono a) = refl
  mono_found (mono_there d) (match_mono a) = mono_found d a
  mono_found (mono_there d) (match_value h a) = mono_found d a

  pub mono_closed : {k : ℕ} {g : Context} {t : MonoTree} {e : Env} {w : Valuation}
      → FormsMono g t
      → Matches items k g e w
      → closed_mono e t ≡ Some (mono_in w t)
  mono_closed forms_word a = refl
  mono_closed forms_bool a = refl
  mono_closed forms_loc a = refl
  mono_closed forms_unit a = refl
  mono_closed (forms_pair d f) a = λ j. pair_mono (mono_closed d a j) (mono_closed f a j)
  mono_closed (forms_var d) a = mono_found d a

  pub match_valued : {k : ℕ} {g : Context} {e : Env} {w : Valuation} → Matches items k g e w → ContextValued (standings g) w
  match_valued match_none = record { at = λ n s d. elim d [ ] }
  match_valued (match_mono {t = t} a) = (valued_other (den_mono t) (match_valued a)).0
  match_valued (match_value {ty = ty} {d = d} h a) = valued_term (skeleton ty) d (match_valued a)
