-- Where an environment realises a valuation, each variable has what its type says.
use Rattle.std.proofs.Common.{◌≡◌, ℕ, suc, ◌∷◌, Some, refl, sym, subst}
use Rattle.htt_syntax.specs.Trees.{MonoTree, TyTree}
use Rattle.theory_renaming.specs.Renaming.{rename_ty}
use Rattle.theory_meaning.specs.Closures.{RunValue, Env, gives, Items, value_entry, mono_entry, pair_mono, closed_mono}
use Rattle.theory_canonical.specs.Skeletons.{Skeleton, skeleton}
use Rattle.theory_canonical.proofs.Renamed.{skeleton_stays}
use Rattle.theory_typing.specs.Contexts.{Context, IsMonoEntry, mono_here, mono_there, HasEntryType, type_here, type_there, FormsMono, forms_word, forms_bool}
use Rattle.theory_typing.specs.Contexts.{forms_loc, forms_unit, forms_pair, forms_var}
use Rattle.theory_typing_canonical.specs.Environments.{standings}
use Rattle.theory_denotation.specs.Valuations.{Domain, ValuationEntry, den_mono, den_term, Valuation, entry_at, mono_of_entry, mono_in}
use Rattle.theory_denotation.specs.Valued.{ContextValued}
use Rattle.theory_denotation.proofs.HeadsDenote.{valued_term, valued_other}
use Rattle.theory_denotation_renaming.proofs.Renamed.{agree_suc}
use Rattle.theory_adequacy.specs.Adequacy.{Realises, Realised, realised_none, realised_mono, realised_value}
use Rattle.theory_adequacy.proofs.Reindexed.{realises_renamed}

-- A variable's value in the text, and its entry.
pub record Found (items : Items) (n : ℕ) (ty : TyTree) (e : Env) (w : Valuation) : Type 0 where
  pub value : RunValue
  pub of : Domain (skeleton ty)
  pub is : value_entry e n ≡ gives value
  pub entry : entry_at w n ≡ den_term (skeleton ty) of
  pub realises : Realises items w ty (skeleton ty) value of

module _ (items : Items) where
  seen_further : {n : ℕ} {e : Env} {w : Valuation} (x : ValuationEntry) (ty : TyTree) (u : RunValue) (d : Domain (skeleton ty))
      → Realises items w ty (skeleton ty) u d
      → value_entry e n ≡ gives u
      → entry_at (x ∷ w) n ≡ den_term (skeleton ty) d
      → Found items n (rename_ty suc ty) e (x ∷ w)
  seen_further {n = n} {w = w} x ty u d h q p =
      let all =
      subst (λ (s : Skeleton). (c : Domain s) × (entry_at (x ∷ w) n ≡ den_term s c) × Realises items (x ∷ w) (rename_ty suc ty) s u c)
      (sym (skeleton_stays suc ty)) (d, p, subst (λ (A : Type 0). A) (sym (realises_renamed items ty (agree_suc x w) (skeleton ty) u d)) h) in
      record { value = u; of = all.0; is = q; entry = all.1; realises = all.2 }

  pub found : {g : Context} {n : ℕ} {ty : TyTree} {e : Env} {w : Valuation} → HasEntryType g n ty → Realised items g e w → Found items n ty e w
  found d realised_none = elim d [ ]
  found (type_here {ty = ty}) (realised_value {u = u} {d = d} h a) = seen_further (den_term (skeleton ty) d) ty u d h refl refl
  found (type_there {ty = ty} i) (realised_mono {t = t} a) = let o = found i a in seen_further (den_mono t) ty o.value o.of o.realises o.is o.entry
  found (type_there {ty = ty} i) (realised_value {ty = v} {u = u} {d = d} h a) =
      let o = found i a in seen_further (den_term (skeleton v) d) ty o.value o.of o.realises o.is o.entry

  mono_found : {g : Context} {n : ℕ} {e : Env} {w : Valuation}
      → IsMonoEntry g n
      → Realised items g e w
      → mono_entry e n ≡ Some (mono_of_entry (entry_at w n))
  mono_found d realised_none = elim d [ ]
  mono_found mono_here (realised_mono a) = refl
  mono_found (mono_there d) (realised_mono a) = mono_found d a
  mono_found (mono_there d) (realised_value h a) = mono_found d a

  pub mono_closed : {g : Context} {t : MonoTree} {e : Env} {w : Valuation}
      → FormsMono g t
      → Realised items g e w
      → closed_mono e t ≡ Some (mono_in w t)
  mono_closed forms_word a = refl
  mono_closed forms_bool a = refl
  mono_closed forms_loc a = refl
  mono_closed forms_unit a = refl
  mono_closed (forms_pair d f) a = λ j. pair_mono (mono_closed d a j) (mono_closed f a j)
  mono_closed (forms_var d) a = mono_found d a

  pub realised_valued : {g : Context} {e : Env} {w : Valuation} → Realised items g e w → ContextValued (standings g) w
  realised_valued realised_none = record { at = λ n s d. elim d [ ] }
  realised_valued (realised_mono {t = t} a) = (valued_other (den_mono t) (realised_valued a)).0
  realised_valued (realised_value {ty = ty} {d = d} h a) = valued_term (skeleton ty) d (realised_valued a)
