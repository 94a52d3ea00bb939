-- The values of a file, one after the other: each does and realises what its canonical term denotes.
use Rattle.std.proofs.Common.{◌≡◌, ℕ, zero, suc, ◌+◌, List, [], ◌∷◌, ◌++◌, length, map, Some, slice_get, refl, sym, subst, arith}
use Rattle.std.proofs.lemmas.List.{map-append}
use Rattle.std.proofs.lemmas.Option.{same_Some}
use Rattle.theory_items.proofs.Lists.{no_element}
use Rattle.theory_meaning.specs.Closures.{Items}
use Rattle.theory_canonical.specs.Skeletons.{Skeleton, skeleton}
use Rattle.theory_typing.specs.Contexts.{Environment}
use Rattle.theory_typing_canonical.specs.Environments.{no_entry}
use Rattle.theory_typing_canonical.proofs.Typed.{formed_ty, fitted}
use Rattle.theory_items.specs.Items.{ItemTree, derives_abbreviation, derives_pred, derives_def, derives_val, derives_rec}
use Rattle.theory_items_sound.specs.Environments.{SoundEnvironment}
use Rattle.theory_items_sound.proofs.Kept.{items_keep_sound}
use Rattle.theory_items_sound.proofs.Founded.{more_length}
use Rattle.theory_denotation.specs.Valuations.{den_term, HeadEntries}
use Rattle.theory_denotation.specs.Denotation.{term_den, ValTree}
use Rattle.theory_denotation_relations.specs.Files.{AreVals, vals_end, vals_more}
use Rattle.theory_logic_unfoldings_satisfied.proofs.Bodies.{ends_run}
use Rattle.theory_meaning_simulation.specs.Simulation.{ValDoes}
use Rattle.theory_file_derived.specs.Derived.{val_terms, def_terms}
use Rattle.theory_instances.specs.Calls.{ProgramVal}
use Rattle.theory_extraction.specs.Extraction.{HasVals, vals_none, vals_next}
use Rattle.theory_adequacy.specs.Adequacy.{ValRealises}
use Rattle.theory_adequacy_files.specs.Laws.{trees_of}
use Rattle.theory_adequacy_files.proofs.Growing.{Holding, val_holds, def_holds, rec_holds}

-- The second list stands in the first from this number on.
abbrev pub Continues : {A : Type 0} → List A → ℕ → List A → Type 0
Continues {A = A} whole k rest = (n : ℕ) (x : A) → slice_get rest n ≡ Some x → slice_get whole (k + n) ≡ Some x

pub continues_all : {A : Type 0} (whole : List A) → Continues whole zero whole
continues_all whole n x q = let e : n ≡ zero + n = omega arith in subst (λ m. slice_get whole m ≡ Some x) e q

first_of_rest : {A : Type 0} (whole : List A) (k : ℕ) (x : A) (rest : List A) → Continues whole k (x ∷ rest) → slice_get whole k ≡ Some x
first_of_rest whole k x rest c = let e : k + zero ≡ k = omega arith in subst (λ m. slice_get whole m ≡ Some x) e (c zero x refl)

further : {A : Type 0} (known : List A) (x : A) (n : ℕ) → length known + suc n ≡ length (known ++ x ∷ []) + n
further known x n = let q = more_length known x in omega (arith, q)

continues_next : {A B : Type 0} (whole : List A) (known : List B) (y : B) (x : A) (rest : List A)
    → Continues whole (length known) (x ∷ rest)
    → Continues whole (length (known ++ y ∷ [])) rest
continues_next whole known y x rest c n z q = subst (λ m. slice_get whole m ≡ Some z) (further known y n) (c (suc n) z q)

-- the canonical terms of the values are canonical, each under those before it
pub are_vals : {env : Environment} {items : List ItemTree} {vals : List ProgramVal}
    → HasVals env items vals
    → SoundEnvironment env
    → AreVals (map skeleton env.vals) (trees_of vals)
are_vals vals_none s = vals_end
are_vals (vals_next {env = env} {item = item} {added = added} {owed = owed} {vals = vals} (derives_val {ty' = ty'} {term' = term'} a h b) rest) s =
    vals_more (fitted env s.canonical no_entry (formed_ty env s.canonical no_entry a) b).term (ends_run ty' h)
    (subst (λ (before : List Skeleton). AreVals before (trees_of vals)) (map-append skeleton env.vals (ty' ∷ []))
    (are_vals rest (items_keep_sound.kept env item added owed s (derives_val a h b))))
are_vals (vals_next (derives_abbreviation a) rest) s = are_vals rest s
are_vals (vals_next (derives_pred a b) rest) s = are_vals rest s
are_vals (vals_next {env = env} {item = item} {added = added} {owed = owed} (derives_def a b) rest) s =
    are_vals rest (items_keep_sound.kept env item added owed s (derives_def a b))
are_vals (vals_next {env = env} {item = item} {added = added} {owed = owed} (derives_rec f a b i) rest) s =
    are_vals rest (items_keep_sound.kept env item added owed s (derives_rec f a b i))

-- What holds of the value of this number.
pub record ValHolds (texts : Items) (e : HeadEntries) (n : ℕ) (v : ProgramVal) : Type 0 where
  pub does : ValDoes texts e n v.ty
  pub realises : ValRealises texts e n v.ty
  pub denotes : e.vals n ≡ den_term (skeleton v.ty) (term_den e [] v.term (skeleton v.ty))

at_end : {A : Type 0} (xs : List A) (x : A) → slice_get (xs ++ x ∷ []) (length xs) ≡ Some x
at_end [] x = refl
at_end (y ∷ xs) x = at_end xs x

module _ (texts : Items) (vs : List ValTree) (e : HeadEntries)
    (entries : (n : ℕ) (v : ValTree) → slice_get vs n ≡ Some v → e.vals n ≡ den_term v.skeleton (term_den e [] v.term v.skeleton)) where
  -- each of the values, counted from those before
  pub values_hold : {env : Environment} {items : List ItemTree} {vals : List ProgramVal}
      → HasVals env items vals
      → Holding texts env e
      → Continues vs (length env.vals) (trees_of vals)
      → Continues texts.vals (length env.vals) (val_terms items)
      → Continues texts.defs (length env.defs) (def_terms items)
      → (n : ℕ) (v : ProgramVal)
      → slice_get vals n ≡ Some v
      → ValHolds texts e (length env.vals + n) v
  values_hold vals_none h f a t n v q = absurd (no_element q)
  values_hold (vals_next {env = env} {items = items} {vals = vals} (derives_val {ty' = ty'} {term = term} {term' = term'} d ends b) rest) h f a t zero v q =
      let value : ProgramVal = record { ty = ty'; term = term' } in
      let tree : ValTree = record { term = term'; skeleton = skeleton ty' } in
      let at = length env.vals in
      let is = entries at tree (first_of_rest vs at tree (trees_of vals) f) in
      let next = val_holds texts env e h d ends b (first_of_rest texts.vals at term (val_terms items) a) is in
      let there : at ≡ at + zero = omega arith in
      subst (λ x. ValHolds texts e (at + zero) x) (same_Some value v q)
      (subst (λ m. ValHolds texts e m value) there (record {
        does = next.does.vals at ty' (at_end env.vals ty');
        realises = next.realise.vals at ty' (at_end env.vals ty');
        denotes = is;
      }))
  values_hold (vals_next {env = env} {items = items} {vals = vals} (derives_val {ty' = ty'} {term = term} {term' = term'} d ends b) rest) h f a t (suc n) v q =
      let tree : ValTree = record { term = term'; skeleton = skeleton ty' } in
      let at = length env.vals in
      let is = entries at tree (first_of_rest vs at tree (trees_of vals) f) in
      let next = val_holds texts env e h d ends b (first_of_rest texts.vals at term (val_terms items) a) is in
      subst (λ m. ValHolds texts e m v) (sym (further env.vals ty' n))
      (values_hold rest next (continues_next vs env.vals ty' tree (trees_of vals) f)
      (continues_next texts.vals env.vals ty' term (val_terms items) a) t n v q)
  values_hold (vals_next {env = env} {items = items} (derives_def {ty' = ty'} {term = term} {term' = term'} d b) rest) h f a t n v q =
      values_hold rest (def_holds texts env e h d b (first_of_rest texts.defs (length env.defs) term (def_terms items) t)) f a
      (continues_next texts.defs env.defs (ty', term') term (def_terms items) t) n v q
  values_hold (vals_next (derives_rec c b i j) rest) h f a t n v q = values_hold rest (rec_holds h (derives_rec c b i j)) f a t n v q
  values_hold (vals_next (derives_abbreviation b) rest) h f a t n v q = values_hold rest h f a t n v q
  values_hold (vals_next (derives_pred b c) rest) h f a t n v q = values_hold rest h f a t n v q
