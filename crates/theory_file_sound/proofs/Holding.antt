-- A file holds item by item: its values and definitions mean their types, and their texts do what they
-- denote.
use Rattle.std.proofs.Common.{◌≡◌, ℕ, zero, suc, List, [], ◌∷◌, ◌++◌, length, Some, refl, sym, ap, subst}
use Rattle.std.specs.Prelude.{slice_get}
use Rattle.htt_syntax.specs.Trees.{ProofTree}
use Rattle.theory_meaning.specs.Closures.{Items}
use Rattle.theory_truth.specs.Predicates.{RecTree}
use Rattle.theory_canonical.specs.Skeletons.{skeleton}
use Rattle.theory_typing.specs.Contexts.{Environment, Obligation}
use Rattle.theory_typing_canonical.specs.Environments.{heads_of}
use Rattle.theory_logic_rules.specs.Rules.{Proves}
use Rattle.theory_items.specs.Items.{ItemTree, Added, with_added, Derives, derives_abbreviation, derives_pred, derives_def, derives_val, derives_rec}
use Rattle.theory_denotation.specs.Valuations.{den_term, HeadEntries}
use Rattle.theory_denotation.specs.Denotation.{term_den, ValTree}
use Rattle.theory_denotation.specs.Valued.{HeadsValued}
use Rattle.theory_typing_sound.specs.Environments.{IsTrueGoal, AllTrue}
use Rattle.theory_file_steps.specs.Laws.{FileHolds}
use Rattle.theory_file_steps.proofs.Growing.{sound}
use Rattle.theory_file_derived.specs.Derived.{DerivesAll, derives_none, derives_more, val_terms, def_terms}
use Rattle.theory_file_obligations.proofs.True.{proved_goal}
use Rattle.theory_file_sound.proofs.Values.{vals_of}
use Rattle.theory_items_sound.proofs.Founded.{more_length}

-- The second list is what follows so many elements of the first.
abbrev pub Follows : {A : Type 0} → List A → ℕ → List A → Type 0
Follows whole zero rest = whole ≡ rest
Follows [] (suc k) rest = ⊥
Follows (x ∷ whole) (suc k) rest = Follows whole k rest

follows_get : {A : Type 0} (whole : List A) (k : ℕ) (x : A) (rest : List A) → Follows whole k (x ∷ rest) → slice_get whole k ≡ Some x
follows_get whole zero x rest f = ap (λ l. slice_get l zero) f
follows_get [] (suc k) x rest f = absurd f
follows_get (y ∷ whole) (suc k) x rest f = follows_get whole k x rest f

rest_of : {A : Type 0} (whole : List A) (x : A) (rest : List A) → whole ≡ x ∷ rest → Follows whole (suc zero) rest
rest_of [] x rest q = cc
rest_of (y ∷ whole) x rest q = cc

follows_next : {A : Type 0} (whole : List A) (k : ℕ) (x : A) (rest : List A) → Follows whole k (x ∷ rest) → Follows whole (suc k) rest
follows_next whole zero x rest f = rest_of whole x rest f
follows_next [] (suc k) x rest f = absurd f
follows_next (y ∷ whole) (suc k) x rest f = follows_next whole k x rest f

follows_more : {A B : Type 0} (whole : List A) (known : List B) (y : B) (x : A) (rest : List A)
    → Follows whole (length known) (x ∷ rest)
    → Follows whole (length (known ++ y ∷ [])) rest
follows_more whole known y x rest f = subst (λ (n : ℕ). Follows whole n rest) (sym (more_length known y)) (follows_next whole (length known) x rest f)

-- Each obligation of each item is proved in the final environment.
abbrev pub AreProved : Environment → List Obligation → Type 0
AreProved final owed = (k : ℕ) (o : Obligation) → slice_get owed k ≡ Some o → (p : ProofTree) × Proves final o.context [] p o.goal

abbrev pub AllProved : Environment → List (List Obligation) → Type 0
AllProved final [] = Unit {0}
AllProved final (owed ∷ rows) = AreProved final owed × AllProved final rows

all_true : (table : List RecTree) (e : HeadEntries) (owed : List Obligation)
    → ((k : ℕ) (o : Obligation) → slice_get owed k ≡ Some o → IsTrueGoal table e o)
    → AllTrue table e owed
all_true table e [] f = tt
all_true table e (o ∷ owed) f = (f zero o refl, all_true table e owed (λ k. f (suc k)))

-- The entry of each value is what its term denotes.
abbrev pub EntriesDenote : List ValTree → HeadEntries → Type 0
EntriesDenote vs e = (n : ℕ) (v : ValTree) → slice_get vs n ≡ Some v → e.vals n ≡ den_term v.skeleton (term_den e [] v.term v.skeleton)

module _ (final : Environment) (texts : Items) (vs : List ValTree) (e : HeadEntries) (valued : HeadsValued (heads_of final) e)
    (entries : EntriesDenote vs e) where
  owed_true : {env : Environment} {item : ItemTree} {added : Added} {owed : List Obligation} {items : List ItemTree}
      {rows : List (List Obligation)}
      → FileHolds final.recs texts env e
      → Derives env [] item added owed
      → DerivesAll (with_added env added) items final rows
      → AreProved final owed
      → AllTrue final.recs e owed
  owed_true {env = env} {item = item} {added = added} {owed = owed} {items = items} {rows = rows} h d rest p =
      all_true final.recs e owed
      (λ k o q. let r = p k o q in proved_goal env final item added owed items rows h.sound d rest e valued k o r.0 q r.1)

  pub all_hold : {env : Environment} {items : List ItemTree} {rows : List (List Obligation)} (d : DerivesAll env items final rows)
      → FileHolds final.recs texts env e
      → Follows vs (length env.vals) (vals_of d)
      → Follows texts.vals (length env.vals) (val_terms items)
      → Follows texts.defs (length env.defs) (def_terms items)
      → AllProved final rows
      → FileHolds final.recs texts final e
  all_hold derives_none h f v t p = h
  all_hold (derives_more {env = env} {items = items} {owed = owed}
      (derives_val {ty = ty} {ty' = ty'} {term = term} {term' = term'} a ends b) rest) h f v t p =
      let value : ValTree = record { term = term'; skeleton = skeleton ty' } in
      all_hold rest
      (sound.val final.recs texts env e h ty ty' term term' owed a ends b (owed_true h (derives_val a ends b) rest p.0)
      (follows_get texts.vals (length env.vals) term (val_terms items) v)
      (entries (length env.vals) value (follows_get vs (length env.vals) value (vals_of rest) f)))
      (follows_more vs env.vals ty' value (vals_of rest) f) (follows_more texts.vals env.vals ty' term (val_terms items) v) t p.1
  all_hold (derives_more {env = env} {items = items} {owed = owed} (derives_def {ty = ty} {ty' = ty'} {term = term} {term' = term'} a b) rest) h f v t p =
      all_hold rest
      (sound.definition final.recs texts env e h ty ty' term term' owed a b (owed_true h (derives_def a b) rest p.0)
      (follows_get texts.defs (length env.defs) term (def_terms items) t))
      f v (follows_more texts.defs env.defs (ty', term') term (def_terms items) t) p.1
  all_hold (derives_more {env = env} {added = added} {owed = owed} (derives_rec {r = r} c a b i) rest) h f v t p =
      all_hold rest (sound.recursive final.recs texts env e h r added owed (derives_rec c a b i)) f v t p.1
  all_hold (derives_more (derives_abbreviation a) rest) h f v t p = all_hold rest h f v t p.1
  all_hold (derives_more (derives_pred a b) rest) h f v t p = all_hold rest h f v t p.1
