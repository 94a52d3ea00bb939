-- A value or definition that is typed where those before it do and realise what they denote, does and
-- realises what it denotes.
use Rattle.std.proofs.Common.{List, ◌≡◌, ℕ, [], length, Some, slice_get, sym, subst, ◌⊎◌, inl, inr}
use Rattle.htt_syntax.specs.Trees.{TyTree, TermTree}
use Rattle.theory_meaning.specs.Closures.{nothing, Items}
use Rattle.theory_meaning.specs.Meaning.{item_result, inner_result}
use Rattle.theory_canonical.specs.Skeletons.{skeleton}
use Rattle.theory_typing.specs.Contexts.{Environment, Obligation, EndsInHoare}
use Rattle.theory_typing.specs.Laws.{none}
use Rattle.theory_typing.specs.Typing.{in_program, FormsTy, Fits}
use Rattle.theory_typing_canonical.specs.Environments.{no_entry}
use Rattle.theory_typing_canonical.proofs.Typed.{formed_ty}
use Rattle.theory_truth.specs.Predicates.{RecTree}
use Rattle.theory_items.proofs.Lists.{appended}
use Rattle.theory_items.specs.Items.{i_def, i_val, i_rec, adds_def, adds_val, Added, with_def, with_val, with_added, Derives, derives_def, derives_val, derives_rec}
use Rattle.theory_items_sound.specs.Environments.{SoundEnvironment}
use Rattle.theory_items_sound.proofs.Kept.{items_keep_sound}
use Rattle.theory_denotation.specs.Valuations.{den_term, HeadEntries}
use Rattle.theory_denotation.specs.Denotation.{term_den}
use Rattle.theory_meaning_simulation.specs.Simulation.{GivesSo, Does, match_none, ValDoes, ItemsDo}
use Rattle.theory_meaning_simulation.proofs.Valued.{entered_so}
use Rattle.theory_meaning_simulation.proofs.Denoted.{fit_do}
use Rattle.theory_adequacy.specs.Adequacy.{EventuallyGives, Realises, realised_none, ValRealises, ItemsRealise}
use Rattle.theory_adequacy.proofs.Fuel.{eventually_entered}
use Rattle.theory_adequacy_terms.proofs.Adequate.{fit_realises}

-- What holds of the declarations so far.
pub record Holding (items : Items) (env : Environment) (e : HeadEntries) : Type 0 where
  pub sound : SoundEnvironment env
  pub does : ItemsDo items env e
  pub realise : ItemsRealise items env e

nothing_found : {A : Type 0} (n : ℕ) (x : A) → slice_get [] n ≡ Some x → ⊥
nothing_found n x q = cc

pub nothing_holds : (items : Items) (e : HeadEntries) → Holding items none e
nothing_holds items e = record {
  sound = items_keep_sound.empty;
  does = record { vals = λ n ty q. absurd (nothing_found n ty q); defs = λ n d q. absurd (nothing_found n d q) };
  realise = record { vals = λ n ty q. absurd (nothing_found n ty q); defs = λ n d q. absurd (nothing_found n d q) };
}

module _ (items : Items) (env : Environment) (e : HeadEntries) (h : Holding items env e) where
  -- what a typed term without variables does and realises
  term_does : {ty ty' : TyTree} {term term' : TermTree} {o : List Obligation}
      → FormsTy env [] ty ty'
      → Fits env in_program [] term ty' term' o
      → (k i : ℕ)
      → GivesSo (inner_result items i nothing term) (λ u. Does items [] ty' (skeleton ty') k u (term_den e [] term' (skeleton ty')))
  term_does {ty' = ty'} {term = term} {term' = term'} f d k i =
      entered_so items (λ u. Does items [] ty' (skeleton ty') k u (term_den e [] term' (skeleton ty'))) nothing term
      (λ n. fit_do items env e h.sound.canonical h.does d (formed_ty env h.sound.canonical no_entry f) no_entry match_none n) i

  term_realises : {ty ty' : TyTree} {term term' : TermTree} {o : List Obligation}
      → FormsTy env [] ty ty'
      → Fits env in_program [] term ty' term' o
      → EventuallyGives (λ i. inner_result items i nothing term) (λ u. Realises items [] ty' (skeleton ty') u (term_den e [] term' (skeleton ty')))
  term_realises {ty' = ty'} {term = term} {term' = term'} f d =
      eventually_entered items (λ u. Realises items [] ty' (skeleton ty') u (term_den e [] term' (skeleton ty'))) nothing term
      (fit_realises items env e h.sound.canonical h.realise d (formed_ty env h.sound.canonical no_entry f) no_entry realised_none)

  val_does : {ty ty' : TyTree} {term term' : TermTree} {o : List Obligation} (n : ℕ) (u : TyTree)
      → FormsTy env [] ty ty'
      → Fits env in_program [] term ty' term' o
      → slice_get items.vals (length env.vals) ≡ Some term
      → e.vals (length env.vals) ≡ den_term (skeleton ty') (term_den e [] term' (skeleton ty'))
      → (slice_get env.vals n ≡ Some u) ⊎ ((n ≡ length env.vals) × (ty' ≡ u))
      → ValDoes items e n u
  val_does n u f d at is (inl p) = h.does.vals n u p
  val_does {ty' = ty'} {term' = term'} n u f d at is (inr (p, q)) =
      subst (ValDoes items e n) q
      (subst (λ m. ValDoes items e m ty') (sym p) (record {
        of = term_den e [] term' (skeleton ty');
        is = is;
        does = λ k i.
            subst (λ x.
            GivesSo (item_result (inner_result items i) x) (λ v. Does items [] ty' (skeleton ty') k v (term_den e [] term' (skeleton ty'))))
            (sym at) (term_does f d k i);
      }))

  val_realises : {ty ty' : TyTree} {term term' : TermTree} {o : List Obligation} (n : ℕ) (u : TyTree)
      → FormsTy env [] ty ty'
      → Fits env in_program [] term ty' term' o
      → slice_get items.vals (length env.vals) ≡ Some term
      → e.vals (length env.vals) ≡ den_term (skeleton ty') (term_den e [] term' (skeleton ty'))
      → (slice_get env.vals n ≡ Some u) ⊎ ((n ≡ length env.vals) × (ty' ≡ u))
      → ValRealises items e n u
  val_realises n u f d at is (inl p) = h.realise.vals n u p
  val_realises {ty' = ty'} {term' = term'} n u f d at is (inr (p, q)) =
      subst (ValRealises items e n) q
      (subst (λ m. ValRealises items e m ty') (sym p) (record {
        of = term_den e [] term' (skeleton ty');
        is = is;
        realises =
            subst (λ x.
            EventuallyGives (λ i. item_result (inner_result items i) x)
            (λ v. Realises items [] ty' (skeleton ty') v (term_den e [] term' (skeleton ty')))) (sym at) (term_realises f d);
      }))

  pub val_holds : {ty ty' : TyTree} {term term' : TermTree} {o : List Obligation}
      → FormsTy env [] ty ty'
      → EndsInHoare ty'
      → Fits env in_program [] term ty' term' o
      → slice_get items.vals (length env.vals) ≡ Some term
      → e.vals (length env.vals) ≡ den_term (skeleton ty') (term_den e [] term' (skeleton ty'))
      → Holding items (with_val env ty') e
  val_holds {ty = ty} {ty' = ty'} {term = term} {term' = term'} {o = o} f ends d at is = record {
    sound = items_keep_sound.kept env (i_val ty term) (adds_val ty' term') o h.sound (derives_val f ends d);
    does = record { vals = λ n u q. val_does n u f d at is (appended env.vals ty' n u q); defs = h.does.defs };
    realise = record { vals = λ n u q. val_realises n u f d at is (appended env.vals ty' n u q); defs = h.realise.defs };
  }

  -- one definition more
  DefDoes : ℕ → TyTree × TermTree → Type 0
  DefDoes n definition =
      (k i : ℕ)
      → GivesSo (item_result (inner_result items i) (slice_get items.defs n))
      (λ u. Does items [] (definition.0) (skeleton (definition.0)) k u (term_den e [] (definition.1) (skeleton (definition.0))))

  DefRealises : ℕ → TyTree × TermTree → Type 0
  DefRealises n definition =
      EventuallyGives (λ i. item_result (inner_result items i) (slice_get items.defs n))
      (λ u. Realises items [] (definition.0) (skeleton (definition.0)) u (term_den e [] (definition.1) (skeleton (definition.0))))

  def_does : {ty ty' : TyTree} {term term' : TermTree} {o : List Obligation} (n : ℕ) (u : TyTree × TermTree)
      → FormsTy env [] ty ty'
      → Fits env in_program [] term ty' term' o
      → slice_get items.defs (length env.defs) ≡ Some term
      → (slice_get env.defs n ≡ Some u) ⊎ ((n ≡ length env.defs) × ((ty', term') ≡ u))
      → DefDoes n u
  unfolding DefDoes
  def_does n u f d at (inl p) = h.does.defs n u p
  def_does {ty' = ty'} {term' = term'} n u f d at (inr (p, q)) =
      subst (DefDoes n) q (subst (λ m. DefDoes m (ty', term')) (sym p) (λ k i.
      subst
      (λ x. GivesSo (item_result (inner_result items i) x) (λ v. Does items [] ty' (skeleton ty') k v (term_den e [] term' (skeleton ty'))))
      (sym at) (term_does f d k i)))

  def_realises : {ty ty' : TyTree} {term term' : TermTree} {o : List Obligation} (n : ℕ) (u : TyTree × TermTree)
      → FormsTy env [] ty ty'
      → Fits env in_program [] term ty' term' o
      → slice_get items.defs (length env.defs) ≡ Some term
      → (slice_get env.defs n ≡ Some u) ⊎ ((n ≡ length env.defs) × ((ty', term') ≡ u))
      → DefRealises n u
  unfolding DefRealises
  def_realises n u f d at (inl p) = h.realise.defs n u p
  def_realises {ty' = ty'} {term' = term'} n u f d at (inr (p, q)) =
      subst (DefRealises n) q (subst (λ m. DefRealises m (ty', term')) (sym p)
      (subst
      (λ x.
      EventuallyGives (λ i. item_result (inner_result items i) x)
      (λ v. Realises items [] ty' (skeleton ty') v (term_den e [] term' (skeleton ty')))) (sym at) (term_realises f d)))

  pub def_holds : {ty ty' : TyTree} {term term' : TermTree} {o : List Obligation}
      → FormsTy env [] ty ty'
      → Fits env in_program [] term ty' term' o
      → slice_get items.defs (length env.defs) ≡ Some term
      → Holding items (with_def env ty' term') e
  unfolding DefDoes DefRealises
  def_holds {ty = ty} {ty' = ty'} {term = term} {term' = term'} {o = o} f d at = record {
    sound = items_keep_sound.kept env (i_def ty term) (adds_def ty' term') o h.sound (derives_def f d);
    does = record { vals = h.does.vals; defs = λ n u q. def_does n u f d at (appended env.defs (ty', term') n u q) };
    realise = record { vals = h.realise.vals; defs = λ n u q. def_realises n u f d at (appended env.defs (ty', term') n u q) };
  }

-- a recursive predicate adds nothing that does or realises anything
pub rec_holds : {items : Items} {env : Environment} {e : HeadEntries} {r : RecTree} {added : Added} {o : List Obligation}
    → Holding items env e
    → Derives env [] (i_rec r) added o
    → Holding items (with_added env added) e
rec_holds {env = env} {r = r} {added = added} {o = o} h (derives_rec f a b i) = record {
  sound = items_keep_sound.kept env (i_rec r) added o h.sound (derives_rec f a b i);
  does = record { vals = h.does.vals; defs = h.does.defs };
  realise = record { vals = h.realise.vals; defs = h.realise.defs };
}
