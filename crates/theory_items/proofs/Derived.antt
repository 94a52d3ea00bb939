-- An item adds at most one thing, with one list of obligations, and keeps the environment canonical.
use Rattle.std.proofs.Common.{◌≡◌, inl, inr, List, [], ◌∷◌, ◌++◌, All, map, refl, sym, subst}
use Rattle.std.proofs.lemmas.List.{map-append}
use Rattle.htt_syntax.specs.Trees.{TyTree, TermTree}
use Rattle.theory_truth.specs.Predicates.{RecTree}
use Rattle.theory_canonical.specs.Skeletons.{Skeleton, skeleton}
use Rattle.theory_canonical.specs.Contexts.{Heads}
use Rattle.theory_canonical.specs.Canonical.{IsCanonicalMono, IsCanonical, IsCanonicalTy}
use Rattle.theory_typing.specs.Contexts.{Context, Environment, FormsMono, Obligation}
use Rattle.theory_typing.proofs.Once.{ty_formed_once, formula_formed_once, fits_once}
use Rattle.theory_typing_canonical.specs.Environments.{standings, heads_of, IsCanonicalEnvironment, IsCanonicalContext, no_entry}
use Rattle.theory_typing_canonical.specs.Laws.{AreCanonical}
use Rattle.theory_typing_canonical.proofs.Entries.{none_owed, mono_canonical}
use Rattle.theory_typing_canonical.proofs.Typed.{formed_ty, fitted}
use Rattle.theory_items.specs.Items.{ItemTree, Added, adds_def, adds_val, adds_rec, with_def, with_val, with_rec, with_added, Derives, derives_abbreviation}
use Rattle.theory_items.specs.Items.{derives_pred, derives_def, derives_val, derives_rec}
use Rattle.theory_items.specs.Laws.{ItemsGiveOne, ItemsKeepCanonical}
use Rattle.theory_items.proofs.Lists.{appended}
use Rattle.theory_items.proofs.MoreHeads.{has_more, ty_more, term_more}

items_once : (env : Environment) (g : Context) (item : ItemTree) (added other : Added) (o p : List Obligation)
    → Derives env g item added o
    → Derives env g item other p
    → (added ≡ other) × (o ≡ p)
items_once env g item added other o p (derives_abbreviation a) (derives_abbreviation b) = (refl, refl)
items_once env g item added other o p (derives_pred a b) (derives_pred c d) = (refl, refl)
items_once env g item added other o p (derives_def a b) (derives_def c d) =
    let x = ty_formed_once env refl a c in
    let y = fits_once env refl x b d in
    ((λ j. adds_def (x j) (y.0 j)), y.1)
items_once env g item added other o p (derives_val a h b) (derives_val c k d) =
    let x = ty_formed_once env refl a c in
    let y = fits_once env refl x b d in
    ((λ j. adds_val (x j) (y.0 j)), y.1)
items_once env g item added other o p (derives_rec {r = r} f a b i) (derives_rec l c d k) =
    let x = formula_formed_once env refl a c in
    let y = formula_formed_once (with_rec env r) refl b d in
    ((λ j. adds_rec (record { params = r.params; at_zero = x j; at_next = y j })), refl)

pub items_give_one : ItemsGiveOne
items_give_one = items_once

module _ (env : Environment) (known : IsCanonicalEnvironment env) where
  def_added : (ty : TyTree) (term : TermTree)
      → IsCanonicalTy (heads_of env) [] ty
      → IsCanonical (heads_of env) [] term (skeleton ty)
      → IsCanonicalEnvironment (with_def env ty term)
  def_added ty term d e = record {
    val_types = known.val_types;
    def_types = λ number definition f. elim (appended env.defs (ty, term) number definition f) [
      | inl g ↦ known.def_types number definition g
      | inr (p, g) ↦ subst (λ (x : TyTree × TermTree). IsCanonicalTy (heads_of env) [] (x.0)) g d
    ];
    def_terms = λ number definition f. elim (appended env.defs (ty, term) number definition f) [
      | inl g ↦ known.def_terms number definition g
      | inr (p, g) ↦ subst (λ (x : TyTree × TermTree). IsCanonical (heads_of env) [] (x.1) (skeleton (x.0))) g e
    ];
    rec_params = known.rec_params;
  }

  rec_added : (r : RecTree) → All (FormsMono []) r.params → IsCanonicalEnvironment (with_rec env r)
  rec_added r d = record {
    val_types = known.val_types;
    def_types = known.def_types;
    def_terms = known.def_terms;
    rec_params = λ number other f. elim (appended env.recs r number other f) [
      | inl g ↦ known.rec_params number other g
      | inr (p, g) ↦ subst (λ (x : RecTree). All (IsCanonicalMono []) x.params) g (λ k t l. mono_canonical (d k t l))
    ];
  }

  heads_added : (ty : TyTree) → record { vals = map skeleton env.vals ++ skeleton ty ∷ []; made = [] } ≡ heads_of (with_val env ty)
  heads_added ty = λ j. record { vals = sym (map-append skeleton env.vals (ty ∷ [])) j; made = [] }

  more_ty : (added ty : TyTree) → IsCanonicalTy (heads_of env) [] ty → IsCanonicalTy (heads_of (with_val env added)) [] ty
  more_ty added ty d = subst (λ (h : Heads). IsCanonicalTy h [] ty) (heads_added added) (ty_more (has_more (map skeleton env.vals) (skeleton added ∷ []) []) d)

  more_term : (added : TyTree) (term : TermTree) (s : Skeleton) → IsCanonical (heads_of env) [] term s → IsCanonical (heads_of (with_val env added)) [] term s
  more_term added term s d =
      subst (λ (h : Heads). IsCanonical h [] term s) (heads_added added)
      (term_more (has_more (map skeleton env.vals) (skeleton added ∷ []) []) d)

  val_added : (ty : TyTree) → IsCanonicalTy (heads_of env) [] ty → IsCanonicalEnvironment (with_val env ty)
  val_added ty d = record {
    val_types = λ number other f. elim (appended env.vals ty number other f) [
      | inl g ↦ more_ty ty other (known.val_types number other g)
      | inr (p, g) ↦ subst (λ (x : TyTree). IsCanonicalTy (heads_of (with_val env ty)) [] x) g (more_ty ty ty d)
    ];
    def_types = λ number definition f. more_ty ty (definition.0) (known.def_types number definition f);
    def_terms = λ number definition f. more_term ty (definition.1) (skeleton (definition.0)) (known.def_terms number definition f);
    rec_params = known.rec_params;
  }

  next_canonical : {item : ItemTree} {added : Added} {o : List Obligation} → Derives env [] item added o → IsCanonicalEnvironment (with_added env added)
  next_canonical (derives_abbreviation a) = known
  next_canonical (derives_pred a b) = known
  next_canonical (derives_def {ty' = ty'} {term' = term'} a b) =
      let x = formed_ty env known no_entry a in def_added ty' term' x (fitted env known no_entry x b).term
  next_canonical (derives_val {ty' = ty'} a h b) = val_added ty' (formed_ty env known no_entry a)
  next_canonical (derives_rec {r = r} {at_zero = at_zero} {at_next = at_next} f a b i) =
      rec_added (record { params = r.params; at_zero = at_zero; at_next = at_next }) f

  owed_canonical : {g : Context} {item : ItemTree} {added : Added} {o : List Obligation}
      → IsCanonicalContext (heads_of env) g
      → Derives env g item added o
      → AreCanonical (heads_of env) o
  owed_canonical c (derives_abbreviation a) = none_owed (heads_of env)
  owed_canonical c (derives_pred a b) = none_owed (heads_of env)
  owed_canonical c (derives_def a b) = (fitted env known c (formed_ty env known c a) b).all
  owed_canonical c (derives_val a h b) = (fitted env known c (formed_ty env known c a) b).all
  owed_canonical c (derives_rec f a b i) = none_owed (heads_of env)

  value_canonical : {g : Context} {item : ItemTree} {ty : TyTree} {term : TermTree} {o : List Obligation}
      → IsCanonicalContext (heads_of env) g
      → Derives env g item (adds_val ty term) o
      → IsCanonicalTy (heads_of env) (standings g) ty × IsCanonical (heads_of env) (standings g) term (skeleton ty)
  value_canonical c (derives_val a h b) = let x = formed_ty env known c a in (x, (fitted env known c x b).term)

pub items_keep_canonical : ItemsKeepCanonical
items_keep_canonical = record {
  environment = λ env item added o known d. next_canonical env known d;
  owed = λ env g item added o known c d. owed_canonical env known c d;
  value = λ env g item ty term o known c d. value_canonical env known c d;
}
