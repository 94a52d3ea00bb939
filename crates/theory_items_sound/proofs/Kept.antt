-- Each item keeps an environment sound.
use Rattle.std.proofs.Common.{◌≡◌, ℕ, List, [], ◌∷◌, ◌++◌, length, All, map, Some, sym, subst, inl, inr}
use Rattle.std.specs.Prelude.{slice_get}
use Rattle.std.proofs.lemmas.List.{map-append}
use Rattle.std.proofs.lemmas.List.Elements.{All-tail, All-head}
use Rattle.htt_syntax.specs.Trees.{MonoTree, TyTree, TermTree, y_mono, m_word}
use Rattle.theory_truth.specs.Predicates.{RecTree}
use Rattle.theory_truth.specs.Atoms.{IsFounded}
use Rattle.theory_canonical.specs.Skeletons.{skeleton}
use Rattle.theory_canonical.specs.Contexts.{Standing, Heads}
use Rattle.theory_canonical.specs.Canonical.{IsCanonicalMono, n_m_word, n_mono, IsCanonicalFormula}
use Rattle.theory_formed_shapes.specs.Shapes.{shape_of}
use Rattle.theory_formed_shapes.specs.Formed.{file_shapes, IsFormedTerm}
use Rattle.theory_formed_shapes.proofs.More.{term_more}
use Rattle.theory_formed_typing.proofs.Terms.{fit_term}
use Rattle.theory_typing.specs.Contexts.{Context, Environment, FormsMono, Obligation, EndsInHoare, en_term}
use Rattle.theory_typing_canonical.specs.Environments.{standings, heads_of, IsCanonicalEnvironment, IsCanonicalContext, no_entry, heap_entry, term_entry}
use Rattle.theory_typing_canonical.proofs.Entries.{closed_mono, mono_canonical}
use Rattle.theory_typing_canonical.proofs.Typed.{formed_ty, formed_formula}
use Rattle.theory_items.specs.Items.{with_params, zero_context, next_context, ItemTree, Added, with_def, with_val, with_rec, with_added, Derives}
use Rattle.theory_items.specs.Items.{derives_abbreviation, derives_pred, derives_def, derives_val, derives_rec}
use Rattle.theory_items.proofs.Derived.{items_keep_canonical}
use Rattle.theory_items.proofs.Lists.{appended}
use Rattle.theory_items.proofs.MoreHeads.{has_more, formula_more}
use Rattle.theory_items_sound.specs.Environments.{IsSoundRec, SoundEnvironment}
use Rattle.theory_items_sound.specs.Laws.{ItemsKeepSound}
use Rattle.theory_items_sound.proofs.Files.{val_file, rec_file}
use Rattle.theory_items_sound.proofs.Founded.{earlier_atoms, next_atoms}

-- the contexts of a predicate's bodies are canonical
params_entered : {heads : Heads} (params : List MonoTree) (g : Context)
    → All (IsCanonicalMono []) params
    → IsCanonicalContext heads g
    → IsCanonicalContext heads (with_params g params)
params_entered [] g d c = c
params_entered (t ∷ params) g d c =
    params_entered params (en_term (y_mono t) ∷ g) (All-tail (IsCanonicalMono []) t params d)
    (term_entry c (n_mono (closed_mono (standings g) (All-head (IsCanonicalMono []) t params d))))

pub zero_entered : {heads : Heads} (params : List MonoTree) → All (IsCanonicalMono []) params → IsCanonicalContext heads (zero_context params)
zero_entered params d = heap_entry (params_entered params [] d no_entry)

pub next_entered : {heads : Heads} (params : List MonoTree) → All (IsCanonicalMono []) params → IsCanonicalContext heads (next_context params)
next_entered params d = heap_entry (params_entered params (en_term (y_mono m_word) ∷ []) d (term_entry no_entry (n_mono n_m_word)))

module _ (env : Environment) (sound : SoundEnvironment env) where
  -- one definition more
  def_kept : (ty' : TyTree) (term' : TermTree)
      → IsCanonicalEnvironment (with_def env ty' term')
      → IsFormedTerm (file_shapes env) [] term' (shape_of ty')
      → SoundEnvironment (with_def env ty' term')
  def_kept ty' term' known formed = record {
    canonical = known;
    vals_end = sound.vals_end;
    defs_formed = λ number definition e. elim (appended env.defs (ty', term') number definition e) [
      | inl f ↦ sound.defs_formed number definition f
      | inr (p, f) ↦ subst (λ (d : TyTree × TermTree). IsFormedTerm (file_shapes env) [] (d.1) (shape_of (d.0))) f formed
    ];
    recs_sound = sound.recs_sound;
    recs_founded = sound.recs_founded;
  }

  -- one value more
  heads_added : (ty : TyTree) → record { vals = map skeleton env.vals ++ skeleton ty ∷ []; made = [] } ≡ heads_of (with_val env ty)
  heads_added ty = λ j. record { vals = sym (map-append skeleton env.vals (ty ∷ [])) j; made = [] }

  more_formula : (ty : TyTree) (g : List Standing) (F : _) → IsCanonicalFormula (heads_of env) g F → IsCanonicalFormula (heads_of (with_val env ty)) g F
  more_formula ty g F d =
      subst (λ (h : Heads). IsCanonicalFormula h g F) (heads_added ty)
      (formula_more (has_more (map skeleton env.vals) (skeleton ty ∷ []) []) d)

  val_kept : (ty : TyTree) → IsCanonicalEnvironment (with_val env ty) → EndsInHoare ty → SoundEnvironment (with_val env ty)
  val_kept ty known ends = record {
    canonical = known;
    vals_end = λ number other e. elim (appended env.vals ty number other e) [ inl f ↦ sound.vals_end number other f | inr (p, f) ↦ subst EndsInHoare f ends ];
    defs_formed = λ number definition e. term_more (val_file env ty) (sound.defs_formed number definition e);
    recs_sound = λ number r e.
        let s = sound.recs_sound number r e in
        record {
          at_zero = more_formula ty (standings (zero_context r.params)) r.at_zero s.at_zero;
          at_next = more_formula ty (standings (next_context r.params)) r.at_next s.at_next;
        };
    recs_founded = sound.recs_founded;
  }

  -- one recursive predicate more
  rec_kept : (r : RecTree)
      → IsCanonicalEnvironment (with_rec env r)
      → IsSoundRec (heads_of env) r
      → IsFounded (length env.recs) r
      → SoundEnvironment (with_rec env r)
  rec_kept r known s founded = record {
    canonical = known;
    vals_end = sound.vals_end;
    defs_formed = λ number definition e. term_more (rec_file env r) (sound.defs_formed number definition e);
    recs_sound = λ number other e. elim (appended env.recs r number other e) [
      | inl f ↦ sound.recs_sound number other f
      | inr (p, f) ↦ subst (IsSoundRec (heads_of env)) f s
    ];
    recs_founded = λ number other e. elim (appended env.recs r number other e) [
      | inl f ↦ sound.recs_founded number other f
      | inr (p, f) ↦ subst (λ (n : ℕ). IsFounded n other) (sym p) (subst (IsFounded (length env.recs)) f founded)
    ];
  }

  monos_canonical : (params : List MonoTree) → All (FormsMono []) params → All (IsCanonicalMono []) params
  monos_canonical params d = λ k t l. mono_canonical (d k t l)

  -- an environment with a predicate of these parameters is canonical
  rec_known : (r : RecTree) → All (FormsMono []) r.params → IsCanonicalEnvironment (with_rec env r)
  rec_known r d = record {
    val_types = sound.canonical.val_types;
    def_types = sound.canonical.def_types;
    def_terms = sound.canonical.def_terms;
    rec_params = λ number other e. elim (appended env.recs r number other e) [
      | inl f ↦ sound.canonical.rec_params number other f
      | inr (p, f) ↦ subst (λ (x : RecTree). All (IsCanonicalMono []) x.params) f (monos_canonical r.params d)
    ];
  }

  kept : {item : ItemTree} {added : Added} {o : List Obligation} → Derives env [] item added o → SoundEnvironment (with_added env added)
  kept (derives_abbreviation a) = sound
  kept (derives_pred a b) = sound
  kept {item = item} {added = added} {o = o} (derives_def {ty' = ty'} {term' = term'} a b) =
      def_kept ty' term' (items_keep_canonical.environment env item added o sound.canonical (derives_def a b))
      (fit_term env sound.canonical sound.defs_formed b no_entry (formed_ty env sound.canonical no_entry a))
  kept {item = item} {added = added} {o = o} (derives_val {ty' = ty'} a ends b) =
      val_kept ty' (items_keep_canonical.environment env item added o sound.canonical (derives_val a ends b)) ends
  kept (derives_rec {r = r} {at_zero = at_zero} {at_next = at_next} f a b i) =
      let d = monos_canonical r.params f in
      rec_kept (record { params = r.params; at_zero = at_zero; at_next = at_next })
      (rec_known (record { params = r.params; at_zero = at_zero; at_next = at_next }) f)
      (record {
        at_zero = formed_formula env sound.canonical (zero_entered r.params d) a;
        at_next = formed_formula (with_rec env r) (rec_known r f) (next_entered r.params d) b;
      })
      (record { zero_founded = earlier_atoms a; next_founded = next_atoms env r b (length r.params) i })

nothing_there : {A : Type 0} {x : A} (n : ℕ) → slice_get [] n ≡ Some x → ⊥
nothing_there n e = cc

pub items_keep_sound : ItemsKeepSound
items_keep_sound = record {
  empty = record {
    canonical = record {
      val_types = λ n ty q. absurd (nothing_there n q);
      def_types = λ n d q. absurd (nothing_there n q);
      def_terms = λ n d q. absurd (nothing_there n q);
      rec_params = λ n r q. absurd (nothing_there n q);
    };
    vals_end = λ n ty q. absurd (nothing_there n q);
    defs_formed = λ n d q. absurd (nothing_there n q);
    recs_sound = λ n r q. absurd (nothing_there n q);
    recs_founded = λ n r q. absurd (nothing_there n q);
  };
  kept = λ env next item o s d. kept env s d;
}
