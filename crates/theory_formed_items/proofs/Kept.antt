-- Each item keeps an environment formed.
use Rattle.std.proofs.Common.{◌≡◌, ℕ, zero, List, [], ◌∷◌, ◌++◌, length, All, map, Some, refl, sym, subst, inl, inr}
use Rattle.std.specs.Prelude.{slice_get}
use Rattle.std.proofs.lemmas.List.Elements.{All-head, All-tail}
use Rattle.htt_syntax.specs.Trees.{MonoTree, TyTree, TermTree, FormulaTree, y_mono, m_word}
use Rattle.theory_truth.specs.Predicates.{RecTree}
use Rattle.theory_truth.specs.Atoms.{IsFounded}
use Rattle.theory_typing.specs.Contexts.{Context, Environment, Obligation, EndsInHoare, en_term}
use Rattle.theory_items.specs.Items.{with_params, zero_context, next_context, ItemTree, Added, with_def, with_val, with_rec, with_added, Derives}
use Rattle.theory_items.specs.Items.{derives_abbreviation, derives_pred, derives_def, derives_val, derives_rec}
use Rattle.theory_items_sound.proofs.Founded.{earlier_atoms, next_atoms}
use Rattle.theory_items_sound.proofs.Files.{val_file, rec_file}
use Rattle.theory_items.proofs.Lists.{appended}
use Rattle.theory_formed_shapes.specs.Shapes.{shape_of, shapes_of}
use Rattle.theory_formed_shapes.specs.Formed.{FileShapes, file_shapes, IsFormedMono, z_m_word, IsFormedTerm, IsFormedTy, z_mono, IsFormedFormula}
use Rattle.theory_formed_shapes.specs.Environments.{IsFormedContext, formed_none, formed_heap, formed_term, FormsEnvironment}
use Rattle.theory_formed_typing.proofs.Closed.{closed_mono}
use Rattle.theory_formed_typing.proofs.Terms.{mono_formed}
use Rattle.theory_formed_typing.proofs.Typed.{formed_ty, formed_formula, fit_formed}
use Rattle.theory_formed_items.specs.Environments.{IsFormedRec, IsFormedEnvironment}
use Rattle.theory_formed_items.specs.Laws.{ItemsKeepFormed}
use Rattle.theory_formed_shapes.proofs.More.{HasFile, term_more, ty_more, formula_more}

-- a predicate with other bodies
same_params : (known : List RecTree) (r u : RecTree)
    → r.params ≡ u.params
    → map (λ (r : RecTree). r.params) (known ++ r ∷ []) ≡ map (λ (r : RecTree). r.params) (known ++ u ∷ [])
same_params [] r u q = λ j. q j ∷ []
same_params (x ∷ known) r u q = λ j. x.params ∷ same_params known r u q j

other_bodies : (env : Environment) (r : RecTree) (at_zero at_next : FormulaTree)
    → file_shapes (with_rec env r) ≡ file_shapes (with_rec env (record { params = r.params; at_zero = at_zero; at_next = at_next }))
other_bodies env r at_zero at_next = λ j. record {
  vals = map shape_of env.vals;
  made = [];
  recs = same_params env.recs r (record { params = r.params; at_zero = at_zero; at_next = at_next }) refl j;
}

-- the contexts of a predicate's bodies are formed
params_formed : {file : FileShapes} (params : List MonoTree) (g : Context)
    → All (IsFormedMono []) params
    → IsFormedContext file g
    → IsFormedContext file (with_params g params)
params_formed [] g d k = k
params_formed (t ∷ params) g d k =
    params_formed params (en_term (y_mono t) ∷ g) (All-tail (IsFormedMono []) t params d)
    (formed_term k (z_mono (closed_mono (shapes_of g) (All-head (IsFormedMono []) t params d))))

zero_formed : {file : FileShapes} (params : List MonoTree) → All (IsFormedMono []) params → IsFormedContext file (zero_context params)
zero_formed params d = formed_heap (params_formed params [] d formed_none)

next_formed : {file : FileShapes} (params : List MonoTree) → All (IsFormedMono []) params → IsFormedContext file (next_context params)
next_formed params d = formed_heap (params_formed params (en_term (y_mono m_word) ∷ []) d (formed_term formed_none (z_mono z_m_word)))

module _ (env : Environment) (known : IsFormedEnvironment env) where
  -- one definition more
  def_kept : (ty : TyTree) (term : TermTree)
      → IsFormedTy (file_shapes env) [] ty
      → IsFormedTerm (file_shapes env) [] term (shape_of ty)
      → IsFormedEnvironment (with_def env ty term)
  def_kept ty term d e = record {
    forms = record {
      vals = known.forms.vals;
      def_types = λ n u q. elim (appended env.defs (ty, term) n u q) [
        | inl f ↦ known.forms.def_types n u f
        | inr (p, f) ↦ subst (λ (x : TyTree × TermTree). IsFormedTy (file_shapes env) [] (x.0)) f d
      ];
      def_terms = λ n u q. elim (appended env.defs (ty, term) n u q) [
        | inl f ↦ known.forms.def_terms n u f
        | inr (p, f) ↦ subst (λ (x : TyTree × TermTree). IsFormedTerm (file_shapes env) [] (x.1) (shape_of (x.0))) f e
      ];
      rec_params = known.forms.rec_params;
    };
    vals_end = known.vals_end;
    recs_formed = known.recs_formed;
    recs_founded = known.recs_founded;
  }

  rec_more : {more : FileShapes} → HasFile (file_shapes env) more → (r : RecTree) → IsFormedRec (file_shapes env) r → IsFormedRec more r
  rec_more m r d = record { params = d.params; at_zero = formula_more m d.at_zero; at_next = formula_more m d.at_next }

  -- one value more
  val_kept : (ty : TyTree) → IsFormedTy (file_shapes env) [] ty → EndsInHoare ty → IsFormedEnvironment (with_val env ty)
  val_kept ty d ends =
      let m = val_file env ty in
      record {
        forms = record {
          vals = λ n u q. elim (appended env.vals ty n u q) [
            | inl f ↦ ty_more m (known.forms.vals n u f)
            | inr (p, f) ↦ subst (IsFormedTy (file_shapes (with_val env ty)) []) f (ty_more m d)
          ];
          def_types = λ n u q. ty_more m (known.forms.def_types n u q);
          def_terms = λ n u q. term_more m (known.forms.def_terms n u q);
          rec_params = known.forms.rec_params;
        };
        vals_end = λ n u q. elim (appended env.vals ty n u q) [ inl f ↦ known.vals_end n u f | inr (p, f) ↦ subst EndsInHoare f ends ];
        recs_formed = λ n r q. rec_more m r (known.recs_formed n r q);
        recs_founded = known.recs_founded;
      }

  -- one recursive predicate more
  rec_forms : (r : RecTree) → All (IsFormedMono []) r.params → FormsEnvironment (with_rec env r)
  rec_forms r d =
      let m = rec_file env r in
      record {
        vals = λ n u q. ty_more m (known.forms.vals n u q);
        def_types = λ n u q. ty_more m (known.forms.def_types n u q);
        def_terms = λ n u q. term_more m (known.forms.def_terms n u q);
        rec_params = λ n u q. elim (appended env.recs r n u q) [
          | inl f ↦ known.forms.rec_params n u f
          | inr (p, f) ↦ subst (λ (x : RecTree). All (IsFormedMono []) x.params) f d
        ];
      }

  rec_kept : (r : RecTree) → IsFormedRec (file_shapes (with_rec env r)) r → IsFounded (length env.recs) r → IsFormedEnvironment (with_rec env r)
  rec_kept r d founded = record {
    forms = rec_forms r d.params;
    vals_end = known.vals_end;
    recs_formed = λ n u q. elim (appended env.recs r n u q) [
      | inl f ↦ rec_more (rec_file env r) u (known.recs_formed n u f)
      | inr (p, f) ↦ subst (IsFormedRec (file_shapes (with_rec env r))) f d
    ];
    recs_founded = λ n u q. elim (appended env.recs r n u q) [
      | inl f ↦ known.recs_founded n u f
      | inr (p, f) ↦ subst (λ (k : ℕ). IsFounded k u) (sym p) (subst (IsFounded (length env.recs)) f founded)
    ];
  }

  kept : {item : ItemTree} {added : Added} {o : List Obligation} → Derives env [] item added o → IsFormedEnvironment (with_added env added)
  kept (derives_abbreviation a) = known
  kept (derives_pred a b) = known
  kept (derives_def {ty' = ty'} {term' = term'} a b) =
      let d = formed_ty env known.forms a formed_none in def_kept ty' term' d (fit_formed env known.forms b formed_none d)
  kept (derives_val {ty' = ty'} a ends b) = val_kept ty' (formed_ty env known.forms a formed_none) ends
  kept (derives_rec {r = r} {at_zero = at_zero} {at_next = at_next} f a b i) =
      let params : All (IsFormedMono []) r.params = λ k t l. mono_formed (f k t l) in
      let made : RecTree = record { params = r.params; at_zero = at_zero; at_next = at_next } in
      let zero = formula_more (rec_file env made) (formed_formula env known.forms a (zero_formed r.params params)) in
      let next =
      subst (λ (file : FileShapes). IsFormedFormula file (shapes_of (next_context r.params)) at_next) (other_bodies env r at_zero at_next)
      (formed_formula (with_rec env r) (rec_forms r params) b (next_formed r.params params)) in
      rec_kept made (record { params = params; at_zero = zero; at_next = next })
      (record { zero_founded = earlier_atoms a; next_founded = next_atoms env r b (length r.params) i })

nothing_there : {A : Type 0} {x : A} (n : ℕ) → slice_get [] n ≡ Some x → ⊥
nothing_there n q = cc

pub items_keep_formed : ItemsKeepFormed
items_keep_formed = record {
  empty = record {
    forms = record {
      vals = λ n ty q. absurd (nothing_there n q);
      def_types = λ n d q. absurd (nothing_there n q);
      def_terms = λ n d q. absurd (nothing_there n q);
      rec_params = λ n r q. absurd (nothing_there n q);
    };
    vals_end = λ n ty q. absurd (nothing_there n q);
    recs_formed = λ n r q. absurd (nothing_there n q);
    recs_founded = λ n r q. absurd (nothing_there n q);
  };
  kept = λ env next item o k d. kept env k d;
}
