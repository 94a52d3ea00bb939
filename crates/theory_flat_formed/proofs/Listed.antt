-- The flat bodies of a formed program's instances are typed, along the list.
use Rattle.std.proofs.Common.{◌≡◌, ℕ, zero, suc, List, ◌∷◌, reverse, All, Some, slice_get, refl, sym, ap, ◌∙◌, subst}
use Rattle.std.proofs.lemmas.List.{reverse-reverse}
use Rattle.std.proofs.lemmas.List.Elements.{All-nil, All-cons}
use Rattle.htt_syntax.specs.Trees.{MonoTree, TyTree, TermTree, CompTree, StepTree, y_mono, y_fun, y_all, y_hoare, y_at, triple}
use Rattle.theory_renaming.specs.Renaming.{rename_mono}
use Rattle.theory_values.specs.Values.{IsClosed}
use Rattle.theory_typing.specs.Contexts.{EndsInHoare}
use Rattle.theory_formed_shapes.specs.Shapes.{sh_mono, sh_comp, shape_of, dropping, in_term, Shapes}
use Rattle.theory_formed_shapes.specs.Formed.{MadeShape, FileShapes, IsFormedMono, IsFormedComp, z_ret, z_step, IsFormedStep, z_run, z_alloc, z_get, z_set, z_free, z_if, IsFormedTerm, IsFormedNeutral, IsClosedFile}
use Rattle.theory_formed_typing.proofs.Closed.{mapped}
use Rattle.theory_instances.specs.Calls.{ProgramVal, Program, bound_mono}
use Rattle.theory_instances.specs.Keys.{Key}
use Rattle.theory_instances.specs.Lists.{Taken, HasInstances}
use Rattle.theory_flat.specs.Flat.{FlatTree, FlatStepTree, flat_call, Instance, Flattens, flattens_ret, flattens_step, FlattensStep, flattens_run, flattens_alloc, IsFlat}
use Rattle.theory_flat.specs.Flat.{flattens_get, flattens_set, flattens_free, flattens_if, AreFlat, flat_none, flat_more}
use Rattle.theory_flat_typed.specs.Typed.{HasMonotype, IsTyped, typed_ret, typed_step, IsTypedStep, typed_call, typed_alloc, typed_get, typed_set, typed_free, typed_if, IsTypedInstance}
use Rattle.theory_flat_typed.specs.Typed.{AreTyped}
use Rattle.theory_instances_formed.specs.Formed.{made_of_head, made_shape, values_shapes, file_with, IsFormedProgram, IsFormedKey, formed_val, formed_fix}
use Rattle.theory_instances_formed.proofs.Shapes.{closed_renamed, formed_closed}
use Rattle.theory_instances_formed.proofs.Bodies.{fix_plain, fix_ty_shape}
use Rattle.theory_instances_formed.proofs.Taken.{reversed_closed}
use Rattle.theory_instances_formed.proofs.Listed.{step_bound, step_closed, file_closed, formed}
use Rattle.theory_flat_formed.specs.Laws.{FlatBodiesAreTyped}
use Rattle.theory_flat_formed.proofs.Terms.{EndsInComp, HeadsEnd, ends_filled, plain_ends, term_typed}
use Rattle.theory_flat_formed.proofs.Calls.{InstanceOf, instance_of, call_typed}

-- ---- heads lead to computations

ty_ends : (ty : TyTree) → EndsInHoare ty → EndsInComp (shape_of ty)
unfolding shape_of
ty_ends (y_mono mono) i = absurd i
ty_ends (y_fun argument answer) i = ends_filled (shape_of answer) dropping (ty_ends answer i)
ty_ends (y_all body) i = ty_ends body i
ty_ends (y_hoare (triple pre mono post)) i = tt
ty_ends (y_at at ty) i = absurd i

made_ends : {file : FileShapes} {p : Program} {key : Key} → IsFormedKey file p key → EndsInComp (made_shape key).whole
made_ends {key = key} (formed_val q f c d) = subst (λ h. EndsInComp (made_of_head key.captured h).whole) (sym q) tt
made_ends {key = key} (formed_fix {fix = fix} {s = s} q d c f) =
    subst (λ h. EndsInComp (made_of_head key.captured h).whole) (sym q) (subst EndsInComp (sym (fix_ty_shape d)) (plain_ends s (fix_plain d)))

heads_end : (recs : List (List MonoTree)) (p : Program) (keys : List Key)
    → IsFormedProgram recs p
    → ((n : ℕ) (k : Key) → slice_get keys n ≡ Some k → IsFormedKey (file_with recs p keys) p k)
    → HeadsEnd (file_with recs p keys)
heads_end recs p keys program known = record {
  vals = λ n s q.
      let o = mapped (λ (v : ProgramVal). shape_of v.ty) p.vals n s q in subst EndsInComp o.is (ty_ends o.of.ty (program.ends n o.of o.found));
  made = λ n m q.
      let o = mapped made_shape keys n m q in subst (λ (x : MadeShape). EndsInComp x.whole) o.is (made_ends (known n o.of o.found));
}

-- ---- bodies

module _ (recs : List (List MonoTree)) (p : Program) (keys : List Key) (instances : List Instance) (program : IsFormedProgram recs p)
    (known : (n : ℕ) (k : Key) → slice_get keys n ≡ Some k → IsFormedKey (file_with recs p keys) p k)
    (closed : IsClosedFile (file_with recs p keys)) (e : HeadsEnd (file_with recs p keys))
    (there : (n : ℕ) (k : Key) → slice_get keys n ≡ Some k → InstanceOf p instances n k) where
  abbrev file : FileShapes
  file = file_with recs p keys

  of_mono : (g : List MonoTree) {context : Shapes} {t : MonoTree} → context ≡ values_shapes g → IsFormedMono context t → IsClosed t
  of_mono g {t = t} q m = formed_closed g (subst (λ x. IsFormedMono x t) q m)

  of_term : (g : List MonoTree) {context : Shapes} {M : TermTree} {t : MonoTree}
      → context ≡ values_shapes g
      → All IsClosed g
      → IsFormedTerm file context M (sh_mono t)
      → HasMonotype g M t
  of_term g {M = M} {t = t} q c d = term_typed e g c (subst (λ x. IsFormedTerm file x M (sh_mono t)) q d)

  mutual
    comp_typed : (g : List MonoTree) {context : Shapes} {comp : CompTree} {flat : FlatTree} {s t : MonoTree}
        → IsFormedComp file context comp s
        → Flattens p keys g comp flat
        → context ≡ values_shapes g
        → All IsClosed g
        → s ≡ t
        → IsClosed t
        → IsTyped instances g flat t
    comp_typed g (z_ret {term = term} d) flattens_ret q c same k = typed_ret (subst (HasMonotype g term) same (of_term g q c d))
    comp_typed g {t = t} (z_step {step = step} {u = u} d more) (flattens_step {rest = rest} a b) q c same k =
        let bound : bound_mono step ≡ u = step_bound d in
        let u_closed : IsClosed u = step_closed g (subst (λ x. IsFormedStep file x step u) q d) in
        typed_step (step_typed g d a q c)
        (subst (λ x. IsTyped instances (x ∷ g) rest t) bound
        (comp_typed (bound_mono step ∷ g) more b (λ j. in_term (sh_mono (sym bound j)) ∷ q j)
        (All-cons IsClosed (bound_mono step) g (subst IsClosed (sym bound) u_closed) c) (ap (rename_mono suc) same ∙ closed_renamed suc k) k))

    step_typed : (g : List MonoTree) {context : Shapes} {step : StepTree} {flat : FlatStepTree} {u : MonoTree}
        → IsFormedStep file context step u
        → FlattensStep p keys g step flat
        → context ≡ values_shapes g
        → All IsClosed g
        → IsTypedStep instances g flat u
    step_typed g {flat = flat} (z_run {term = term} {t = t} d m) (flattens_run {number = number} {params = params} names) q c =
        let r = call_typed recs p keys instances program known closed e there g c (subst (λ x. IsFormedNeutral file x term (sh_comp t)) q d) names in
        subst (IsTypedStep instances g (flat_call number params)) r.result (typed_call r.there r.params)
    step_typed g (z_alloc m d) flattens_alloc q c = typed_alloc (of_mono g q m) (of_term g q c d)
    step_typed g (z_get m d) flattens_get q c = typed_get (of_mono g q m) (of_term g q c d)
    step_typed g (z_set m d d1) flattens_set q c = typed_set (of_mono g q m) (of_term g q c d) (of_term g q c d1)
    step_typed g (z_free m d) flattens_free q c = typed_free (of_mono g q m) (of_term g q c d)
    step_typed g (z_if m d a b) (flattens_if x y) q c =
        typed_if (of_mono g q m) (of_term g q c d) (comp_typed g a x q c refl (of_mono g q m)) (comp_typed g b y q c refl (of_mono g q m))

  -- ---- along the list

  abbrev RowFormed : Taken → Type 0
  RowFormed taken = (All IsClosed taken.params × IsClosed taken.result) × IsFormedComp file (values_shapes taken.params) taken.body taken.result

  instance_typed : {taken : Taken} {instance : Instance} → RowFormed taken → IsFlat p keys taken instance → IsTypedInstance instances instance
  instance_typed {taken = taken} {instance = instance} f flat =
      let params : reverse instance.params ≡ taken.params = ap reverse flat.params ∙ reverse-reverse taken.params in
      record {
        params = subst (All IsClosed) (sym flat.params) (reversed_closed taken.params (f.0.0));
        result = subst IsClosed (sym flat.result) (f.0.1);
        body =
            subst (IsTyped instances (reverse instance.params) instance.body) (sym flat.result)
            (subst (λ g. IsTyped instances g instance.body taken.result) (sym params)
            (comp_typed taken.params (f.1) flat.body refl (f.0.0) refl (f.0.1)));
      }

  all_typed : {rows : List Taken} {some : List Instance}
      → AreFlat p keys rows some
      → ((n : ℕ) (taken : Taken) → slice_get rows n ≡ Some taken → RowFormed taken)
      → All (IsTypedInstance instances) some
  all_typed flat_none f = All-nil (IsTypedInstance instances)
  all_typed (flat_more {taken = taken} {instance = instance} {rest = rest} a b) f =
      All-cons (IsTypedInstance instances) instance rest (instance_typed (f zero taken refl) a) (all_typed b (λ n t q. f (suc n) t q))

bodies_typed : (recs : List (List MonoTree)) (p : Program) (taken : List Taken) (keys : List Key) (instances : List Instance)
    → IsFormedProgram recs p
    → HasInstances p taken keys
    → AreFlat p keys taken instances
    → AreTyped instances
bodies_typed recs p taken keys instances program h flat =
    let known = formed.keys recs p taken keys program h in
    all_typed recs p keys instances program known (file_closed recs p program keys known) (heads_end recs p keys program known)
    (λ n k q. instance_of h.all flat n k q) flat
    (λ n t q. (formed.params recs p taken keys program h n t q, formed.bodies recs p taken keys program h n t q))

pub flat_typed : FlatBodiesAreTyped
flat_typed = record {
  bodies = bodies_typed;
  programs = λ recs p instances program h. bodies_typed recs p h.taken h.keys instances program h.has h.flat;
}
