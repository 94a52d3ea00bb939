-- The eta-expansion of a formed head is formed.
use Rattle.std.proofs.Common.{◌≡◌, zero, suc, ◌∷◌, refl, sym, ap, ◌∙◌, subst}
use Rattle.htt_syntax.specs.Trees.{MonoTree, TyTree, TermTree, m_var, y_mono, y_fun, y_all, y_hoare, y_at, triple, t_var, t_app, t_inst}
use Rattle.theory_renaming.specs.Renaming.{Map, lift, rename_mono, rename_term}
use Rattle.theory_canonical.specs.Eta.{expansion, eta}
use Rattle.theory_substitution.specs.Monotypes.{Filling, next_filling, fill_mono}
use Rattle.theory_formed_shapes.specs.Shapes.{Shape, sh_mono, sh_comp, fill_shape, renaming_of, up_shape, dropping, first_filled, shape_of, ShapeEntry, in_mono}
use Rattle.theory_formed_shapes.specs.Shapes.{in_term, Shapes, HasShape, mono_at_zero, heap_further, shape_here, shape_there}
use Rattle.theory_formed_shapes.specs.Formed.{FileShapes, IsFormedMono, z_m_var, IsFormedTerm, z_lam, z_lam_t, z_do, z_neutral, IsFormedNeutral, w_var, w_app}
use Rattle.theory_formed_shapes.specs.Formed.{w_inst, z_ret, z_step, z_run, IsClosedFile}
use Rattle.theory_formed_shapes.specs.Laws.{FillsFormed}
use Rattle.theory_formed_shapes.proofs.Fillings.{mono_renamed, next_renaming, shape_kept, one_way, up_renamed, first_is_itself}
use Rattle.theory_formed_shapes.proofs.Filled.{mono_filled, mono_raised}
use Rattle.theory_formed_shapes.proofs.Renamed.{neutral_renamed, fills_suc, fills_lift, fills_lift_mono}
use Rattle.theory_formed_shapes.proofs.Monos.{MonosFormed, mono_monos, fun_monos, all_monos, spec_monos}
use Rattle.theory_formed_typing.proofs.Closed.{up_dropped}

raised_shape : (m : Map) (a : Shape) → up_shape (fill_shape (renaming_of m) a) ≡ fill_shape (renaming_of (λ n. suc (m n))) a
unfolding fill_mono
raised_shape m a = one_way (renaming_of m) (renaming_of suc) (renaming_of (λ n. suc (m n))) (λ n. refl) a

fills_further : {m : Map} {g h : Shapes} (entry : ShapeEntry)
    → FillsFormed (renaming_of m) m g h
    → FillsFormed (renaming_of (λ n. suc (m n))) (λ n. suc (m n)) g (entry ∷ h)
unfolding rename_mono
fills_further {m = m} {g = g} {h = h} entry k = record {
  monos = λ n d. mono_raised entry (k.monos n d);
  heaps = λ n d. heap_further (k.heaps n d);
  terms = λ n s d. subst (HasShape (entry ∷ h) (suc (m n))) (raised_shape m s) (shape_there (k.terms n s d));
}

inner_shape : (m : Map) (a : Shape)
    → fill_shape (first_filled (m_var zero)) (fill_shape (next_filling (renaming_of suc)) (fill_shape (next_filling (renaming_of m)) a))
    ≡ fill_shape (renaming_of (lift m)) a
inner_shape m a =
    ap (λ (f : Filling). fill_shape (first_filled (m_var zero)) (fill_shape f (fill_shape (next_filling (renaming_of m)) a)))
    (next_renaming suc)
    ∙ first_is_itself (fill_shape (next_filling (renaming_of m)) a)
    ∙ ap (λ (f : Filling). fill_shape f a) (next_renaming m)

pub expanded : {file : FileShapes} (A : TyTree) {m : Map} {outer g : Shapes} (K : TermTree)
    → MonosFormed outer A
    → IsClosedFile file
    → FillsFormed (renaming_of m) m outer g
    → IsFormedNeutral file g K (fill_shape (renaming_of m) (shape_of A))
    → IsFormedTerm file g (expansion m K A) (fill_shape (renaming_of m) (shape_of A))
unfolding expansion shape_of fill_shape
expanded (y_mono mono) K (mono_monos d) c k h = z_neutral h
expanded {file = file} (y_fun argument answer) {m = m} {outer = outer} {g = g} K (fun_monos d e) c k h =
    let a = fill_shape (renaming_of m) (shape_of argument) in
    let b = fill_shape (renaming_of m) (fill_shape dropping (shape_of answer)) in
    let q = raised_shape m (shape_of argument) in
    let variable = subst (IsFormedNeutral file (in_term a ∷ g) (t_var zero)) q (w_var shape_here) in
    let term =
    subst (IsFormedTerm file (in_term a ∷ g) (expansion (λ n. suc (m n)) (t_var zero) argument)) (sym q)
    (expanded argument (t_var zero) d c (fills_further (in_term a) k) variable) in
    let r = sym (up_renamed m (fill_shape dropping (shape_of answer))) ∙ ap (fill_shape (renaming_of (lift m))) (up_dropped e) in
    let inner = t_app (rename_term suc K) (expansion (λ n. suc (m n)) (t_var zero) argument) in
    let head = subst (IsFormedNeutral file (in_term a ∷ g) inner) r (w_app (neutral_renamed h c (fills_suc (in_term a) g)) term) in
    z_lam (subst (IsFormedTerm file (in_term a ∷ g) (expansion (lift m) inner answer)) (sym r)
    (expanded answer inner e c (fills_lift (shape_of argument) k) head))
expanded {file = file} (y_all body) {m = m} {outer = outer} {g = g} K (all_monos d) c k h =
    let inner = t_inst (rename_term suc K) (m_var zero) in
    let raised = neutral_renamed h c (fills_suc in_mono g) in
    let head = subst (IsFormedNeutral file (in_mono ∷ g) inner) (inner_shape m (shape_of body)) (w_inst raised (z_m_var mono_at_zero)) in
    z_lam_t (subst (λ (f : Filling). IsFormedTerm file (in_mono ∷ g) (expansion (lift m) inner body) (fill_shape f (shape_of body)))
    (sym (next_renaming m)) (expanded body inner d c (fills_lift_mono k) head))
expanded {file = file} (y_hoare (triple pre mono post)) {m = m} {g = g} K (spec_monos t) c k h =
    let q = mono_renamed m mono in
    let head = subst (λ (u : MonoTree). IsFormedNeutral file g K (sh_comp u)) q h in
    let formed = subst (IsFormedMono g) q (mono_filled t k) in
    let value =
    subst (λ (u : MonoTree). IsFormedNeutral file (in_term (sh_mono (rename_mono m mono)) ∷ g) (t_var zero) (sh_mono u))
    (mono_renamed suc (rename_mono m mono)) (w_var shape_here) in
    subst (λ (u : MonoTree). IsFormedTerm file g (expansion m K (y_hoare (triple pre mono post))) (sh_comp u)) (sym q)
    (z_do (z_step (z_run head formed) (z_ret (z_neutral value))))
expanded (y_at at ty) K d c k h = elim d [ ]

itself : (g : Shapes) → FillsFormed (renaming_of (λ n. n)) (λ n. n) g g
itself g = record { monos = λ n d. z_m_var d; heaps = λ n d. d; terms = λ n s d. subst (HasShape g n) (sym (shape_kept s)) d }

pub eta_formed : {file : FileShapes} {g : Shapes} {A : TyTree} {K : TermTree}
    → MonosFormed g A
    → IsClosedFile file
    → IsFormedNeutral file g K (shape_of A)
    → IsFormedTerm file g (eta K A) (shape_of A)
eta_formed {file = file} {g = g} {A = A} {K = K} d c h =
    let q = shape_kept (shape_of A) in
    subst (IsFormedTerm file g (eta K A)) q (expanded A K d c (itself g) (subst (IsFormedNeutral file g K) (sym q) h))
