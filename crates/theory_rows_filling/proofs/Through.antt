-- Filling goes through forms.
use Rattle.std.proofs.Common.{◌≡◌, refl, Some, None, arith}
use Rattle.htt_syntax.specs.Trees.{m_pair, y_mono, y_fun, y_all, y_hoare, y_at, triple, t_app}
use Rattle.htt_syntax.specs.Trees.{t_inst, t_lam, t_lam_t, t_do, t_fix, t_pair, t_fst, t_snd, t_not, t_bin, t_eq, t_sel, t_ann}
use Rattle.htt_syntax.specs.Trees.{t_made, t_at, more_terms, x_param, x_body, c_ret, c_step, s_run, s_alloc, s_get, s_set, s_free, s_if, s_claim}
use Rattle.htt_syntax.specs.Trees.{f_and, f_or, f_imp, f_all_t, f_ex_t, f_all_h, f_ex_h, f_cell, f_block, f_eq, f_at, f_rec}
use Rattle.theory_canonical.specs.Skeletons.{sk_arrow, sk_all}
use Rattle.theory_canonical.specs.Folding.{folding, contractum}
use Rattle.theory_renaming.specs.Renaming.{Map, lift, lifts}
use Rattle.theory_substitution.specs.Monotypes.{Filling, next_filling, fill_mono, fill_ty, fill_triple, fill_term, fill_terms, fill_fix, fill_comp, fill_step}
use Rattle.theory_substitution.specs.Monotypes.{fill_formula}
use Rattle.shared_terms_rows.specs.declared.form.Form.TheVariants as form
use Rattle.shared_terms_rows.specs.declared.form.SkeletonForm.TheVariants as skeleton
use Rattle.shared_terms_rows.specs.declared.form.MonoForm.TheVariants as mono
use Rattle.shared_terms_rows.specs.declared.form.TyForm.TheVariants as ty
use Rattle.shared_terms_rows.specs.declared.form.TermForm.TheVariants as term
use Rattle.shared_terms_rows.specs.declared.form.FixForm.TheVariants as fix
use Rattle.shared_terms_rows.specs.declared.form.CompForm.TheVariants as comp
use Rattle.shared_terms_rows.specs.declared.form.StepForm.TheVariants as step
use Rattle.shared_terms_rows.specs.declared.form.FormulaForm.TheVariants as formula
use Rattle.shared_terms_rows.specs.Parts.{Part, of_skeleton, of_mono, of_ty, of_triple, of_term, of_terms, of_fix, of_comp, of_step, of_formula, as_skeleton}
use Rattle.shared_terms_rows.specs.Parts.{as_mono, as_ty, as_triple, as_term, as_terms, as_fix, as_comp, as_step, as_formula, op_of, build, build_skeleton}
use Rattle.shared_terms_rows.specs.Parts.{build_mono, build_ty, build_term, build_fix, build_comp, build_step, build_formula}
use Rattle.shared_terms_rows.specs.Forms.{slots, skeleton_slots, mono_slots, ty_slots, term_slots, fix_slots, comp_slots, step_slots, formula_slots}
use Rattle.theory_rows_renaming.specs.Renaming.{rename_form}
use Rattle.theory_rows_filling.specs.Filling.{fill_part, next_fillings, is_mono_variable}
use Rattle.theory_rows_filling.specs.Laws.{FilledSlotBySlot}

skeleton_through : (f : Filling) (m : Map) (a : Part) → as_skeleton a ≡ as_skeleton (fill_part f m a)
unfolding fill_part
skeleton_through f m (of_skeleton x) = refl
skeleton_through f m (of_mono x) = refl
skeleton_through f m (of_ty x) = refl
skeleton_through f m (of_triple x) = refl
skeleton_through f m (of_term x) = refl
skeleton_through f m (of_terms x) = refl
skeleton_through f m (of_fix x) = refl
skeleton_through f m (of_comp x) = refl
skeleton_through f m (of_step x) = refl
skeleton_through f m (of_formula x) = refl

mono_through : (f : Filling) (m : Map) (a : Part) → fill_mono f (as_mono a) ≡ as_mono (fill_part f m a)
unfolding fill_part fill_mono
mono_through f m (of_skeleton x) = refl
mono_through f m (of_mono x) = refl
mono_through f m (of_ty x) = refl
mono_through f m (of_triple x) = refl
mono_through f m (of_term x) = refl
mono_through f m (of_terms x) = refl
mono_through f m (of_fix x) = refl
mono_through f m (of_comp x) = refl
mono_through f m (of_step x) = refl
mono_through f m (of_formula x) = refl

ty_through : (f : Filling) (m : Map) (a : Part) → fill_ty f m (as_ty a) ≡ as_ty (fill_part f m a)
unfolding fill_part fill_mono fill_term
ty_through f m (of_skeleton x) = refl
ty_through f m (of_mono x) = refl
ty_through f m (of_ty x) = refl
ty_through f m (of_triple x) = refl
ty_through f m (of_term x) = refl
ty_through f m (of_terms x) = refl
ty_through f m (of_fix x) = refl
ty_through f m (of_comp x) = refl
ty_through f m (of_step x) = refl
ty_through f m (of_formula x) = refl

triple_through : (f : Filling) (m : Map) (a : Part) → fill_triple f m (as_triple a) ≡ as_triple (fill_part f m a)
unfolding fill_part fill_mono fill_term
triple_through f m (of_skeleton x) = refl
triple_through f m (of_mono x) = refl
triple_through f m (of_ty x) = refl
triple_through f m (of_triple x) = refl
triple_through f m (of_term x) = refl
triple_through f m (of_terms x) = refl
triple_through f m (of_fix x) = refl
triple_through f m (of_comp x) = refl
triple_through f m (of_step x) = refl
triple_through f m (of_formula x) = refl

term_through : (f : Filling) (m : Map) (a : Part) → fill_term f m (as_term a) ≡ as_term (fill_part f m a)
unfolding fill_part fill_mono fill_term
term_through f m (of_skeleton x) = refl
term_through f m (of_mono x) = refl
term_through f m (of_ty x) = refl
term_through f m (of_triple x) = refl
term_through f m (of_term x) = refl
term_through f m (of_terms x) = refl
term_through f m (of_fix x) = refl
term_through f m (of_comp x) = refl
term_through f m (of_step x) = refl
term_through f m (of_formula x) = refl

terms_through : (f : Filling) (m : Map) (a : Part) → fill_terms f m (as_terms a) ≡ as_terms (fill_part f m a)
unfolding fill_part fill_mono fill_term
terms_through f m (of_skeleton x) = refl
terms_through f m (of_mono x) = refl
terms_through f m (of_ty x) = refl
terms_through f m (of_triple x) = refl
terms_through f m (of_term x) = refl
terms_through f m (of_terms x) = refl
terms_through f m (of_fix x) = refl
terms_through f m (of_comp x) = refl
terms_through f m (of_step x) = refl
terms_through f m (of_formula x) = refl

fix_through : (f : Filling) (m : Map) (a : Part) → fill_fix f m (as_fix a) ≡ as_fix (fill_part f m a)
unfolding fill_part fill_mono fill_term
fix_through f m (of_skeleton x) = refl
fix_through f m (of_mono x) = refl
fix_through f m (of_ty x) = refl
fix_through f m (of_triple x) = refl
fix_through f m (of_term x) = refl
fix_through f m (of_terms x) = refl
fix_through f m (of_fix x) = refl
fix_through f m (of_comp x) = refl
fix_through f m (of_step x) = refl
fix_through f m (of_formula x) = refl

comp_through : (f : Filling) (m : Map) (a : Part) → fill_comp f m (as_comp a) ≡ as_comp (fill_part f m a)
unfolding fill_part fill_mono fill_term
comp_through f m (of_skeleton x) = refl
comp_through f m (of_mono x) = refl
comp_through f m (of_ty x) = refl
comp_through f m (of_triple x) = refl
comp_through f m (of_term x) = refl
comp_through f m (of_terms x) = refl
comp_through f m (of_fix x) = refl
comp_through f m (of_comp x) = refl
comp_through f m (of_step x) = refl
comp_through f m (of_formula x) = refl

step_through : (f : Filling) (m : Map) (a : Part) → fill_step f m (as_step a) ≡ as_step (fill_part f m a)
unfolding fill_part fill_mono fill_term
step_through f m (of_skeleton x) = refl
step_through f m (of_mono x) = refl
step_through f m (of_ty x) = refl
step_through f m (of_triple x) = refl
step_through f m (of_term x) = refl
step_through f m (of_terms x) = refl
step_through f m (of_fix x) = refl
step_through f m (of_comp x) = refl
step_through f m (of_step x) = refl
step_through f m (of_formula x) = refl

formula_through : (f : Filling) (m : Map) (a : Part) → fill_formula f m (as_formula a) ≡ as_formula (fill_part f m a)
unfolding fill_part fill_mono fill_term
formula_through f m (of_skeleton x) = refl
formula_through f m (of_mono x) = refl
formula_through f m (of_ty x) = refl
formula_through f m (of_triple x) = refl
formula_through f m (of_term x) = refl
formula_through f m (of_terms x) = refl
formula_through f m (of_fix x) = refl
formula_through f m (of_comp x) = refl
formula_through f m (of_step x) = refl
formula_through f m (of_formula x) = refl

pub filled_slot_by_slot : FilledSlotBySlot
unfolding build build_skeleton build_mono build_ty build_term build_fix build_comp build_step build_formula fill_part fill_mono fill_term
    rename_form slots skeleton_slots mono_slots ty_slots term_slots fix_slots comp_slots step_slots formula_slots lifts next_fillings
    is_mono_variable contractum
filled_slot_by_slot f m (form.Skeleton skeleton.O) e a b c d = refl
filled_slot_by_slot f m (form.Skeleton skeleton.C) e a b c d = refl
filled_slot_by_slot f m (form.Skeleton skeleton.Arrow) e a b c d = λ j. of_skeleton (sk_arrow (skeleton_through f m a j) (skeleton_through f m b j))
filled_slot_by_slot f m (form.Skeleton skeleton.All) e a b c d = λ j. of_skeleton (sk_all (skeleton_through f m a j))
filled_slot_by_slot f m (form.Mono mono.Word) e a b c d = refl
filled_slot_by_slot f m (form.Mono mono.Bool) e a b c d = refl
filled_slot_by_slot f m (form.Mono mono.Loc) e a b c d = refl
filled_slot_by_slot f m (form.Mono mono.Unit) e a b c d = refl
filled_slot_by_slot f m (form.Mono mono.Pair) e a b c d = λ j. of_mono (m_pair (mono_through f m a j) (mono_through f m b j))
filled_slot_by_slot f m (form.Mono (mono.Var index)) e a b c d = absurd (grind arith)
filled_slot_by_slot f m (form.Ty ty.Mono) e a b c d = λ j. of_ty (y_mono (mono_through f m a j))
filled_slot_by_slot f m (form.Ty ty.Fun) e a b c d = λ j. of_ty (y_fun (ty_through f m a j) (ty_through (next_filling f) (lift m) b j))
filled_slot_by_slot f m (form.Ty ty.All) e a b c d = λ j. of_ty (y_all (ty_through (next_filling f) (lift m) a j))
filled_slot_by_slot f m (form.Ty ty.Hoare) e a b c d = λ j. of_ty (y_hoare (triple_through f m a j))
filled_slot_by_slot f m (form.Ty (ty.At at)) e a b c d = λ j. of_ty (y_at at (ty_through f m a j))
filled_slot_by_slot f m form.Triple e a b c d = λ j.
    of_triple (triple (formula_through (next_filling f) (lift m) a j) (mono_through f m b j)
    (formula_through (next_filling (next_filling (next_filling f))) (lift (lift (lift m))) c j))
filled_slot_by_slot f m (form.Term (term.Var index)) e a b c d = refl
filled_slot_by_slot f m (form.Term (term.Val number)) e a b c d = refl
filled_slot_by_slot f m (form.Term (term.Def number)) e a b c d = refl
filled_slot_by_slot f m (form.Term term.App) e a b c d = λ j. of_term (folding (t_app (term_through f m a j) (term_through f m b j)))
filled_slot_by_slot f m (form.Term term.Inst) e a b c d = λ j. of_term (folding (t_inst (term_through f m a j) (mono_through f m b j)))
filled_slot_by_slot f m (form.Term term.Lam) e a b c d = λ j. of_term (folding (t_lam (term_through (next_filling f) (lift m) a j)))
filled_slot_by_slot f m (form.Term term.LamT) e a b c d = λ j. of_term (folding (t_lam_t (term_through (next_filling f) (lift m) a j)))
filled_slot_by_slot f m (form.Term term.Do) e a b c d = λ j. of_term (folding (t_do (comp_through f m a j)))
filled_slot_by_slot f m (form.Term (term.Fix at)) e a b c d = λ j. of_term (folding (t_fix at (fix_through f m a j)))
filled_slot_by_slot f m (form.Term (term.Word word)) e a b c d = refl
filled_slot_by_slot f m (form.Term (term.Bool truth)) e a b c d = refl
filled_slot_by_slot f m (form.Term (term.Loc place)) e a b c d = refl
filled_slot_by_slot f m (form.Term term.Unit) e a b c d = refl
filled_slot_by_slot f m (form.Term term.Pair) e a b c d = λ j. of_term (folding (t_pair (term_through f m a j) (term_through f m b j)))
filled_slot_by_slot f m (form.Term term.Fst) e a b c d = λ j. of_term (folding (t_fst (term_through f m a j)))
filled_slot_by_slot f m (form.Term term.Snd) e a b c d = λ j. of_term (folding (t_snd (term_through f m a j)))
filled_slot_by_slot f m (form.Term term.Un) e a b c d = λ j. of_term (folding (t_not (term_through f m a j)))
filled_slot_by_slot f m (form.Term (term.Bin op)) e a b c d = λ j. of_term (folding (t_bin (op_of op) (term_through f m a j) (term_through f m b j)))
filled_slot_by_slot f m (form.Term term.Eq) e a b c d = λ j. of_term (folding (t_eq (mono_through f m a j) (term_through f m b j) (term_through f m c j)))
filled_slot_by_slot f m (form.Term term.Sel) e a b c d =
    λ j. of_term (folding (t_sel (mono_through f m a j) (term_through f m b j) (term_through f m c j) (term_through f m d j)))
filled_slot_by_slot f m (form.Term term.Ann) e a b c d = λ j. of_term (folding (t_ann (term_through f m a j) (ty_through f m b j)))
filled_slot_by_slot f m (form.Term (term.Made number)) e a b c d = λ j. of_term (folding (t_made number (terms_through f m a j)))
filled_slot_by_slot f m (form.Term (term.At at)) e a b c d = λ j. of_term (folding (t_at at (term_through f m a j)))
filled_slot_by_slot f m form.NoTerms e a b c d = refl
filled_slot_by_slot f m form.MoreTerms e a b c d = λ j. of_terms (more_terms (term_through f m a j) (terms_through f m b j))
filled_slot_by_slot f m (form.Fix fix.Param) e a b c d = λ j. of_fix (x_param (ty_through f m a j) (fix_through (next_filling f) (lift m) b j))
filled_slot_by_slot f m (form.Fix fix.Body) e a b c d = λ j. of_fix (x_body (triple_through f m a j) (comp_through (next_filling f) (lift m) b j))
filled_slot_by_slot f m (form.Comp comp.Ret) e a b c d = λ j. of_comp (c_ret (term_through f m a j))
filled_slot_by_slot f m (form.Comp comp.Step) e a b c d = λ j. of_comp (c_step (step_through f m a j) (comp_through (next_filling f) (lift m) b j))
filled_slot_by_slot f m (form.Step step.Run) e a b c d = λ j. of_step (s_run (term_through f m a j) (Some (mono_through f m b j)))
filled_slot_by_slot f m (form.Step step.RunOpen) e a b c d = λ j. of_step (s_run (term_through f m a j) None)
filled_slot_by_slot f m (form.Step step.Alloc) e a b c d = λ j. of_step (s_alloc (mono_through f m a j) (term_through f m b j))
filled_slot_by_slot f m (form.Step step.Get) e a b c d = λ j. of_step (s_get (mono_through f m a j) (term_through f m b j))
filled_slot_by_slot f m (form.Step step.Set) e a b c d = λ j. of_step (s_set (mono_through f m a j) (term_through f m b j) (term_through f m c j))
filled_slot_by_slot f m (form.Step step.Free) e a b c d = λ j. of_step (s_free (mono_through f m a j) (term_through f m b j))
filled_slot_by_slot f m (form.Step step.If) e a b c d =
    λ j. of_step (s_if (mono_through f m a j) (term_through f m b j) (comp_through f m c j) (comp_through f m d j))
filled_slot_by_slot f m (form.Step step.Claim) e a b c d = λ j. of_step (s_claim (formula_through (next_filling (next_filling f)) (lift (lift m)) a j))
filled_slot_by_slot f m (form.Formula formula.Tt) e a b c d = refl
filled_slot_by_slot f m (form.Formula formula.Ff) e a b c d = refl
filled_slot_by_slot f m (form.Formula formula.And) e a b c d = λ j. of_formula (f_and (formula_through f m a j) (formula_through f m b j))
filled_slot_by_slot f m (form.Formula formula.Or) e a b c d = λ j. of_formula (f_or (formula_through f m a j) (formula_through f m b j))
filled_slot_by_slot f m (form.Formula formula.Imp) e a b c d = λ j. of_formula (f_imp (formula_through f m a j) (formula_through f m b j))
filled_slot_by_slot f m (form.Formula formula.AllT) e a b c d = λ j. of_formula (f_all_t (mono_through f m a j) (formula_through (next_filling f) (lift m) b j))
filled_slot_by_slot f m (form.Formula formula.ExT) e a b c d = λ j. of_formula (f_ex_t (mono_through f m a j) (formula_through (next_filling f) (lift m) b j))
filled_slot_by_slot f m (form.Formula formula.AllH) e a b c d = λ j. of_formula (f_all_h (formula_through (next_filling f) (lift m) a j))
filled_slot_by_slot f m (form.Formula formula.ExH) e a b c d = λ j. of_formula (f_ex_h (formula_through (next_filling f) (lift m) a j))
filled_slot_by_slot f m (form.Formula (formula.Emp heap)) e a b c d = refl
filled_slot_by_slot f m (form.Formula (formula.Cell heap)) e a b c d =
    λ j. of_formula (f_cell (mono_through f m a j) (m heap) (term_through f m b j) (term_through f m c j))
filled_slot_by_slot f m (form.Formula (formula.Block heap)) e a b c d = λ j. of_formula (f_block (mono_through f m a j) (m heap) (term_through f m b j))
filled_slot_by_slot f m (form.Formula (formula.Join whole left right)) e a b c d = refl
filled_slot_by_slot f m (form.Formula (formula.Same left right)) e a b c d = refl
filled_slot_by_slot f m (form.Formula formula.Eq) e a b c d = λ j. of_formula (f_eq (mono_through f m a j) (term_through f m b j) (term_through f m c j))
filled_slot_by_slot f m (form.Formula (formula.At at)) e a b c d = λ j. of_formula (f_at at (formula_through f m a j))
filled_slot_by_slot f m (form.Formula (formula.Rec number heap)) e a b c d =
    λ j. of_formula (f_rec number (m heap) (term_through f m a j) (terms_through f m b j))
