-- Renaming goes through forms.
use Rattle.std.proofs.Common.{◌≡◌, refl, Some, None}
use Rattle.htt_syntax.specs.Trees.{m_pair, y_mono, y_fun, y_all, y_hoare, y_at, triple, t_app}
use Rattle.htt_syntax.specs.Trees.{t_inst, t_lam, t_lam_t, t_do, t_fix, t_pair, t_fst, t_snd, t_not, t_bin, t_eq, t_sel, t_ann}
use Rattle.htt_syntax.specs.Trees.{t_made, t_at, more_terms, x_param, x_body, c_ret, c_step, s_run, s_alloc, s_get, s_set, s_free, s_if, s_claim}
use Rattle.htt_syntax.specs.Trees.{f_and, f_or, f_imp, f_all_t, f_ex_t, f_all_h, f_ex_h, f_cell, f_block, f_eq, f_at, f_rec}
use Rattle.theory_canonical.specs.Skeletons.{sk_arrow, sk_all}
use Rattle.theory_renaming.specs.Renaming.{Map, lift, lifts, rename_mono, rename_ty, rename_triple, rename_term, rename_terms, rename_fix, rename_comp}
use Rattle.theory_renaming.specs.Renaming.{rename_step, rename_formula}
use Rattle.shared_terms_rows.specs.declared.form.Form.{Form}
use Rattle.shared_terms_rows.specs.declared.form.Form.TheVariants as form
use Rattle.shared_terms_rows.specs.declared.form.SkeletonForm.TheVariants as skeleton
use Rattle.shared_terms_rows.specs.declared.form.MonoForm.TheVariants as mono
use Rattle.shared_terms_rows.specs.declared.form.TyForm.TheVariants as ty
use Rattle.shared_terms_rows.specs.declared.form.TermForm.TheVariants as term
use Rattle.shared_terms_rows.specs.declared.form.FixForm.TheVariants as fix
use Rattle.shared_terms_rows.specs.declared.form.CompForm.TheVariants as comp
use Rattle.shared_terms_rows.specs.declared.form.StepForm.TheVariants as step
use Rattle.shared_terms_rows.specs.declared.form.FormulaForm.TheVariants as formula
use Rattle.shared_terms_rows.specs.Parts.{Part, of_skeleton, of_mono, of_ty, of_triple, of_term, of_terms, of_fix, of_comp, of_step, of_formula, as_skeleton}
use Rattle.shared_terms_rows.specs.Parts.{as_mono, as_ty, as_triple, as_term, as_terms, as_fix, as_comp, as_step, as_formula, op_of, build, build_skeleton}
use Rattle.shared_terms_rows.specs.Parts.{build_mono, build_ty, build_term, build_fix, build_comp, build_step, build_formula, kind_of}
use Rattle.shared_terms_rows.specs.Forms.{slots, skeleton_slots, mono_slots, ty_slots, term_slots, fix_slots, comp_slots, step_slots, formula_slots}
use Rattle.theory_rows_renaming.specs.Renaming.{rename_part, rename_form}
use Rattle.theory_rows_renaming.specs.Laws.{RenamedSlotBySlot}

skeleton_through : (m : Map) (a : Part) → as_skeleton a ≡ as_skeleton (rename_part m a)
unfolding rename_part
skeleton_through m (of_skeleton x) = refl
skeleton_through m (of_mono x) = refl
skeleton_through m (of_ty x) = refl
skeleton_through m (of_triple x) = refl
skeleton_through m (of_term x) = refl
skeleton_through m (of_terms x) = refl
skeleton_through m (of_fix x) = refl
skeleton_through m (of_comp x) = refl
skeleton_through m (of_step x) = refl
skeleton_through m (of_formula x) = refl

mono_through : (m : Map) (a : Part) → rename_mono m (as_mono a) ≡ as_mono (rename_part m a)
unfolding rename_part rename_mono
mono_through m (of_skeleton x) = refl
mono_through m (of_mono x) = refl
mono_through m (of_ty x) = refl
mono_through m (of_triple x) = refl
mono_through m (of_term x) = refl
mono_through m (of_terms x) = refl
mono_through m (of_fix x) = refl
mono_through m (of_comp x) = refl
mono_through m (of_step x) = refl
mono_through m (of_formula x) = refl

ty_through : (m : Map) (a : Part) → rename_ty m (as_ty a) ≡ as_ty (rename_part m a)
unfolding rename_part rename_mono rename_term
ty_through m (of_skeleton x) = refl
ty_through m (of_mono x) = refl
ty_through m (of_ty x) = refl
ty_through m (of_triple x) = refl
ty_through m (of_term x) = refl
ty_through m (of_terms x) = refl
ty_through m (of_fix x) = refl
ty_through m (of_comp x) = refl
ty_through m (of_step x) = refl
ty_through m (of_formula x) = refl

triple_through : (m : Map) (a : Part) → rename_triple m (as_triple a) ≡ as_triple (rename_part m a)
unfolding rename_part rename_mono rename_term
triple_through m (of_skeleton x) = refl
triple_through m (of_mono x) = refl
triple_through m (of_ty x) = refl
triple_through m (of_triple x) = refl
triple_through m (of_term x) = refl
triple_through m (of_terms x) = refl
triple_through m (of_fix x) = refl
triple_through m (of_comp x) = refl
triple_through m (of_step x) = refl
triple_through m (of_formula x) = refl

term_through : (m : Map) (a : Part) → rename_term m (as_term a) ≡ as_term (rename_part m a)
unfolding rename_part rename_mono rename_term
term_through m (of_skeleton x) = refl
term_through m (of_mono x) = refl
term_through m (of_ty x) = refl
term_through m (of_triple x) = refl
term_through m (of_term x) = refl
term_through m (of_terms x) = refl
term_through m (of_fix x) = refl
term_through m (of_comp x) = refl
term_through m (of_step x) = refl
term_through m (of_formula x) = refl

terms_through : (m : Map) (a : Part) → rename_terms m (as_terms a) ≡ as_terms (rename_part m a)
unfolding rename_part rename_mono rename_term
terms_through m (of_skeleton x) = refl
terms_through m (of_mono x) = refl
terms_through m (of_ty x) = refl
terms_through m (of_triple x) = refl
terms_through m (of_term x) = refl
terms_through m (of_terms x) = refl
terms_through m (of_fix x) = refl
terms_through m (of_comp x) = refl
terms_through m (of_step x) = refl
terms_through m (of_formula x) = refl

fix_through : (m : Map) (a : Part) → rename_fix m (as_fix a) ≡ as_fix (rename_part m a)
unfolding rename_part rename_mono rename_term
fix_through m (of_skeleton x) = refl
fix_through m (of_mono x) = refl
fix_through m (of_ty x) = refl
fix_through m (of_triple x) = refl
fix_through m (of_term x) = refl
fix_through m (of_terms x) = refl
fix_through m (of_fix x) = refl
fix_through m (of_comp x) = refl
fix_through m (of_step x) = refl
fix_through m (of_formula x) = refl

comp_through : (m : Map) (a : Part) → rename_comp m (as_comp a) ≡ as_comp (rename_part m a)
unfolding rename_part rename_mono rename_term
comp_through m (of_skeleton x) = refl
comp_through m (of_mono x) = refl
comp_through m (of_ty x) = refl
comp_through m (of_triple x) = refl
comp_through m (of_term x) = refl
comp_through m (of_terms x) = refl
comp_through m (of_fix x) = refl
comp_through m (of_comp x) = refl
comp_through m (of_step x) = refl
comp_through m (of_formula x) = refl

step_through : (m : Map) (a : Part) → rename_step m (as_step a) ≡ as_step (rename_part m a)
unfolding rename_part rename_mono rename_term
step_through m (of_skeleton x) = refl
step_through m (of_mono x) = refl
step_through m (of_ty x) = refl
step_through m (of_triple x) = refl
step_through m (of_term x) = refl
step_through m (of_terms x) = refl
step_through m (of_fix x) = refl
step_through m (of_comp x) = refl
step_through m (of_step x) = refl
step_through m (of_formula x) = refl

formula_through : (m : Map) (a : Part) → rename_formula m (as_formula a) ≡ as_formula (rename_part m a)
unfolding rename_part rename_mono rename_term
formula_through m (of_skeleton x) = refl
formula_through m (of_mono x) = refl
formula_through m (of_ty x) = refl
formula_through m (of_triple x) = refl
formula_through m (of_term x) = refl
formula_through m (of_terms x) = refl
formula_through m (of_fix x) = refl
formula_through m (of_comp x) = refl
formula_through m (of_step x) = refl
formula_through m (of_formula x) = refl

pub renamed_slot_by_slot : RenamedSlotBySlot
unfolding build build_skeleton build_mono build_ty build_term build_fix build_comp build_step build_formula rename_part rename_mono
    rename_term rename_form slots skeleton_slots mono_slots ty_slots term_slots fix_slots comp_slots step_slots formula_slots lifts
renamed_slot_by_slot m (form.Skeleton skeleton.O) a b c d = refl
renamed_slot_by_slot m (form.Skeleton skeleton.C) a b c d = refl
renamed_slot_by_slot m (form.Skeleton skeleton.Arrow) a b c d = λ j. of_skeleton (sk_arrow (skeleton_through m a j) (skeleton_through m b j))
renamed_slot_by_slot m (form.Skeleton skeleton.All) a b c d = λ j. of_skeleton (sk_all (skeleton_through m a j))
renamed_slot_by_slot m (form.Mono mono.Word) a b c d = refl
renamed_slot_by_slot m (form.Mono mono.Bool) a b c d = refl
renamed_slot_by_slot m (form.Mono mono.Loc) a b c d = refl
renamed_slot_by_slot m (form.Mono mono.Unit) a b c d = refl
renamed_slot_by_slot m (form.Mono mono.Pair) a b c d = λ j. of_mono (m_pair (mono_through m a j) (mono_through m b j))
renamed_slot_by_slot m (form.Mono (mono.Var index)) a b c d = refl
renamed_slot_by_slot m (form.Ty ty.Mono) a b c d = λ j. of_ty (y_mono (mono_through m a j))
renamed_slot_by_slot m (form.Ty ty.Fun) a b c d = λ j. of_ty (y_fun (ty_through m a j) (ty_through (lift m) b j))
renamed_slot_by_slot m (form.Ty ty.All) a b c d = λ j. of_ty (y_all (ty_through (lift m) a j))
renamed_slot_by_slot m (form.Ty ty.Hoare) a b c d = λ j. of_ty (y_hoare (triple_through m a j))
renamed_slot_by_slot m (form.Ty (ty.At at)) a b c d = λ j. of_ty (y_at at (ty_through m a j))
renamed_slot_by_slot m form.Triple a b c d =
    λ j. of_triple (triple (formula_through (lift m) a j) (mono_through m b j) (formula_through (lift (lift (lift m))) c j))
renamed_slot_by_slot m (form.Term (term.Var index)) a b c d = refl
renamed_slot_by_slot m (form.Term (term.Val number)) a b c d = refl
renamed_slot_by_slot m (form.Term (term.Def number)) a b c d = refl
renamed_slot_by_slot m (form.Term term.App) a b c d = λ j. of_term (t_app (term_through m a j) (term_through m b j))
renamed_slot_by_slot m (form.Term term.Inst) a b c d = λ j. of_term (t_inst (term_through m a j) (mono_through m b j))
renamed_slot_by_slot m (form.Term term.Lam) a b c d = λ j. of_term (t_lam (term_through (lift m) a j))
renamed_slot_by_slot m (form.Term term.LamT) a b c d = λ j. of_term (t_lam_t (term_through (lift m) a j))
renamed_slot_by_slot m (form.Term term.Do) a b c d = λ j. of_term (t_do (comp_through m a j))
renamed_slot_by_slot m (form.Term (term.Fix at)) a b c d = λ j. of_term (t_fix at (fix_through m a j))
renamed_slot_by_slot m (form.Term (term.Word word)) a b c d = refl
renamed_slot_by_slot m (form.Term (term.Bool truth)) a b c d = refl
renamed_slot_by_slot m (form.Term (term.Loc place)) a b c d = refl
renamed_slot_by_slot m (form.Term term.Unit) a b c d = refl
renamed_slot_by_slot m (form.Term term.Pair) a b c d = λ j. of_term (t_pair (term_through m a j) (term_through m b j))
renamed_slot_by_slot m (form.Term term.Fst) a b c d = λ j. of_term (t_fst (term_through m a j))
renamed_slot_by_slot m (form.Term term.Snd) a b c d = λ j. of_term (t_snd (term_through m a j))
renamed_slot_by_slot m (form.Term term.Un) a b c d = λ j. of_term (t_not (term_through m a j))
renamed_slot_by_slot m (form.Term (term.Bin op)) a b c d = λ j. of_term (t_bin (op_of op) (term_through m a j) (term_through m b j))
renamed_slot_by_slot m (form.Term term.Eq) a b c d = λ j. of_term (t_eq (mono_through m a j) (term_through m b j) (term_through m c j))
renamed_slot_by_slot m (form.Term term.Sel) a b c d = λ j. of_term (t_sel (mono_through m a j) (term_through m b j) (term_through m c j) (term_through m d j))
renamed_slot_by_slot m (form.Term term.Ann) a b c d = λ j. of_term (t_ann (term_through m a j) (ty_through m b j))
renamed_slot_by_slot m (form.Term (term.Made number)) a b c d = λ j. of_term (t_made number (terms_through m a j))
renamed_slot_by_slot m (form.Term (term.At at)) a b c d = λ j. of_term (t_at at (term_through m a j))
renamed_slot_by_slot m form.NoTerms a b c d = refl
renamed_slot_by_slot m form.MoreTerms a b c d = λ j. of_terms (more_terms (term_through m a j) (terms_through m b j))
renamed_slot_by_slot m (form.Fix fix.Param) a b c d = λ j. of_fix (x_param (ty_through m a j) (fix_through (lift m) b j))
renamed_slot_by_slot m (form.Fix fix.Body) a b c d = λ j. of_fix (x_body (triple_through m a j) (comp_through (lift m) b j))
renamed_slot_by_slot m (form.Comp comp.Ret) a b c d = λ j. of_comp (c_ret (term_through m a j))
renamed_slot_by_slot m (form.Comp comp.Step) a b c d = λ j. of_comp (c_step (step_through m a j) (comp_through (lift m) b j))
renamed_slot_by_slot m (form.Step step.Run) a b c d = λ j. of_step (s_run (term_through m a j) (Some (mono_through m b j)))
renamed_slot_by_slot m (form.Step step.RunOpen) a b c d = λ j. of_step (s_run (term_through m a j) None)
renamed_slot_by_slot m (form.Step step.Alloc) a b c d = λ j. of_step (s_alloc (mono_through m a j) (term_through m b j))
renamed_slot_by_slot m (form.Step step.Get) a b c d = λ j. of_step (s_get (mono_through m a j) (term_through m b j))
renamed_slot_by_slot m (form.Step step.Set) a b c d = λ j. of_step (s_set (mono_through m a j) (term_through m b j) (term_through m c j))
renamed_slot_by_slot m (form.Step step.Free) a b c d = λ j. of_step (s_free (mono_through m a j) (term_through m b j))
renamed_slot_by_slot m (form.Step step.If) a b c d = λ j. of_step (s_if (mono_through m a j) (term_through m b j) (comp_through m c j) (comp_through m d j))
renamed_slot_by_slot m (form.Step step.Claim) a b c d = λ j. of_step (s_claim (formula_through (lift (lift m)) a j))
renamed_slot_by_slot m (form.Formula formula.Tt) a b c d = refl
renamed_slot_by_slot m (form.Formula formula.Ff) a b c d = refl
renamed_slot_by_slot m (form.Formula formula.And) a b c d = λ j. of_formula (f_and (formula_through m a j) (formula_through m b j))
renamed_slot_by_slot m (form.Formula formula.Or) a b c d = λ j. of_formula (f_or (formula_through m a j) (formula_through m b j))
renamed_slot_by_slot m (form.Formula formula.Imp) a b c d = λ j. of_formula (f_imp (formula_through m a j) (formula_through m b j))
renamed_slot_by_slot m (form.Formula formula.AllT) a b c d = λ j. of_formula (f_all_t (mono_through m a j) (formula_through (lift m) b j))
renamed_slot_by_slot m (form.Formula formula.ExT) a b c d = λ j. of_formula (f_ex_t (mono_through m a j) (formula_through (lift m) b j))
renamed_slot_by_slot m (form.Formula formula.AllH) a b c d = λ j. of_formula (f_all_h (formula_through (lift m) a j))
renamed_slot_by_slot m (form.Formula formula.ExH) a b c d = λ j. of_formula (f_ex_h (formula_through (lift m) a j))
renamed_slot_by_slot m (form.Formula (formula.Emp heap)) a b c d = refl
renamed_slot_by_slot m (form.Formula (formula.Cell heap)) a b c d =
    λ j. of_formula (f_cell (mono_through m a j) (m heap) (term_through m b j) (term_through m c j))
renamed_slot_by_slot m (form.Formula (formula.Block heap)) a b c d = λ j. of_formula (f_block (mono_through m a j) (m heap) (term_through m b j))
renamed_slot_by_slot m (form.Formula (formula.Join whole left right)) a b c d = refl
renamed_slot_by_slot m (form.Formula (formula.Same left right)) a b c d = refl
renamed_slot_by_slot m (form.Formula formula.Eq) a b c d = λ j. of_formula (f_eq (mono_through m a j) (term_through m b j) (term_through m c j))
renamed_slot_by_slot m (form.Formula (formula.At at)) a b c d = λ j. of_formula (f_at at (formula_through m a j))
renamed_slot_by_slot m (form.Formula (formula.Rec number heap)) a b c d = λ j. of_formula (f_rec number (m heap) (term_through m a j) (terms_through m b j))

-- A renamed form has the same slots, and a renamed part is of the same kind.
pub slots_renamed : (m : Map) (f : Form) → slots (rename_form m f) ≡ slots f
unfolding rename_form slots skeleton_slots mono_slots ty_slots term_slots fix_slots comp_slots step_slots formula_slots
slots_renamed m (form.Mono mono.Word) = refl
slots_renamed m (form.Mono mono.Bool) = refl
slots_renamed m (form.Mono mono.Loc) = refl
slots_renamed m (form.Mono mono.Unit) = refl
slots_renamed m (form.Mono mono.Pair) = refl
slots_renamed m (form.Mono (mono.Var index)) = refl
slots_renamed m form.Triple = refl
slots_renamed m (form.Term (term.Var index)) = refl
slots_renamed m (form.Term (term.Val number)) = refl
slots_renamed m (form.Term (term.Def number)) = refl
slots_renamed m (form.Term term.App) = refl
slots_renamed m (form.Term term.Inst) = refl
slots_renamed m (form.Term term.Lam) = refl
slots_renamed m (form.Term term.LamT) = refl
slots_renamed m (form.Term term.Do) = refl
slots_renamed m (form.Term (term.Fix at)) = refl
slots_renamed m (form.Term (term.Word word)) = refl
slots_renamed m (form.Term (term.Bool truth)) = refl
slots_renamed m (form.Term (term.Loc place)) = refl
slots_renamed m (form.Term term.Unit) = refl
slots_renamed m (form.Term term.Pair) = refl
slots_renamed m (form.Term term.Fst) = refl
slots_renamed m (form.Term term.Snd) = refl
slots_renamed m (form.Term term.Un) = refl
slots_renamed m (form.Term (term.Bin op)) = refl
slots_renamed m (form.Term term.Eq) = refl
slots_renamed m (form.Term term.Sel) = refl
slots_renamed m (form.Term term.Ann) = refl
slots_renamed m (form.Term (term.Made number)) = refl
slots_renamed m (form.Term (term.At at)) = refl
slots_renamed m form.NoTerms = refl
slots_renamed m form.MoreTerms = refl
slots_renamed m (form.Formula formula.Tt) = refl
slots_renamed m (form.Formula formula.Ff) = refl
slots_renamed m (form.Formula formula.And) = refl
slots_renamed m (form.Formula formula.Or) = refl
slots_renamed m (form.Formula formula.Imp) = refl
slots_renamed m (form.Formula formula.AllT) = refl
slots_renamed m (form.Formula formula.ExT) = refl
slots_renamed m (form.Formula formula.AllH) = refl
slots_renamed m (form.Formula formula.ExH) = refl
slots_renamed m (form.Formula (formula.Emp heap)) = refl
slots_renamed m (form.Formula (formula.Cell heap)) = refl
slots_renamed m (form.Formula (formula.Block heap)) = refl
slots_renamed m (form.Formula (formula.Join whole left right)) = refl
slots_renamed m (form.Formula (formula.Same left right)) = refl
slots_renamed m (form.Formula formula.Eq) = refl
slots_renamed m (form.Formula (formula.At at)) = refl
slots_renamed m (form.Formula (formula.Rec number heap)) = refl
slots_renamed m (form.Skeleton f) = refl
slots_renamed m (form.Ty f) = refl
slots_renamed m (form.Fix f) = refl
slots_renamed m (form.Comp f) = refl
slots_renamed m (form.Step f) = refl

pub kind_renamed : (m : Map) (a : Part) → kind_of (rename_part m a) ≡ kind_of a
unfolding rename_part
kind_renamed m (of_skeleton x) = refl
kind_renamed m (of_mono x) = refl
kind_renamed m (of_ty x) = refl
kind_renamed m (of_triple x) = refl
kind_renamed m (of_term x) = refl
kind_renamed m (of_terms x) = refl
kind_renamed m (of_fix x) = refl
kind_renamed m (of_comp x) = refl
kind_renamed m (of_step x) = refl
kind_renamed m (of_formula x) = refl
