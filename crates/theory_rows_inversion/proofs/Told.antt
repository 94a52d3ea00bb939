-- The form and the parts of a tree, by the form.
use Rattle.std.proofs.Common.{◌≡◌, refl, Some, None, arith}
use Rattle.htt_syntax.specs.Trees.{c_ret, c_step, f_all_h, f_all_t, f_and, f_at, f_block, f_cell, f_emp, f_eq, f_ex_h}
use Rattle.htt_syntax.specs.Trees.{f_ex_t, f_ff, f_imp, f_join, f_or, f_rec, f_same, f_tt, m_bool, m_loc, m_pair}
use Rattle.htt_syntax.specs.Trees.{m_unit, m_var, m_word, more_terms, no_terms, s_alloc, s_claim, s_free, s_get, s_if}
use Rattle.htt_syntax.specs.Trees.{s_run, s_set, t_ann, t_app, t_at, t_bin, t_bool, t_def, t_do, t_eq, t_fix, t_fst}
use Rattle.htt_syntax.specs.Trees.{t_inst, t_lam, t_lam_t, t_loc, t_made, t_not, t_pair, t_sel, t_snd, t_unit, t_val}
use Rattle.htt_syntax.specs.Trees.{t_var, t_word, triple, x_body, x_param, y_all, y_at, y_fun, y_hoare, y_mono}
use Rattle.theory_canonical.specs.Skeletons.{sk_all, sk_arrow, sk_c, sk_o}
use Rattle.shared_terms_rows.specs.declared.operation.Operation.{Operation}
use Rattle.shared_terms_rows.specs.declared.operation.Operation.TheVariants as operation
use Rattle.htt_syntax.specs.declared.mono.Op.{Op}
use Rattle.htt_syntax.specs.declared.mono.Op.TheVariants as op
use Rattle.shared_terms_rows.specs.declared.form.Form.TheVariants as form
use Rattle.shared_terms_rows.specs.declared.form.SkeletonForm.TheVariants as skeleton
use Rattle.shared_terms_rows.specs.declared.form.MonoForm.TheVariants as mono
use Rattle.shared_terms_rows.specs.declared.form.TyForm.TheVariants as ty
use Rattle.shared_terms_rows.specs.declared.form.TermForm.TheVariants as term
use Rattle.shared_terms_rows.specs.declared.form.FixForm.TheVariants as fix
use Rattle.shared_terms_rows.specs.declared.form.CompForm.TheVariants as comp
use Rattle.shared_terms_rows.specs.declared.form.StepForm.TheVariants as step
use Rattle.shared_terms_rows.specs.declared.form.FormulaForm.TheVariants as formula
use Rattle.shared_terms_rows.specs.declared.form.Kind.TheVariants as kinds
use Rattle.shared_terms_rows.specs.Parts.{Part, kind_of, of_skeleton, of_mono, of_ty, of_triple, of_term, of_terms}
use Rattle.shared_terms_rows.specs.Parts.{of_fix, of_comp, of_step, of_formula, as_skeleton, as_mono, as_ty}
use Rattle.shared_terms_rows.specs.Parts.{as_triple, as_term, as_terms, as_fix, as_comp, as_step, as_formula, op_of}
use Rattle.shared_terms_rows.specs.Parts.{build, build_skeleton, build_mono, build_ty, build_term, build_fix}
use Rattle.shared_terms_rows.specs.Parts.{build_comp, build_step, build_formula}
use Rattle.shared_terms_rows.specs.Forms.{slots, skeleton_slots, mono_slots, ty_slots, term_slots, fix_slots}
use Rattle.shared_terms_rows.specs.Forms.{comp_slots, step_slots, formula_slots}
use Rattle.theory_rows_inversion.specs.Inversion.{form_at, parts_at, parts, none, operation_of}
use Rattle.theory_rows_inversion.specs.Laws.{FormsAreTold, PartsAreOfSlots, PartsAreTold, TreesAreBuilt}

skeleton_told : (a : Part) → kind_of a ≡ kinds.Skeleton → of_skeleton (as_skeleton a) ≡ a
skeleton_told (of_skeleton x) e = refl
skeleton_told (of_mono x) e = absurd (grind arith)
skeleton_told (of_ty x) e = absurd (grind arith)
skeleton_told (of_triple x) e = absurd (grind arith)
skeleton_told (of_term x) e = absurd (grind arith)
skeleton_told (of_terms x) e = absurd (grind arith)
skeleton_told (of_fix x) e = absurd (grind arith)
skeleton_told (of_comp x) e = absurd (grind arith)
skeleton_told (of_step x) e = absurd (grind arith)
skeleton_told (of_formula x) e = absurd (grind arith)

mono_told : (a : Part) → kind_of a ≡ kinds.Mono → of_mono (as_mono a) ≡ a
mono_told (of_skeleton x) e = absurd (grind arith)
mono_told (of_mono x) e = refl
mono_told (of_ty x) e = absurd (grind arith)
mono_told (of_triple x) e = absurd (grind arith)
mono_told (of_term x) e = absurd (grind arith)
mono_told (of_terms x) e = absurd (grind arith)
mono_told (of_fix x) e = absurd (grind arith)
mono_told (of_comp x) e = absurd (grind arith)
mono_told (of_step x) e = absurd (grind arith)
mono_told (of_formula x) e = absurd (grind arith)

ty_told : (a : Part) → kind_of a ≡ kinds.Ty → of_ty (as_ty a) ≡ a
ty_told (of_skeleton x) e = absurd (grind arith)
ty_told (of_mono x) e = absurd (grind arith)
ty_told (of_ty x) e = refl
ty_told (of_triple x) e = absurd (grind arith)
ty_told (of_term x) e = absurd (grind arith)
ty_told (of_terms x) e = absurd (grind arith)
ty_told (of_fix x) e = absurd (grind arith)
ty_told (of_comp x) e = absurd (grind arith)
ty_told (of_step x) e = absurd (grind arith)
ty_told (of_formula x) e = absurd (grind arith)

triple_told : (a : Part) → kind_of a ≡ kinds.Triple → of_triple (as_triple a) ≡ a
triple_told (of_skeleton x) e = absurd (grind arith)
triple_told (of_mono x) e = absurd (grind arith)
triple_told (of_ty x) e = absurd (grind arith)
triple_told (of_triple x) e = refl
triple_told (of_term x) e = absurd (grind arith)
triple_told (of_terms x) e = absurd (grind arith)
triple_told (of_fix x) e = absurd (grind arith)
triple_told (of_comp x) e = absurd (grind arith)
triple_told (of_step x) e = absurd (grind arith)
triple_told (of_formula x) e = absurd (grind arith)

term_told : (a : Part) → kind_of a ≡ kinds.Term → of_term (as_term a) ≡ a
term_told (of_skeleton x) e = absurd (grind arith)
term_told (of_mono x) e = absurd (grind arith)
term_told (of_ty x) e = absurd (grind arith)
term_told (of_triple x) e = absurd (grind arith)
term_told (of_term x) e = refl
term_told (of_terms x) e = absurd (grind arith)
term_told (of_fix x) e = absurd (grind arith)
term_told (of_comp x) e = absurd (grind arith)
term_told (of_step x) e = absurd (grind arith)
term_told (of_formula x) e = absurd (grind arith)

terms_told : (a : Part) → kind_of a ≡ kinds.Terms → of_terms (as_terms a) ≡ a
terms_told (of_skeleton x) e = absurd (grind arith)
terms_told (of_mono x) e = absurd (grind arith)
terms_told (of_ty x) e = absurd (grind arith)
terms_told (of_triple x) e = absurd (grind arith)
terms_told (of_term x) e = absurd (grind arith)
terms_told (of_terms x) e = refl
terms_told (of_fix x) e = absurd (grind arith)
terms_told (of_comp x) e = absurd (grind arith)
terms_told (of_step x) e = absurd (grind arith)
terms_told (of_formula x) e = absurd (grind arith)

fix_told : (a : Part) → kind_of a ≡ kinds.Fix → of_fix (as_fix a) ≡ a
fix_told (of_skeleton x) e = absurd (grind arith)
fix_told (of_mono x) e = absurd (grind arith)
fix_told (of_ty x) e = absurd (grind arith)
fix_told (of_triple x) e = absurd (grind arith)
fix_told (of_term x) e = absurd (grind arith)
fix_told (of_terms x) e = absurd (grind arith)
fix_told (of_fix x) e = refl
fix_told (of_comp x) e = absurd (grind arith)
fix_told (of_step x) e = absurd (grind arith)
fix_told (of_formula x) e = absurd (grind arith)

comp_told : (a : Part) → kind_of a ≡ kinds.Comp → of_comp (as_comp a) ≡ a
comp_told (of_skeleton x) e = absurd (grind arith)
comp_told (of_mono x) e = absurd (grind arith)
comp_told (of_ty x) e = absurd (grind arith)
comp_told (of_triple x) e = absurd (grind arith)
comp_told (of_term x) e = absurd (grind arith)
comp_told (of_terms x) e = absurd (grind arith)
comp_told (of_fix x) e = absurd (grind arith)
comp_told (of_comp x) e = refl
comp_told (of_step x) e = absurd (grind arith)
comp_told (of_formula x) e = absurd (grind arith)

step_told : (a : Part) → kind_of a ≡ kinds.Step → of_step (as_step a) ≡ a
step_told (of_skeleton x) e = absurd (grind arith)
step_told (of_mono x) e = absurd (grind arith)
step_told (of_ty x) e = absurd (grind arith)
step_told (of_triple x) e = absurd (grind arith)
step_told (of_term x) e = absurd (grind arith)
step_told (of_terms x) e = absurd (grind arith)
step_told (of_fix x) e = absurd (grind arith)
step_told (of_comp x) e = absurd (grind arith)
step_told (of_step x) e = refl
step_told (of_formula x) e = absurd (grind arith)

formula_told : (a : Part) → kind_of a ≡ kinds.Formula → of_formula (as_formula a) ≡ a
formula_told (of_skeleton x) e = absurd (grind arith)
formula_told (of_mono x) e = absurd (grind arith)
formula_told (of_ty x) e = absurd (grind arith)
formula_told (of_triple x) e = absurd (grind arith)
formula_told (of_term x) e = absurd (grind arith)
formula_told (of_terms x) e = absurd (grind arith)
formula_told (of_fix x) e = absurd (grind arith)
formula_told (of_comp x) e = absurd (grind arith)
formula_told (of_step x) e = absurd (grind arith)
formula_told (of_formula x) e = refl

operation_told : (o : Operation) → operation_of (op_of o) ≡ o
operation_told operation.Add = refl
operation_told operation.Sub = refl
operation_told operation.Mul = refl
operation_told operation.And = refl
operation_told operation.Or = refl
operation_told operation.Xor = refl
operation_told operation.Shl = refl
operation_told operation.Shr = refl
operation_told operation.Lt = refl

op_told : (o : Op) → o ≡ op_of (operation_of o)
op_told op.Add = refl
op_told op.Sub = refl
op_told op.Mul = refl
op_told op.And = refl
op_told op.Or = refl
op_told op.Xor = refl
op_told op.Shl = refl
op_told op.Shr = refl
op_told op.Lt = refl

pub forms_are_told : FormsAreTold
unfolding build build_skeleton build_mono build_ty build_term build_fix build_comp build_step build_formula form_at
forms_are_told (form.Skeleton skeleton.O) a b c d = refl
forms_are_told (form.Skeleton skeleton.C) a b c d = refl
forms_are_told (form.Skeleton skeleton.Arrow) a b c d = refl
forms_are_told (form.Skeleton skeleton.All) a b c d = refl
forms_are_told (form.Mono mono.Word) a b c d = refl
forms_are_told (form.Mono mono.Bool) a b c d = refl
forms_are_told (form.Mono mono.Loc) a b c d = refl
forms_are_told (form.Mono mono.Unit) a b c d = refl
forms_are_told (form.Mono mono.Pair) a b c d = refl
forms_are_told (form.Mono (mono.Var index)) a b c d = refl
forms_are_told (form.Ty ty.Mono) a b c d = refl
forms_are_told (form.Ty ty.Fun) a b c d = refl
forms_are_told (form.Ty ty.All) a b c d = refl
forms_are_told (form.Ty ty.Hoare) a b c d = refl
forms_are_told (form.Ty (ty.At at)) a b c d = refl
forms_are_told form.Triple a b c d = refl
forms_are_told (form.Term (term.Var index)) a b c d = refl
forms_are_told (form.Term (term.Val number)) a b c d = refl
forms_are_told (form.Term (term.Def number)) a b c d = refl
forms_are_told (form.Term term.App) a b c d = refl
forms_are_told (form.Term term.Inst) a b c d = refl
forms_are_told (form.Term term.Lam) a b c d = refl
forms_are_told (form.Term term.LamT) a b c d = refl
forms_are_told (form.Term term.Do) a b c d = refl
forms_are_told (form.Term (term.Fix at)) a b c d = refl
forms_are_told (form.Term (term.Word word)) a b c d = refl
forms_are_told (form.Term (term.Bool truth)) a b c d = refl
forms_are_told (form.Term (term.Loc place)) a b c d = refl
forms_are_told (form.Term term.Unit) a b c d = refl
forms_are_told (form.Term term.Pair) a b c d = refl
forms_are_told (form.Term term.Fst) a b c d = refl
forms_are_told (form.Term term.Snd) a b c d = refl
forms_are_told (form.Term term.Un) a b c d = refl
forms_are_told (form.Term (term.Bin op)) a b c d = λ j. form.Term (term.Bin (operation_told op j))
forms_are_told (form.Term term.Eq) a b c d = refl
forms_are_told (form.Term term.Sel) a b c d = refl
forms_are_told (form.Term term.Ann) a b c d = refl
forms_are_told (form.Term (term.Made number)) a b c d = refl
forms_are_told (form.Term (term.At at)) a b c d = refl
forms_are_told (form.Fix fix.Param) a b c d = refl
forms_are_told (form.Fix fix.Body) a b c d = refl
forms_are_told (form.Comp comp.Ret) a b c d = refl
forms_are_told (form.Comp comp.Step) a b c d = refl
forms_are_told (form.Step step.Run) a b c d = refl
forms_are_told (form.Step step.RunOpen) a b c d = refl
forms_are_told (form.Step step.Alloc) a b c d = refl
forms_are_told (form.Step step.Get) a b c d = refl
forms_are_told (form.Step step.Set) a b c d = refl
forms_are_told (form.Step step.Free) a b c d = refl
forms_are_told (form.Step step.If) a b c d = refl
forms_are_told (form.Step step.Claim) a b c d = refl
forms_are_told (form.Formula formula.Tt) a b c d = refl
forms_are_told (form.Formula formula.Ff) a b c d = refl
forms_are_told (form.Formula formula.And) a b c d = refl
forms_are_told (form.Formula formula.Or) a b c d = refl
forms_are_told (form.Formula formula.Imp) a b c d = refl
forms_are_told (form.Formula formula.AllT) a b c d = refl
forms_are_told (form.Formula formula.ExT) a b c d = refl
forms_are_told (form.Formula formula.AllH) a b c d = refl
forms_are_told (form.Formula formula.ExH) a b c d = refl
forms_are_told (form.Formula (formula.Emp heap)) a b c d = refl
forms_are_told (form.Formula (formula.Cell heap)) a b c d = refl
forms_are_told (form.Formula (formula.Block heap)) a b c d = refl
forms_are_told (form.Formula (formula.Join whole left right)) a b c d = refl
forms_are_told (form.Formula (formula.Same left right)) a b c d = refl
forms_are_told (form.Formula formula.Eq) a b c d = refl
forms_are_told (form.Formula (formula.At at)) a b c d = refl
forms_are_told (form.Formula (formula.Rec number heap)) a b c d = refl
forms_are_told form.NoTerms a b c d = refl
forms_are_told form.MoreTerms a b c d = refl

pub parts_are_told : PartsAreTold
unfolding build build_skeleton build_mono build_ty build_term build_fix build_comp build_step build_formula slots skeleton_slots mono_slots ty_slots term_slots fix_slots comp_slots step_slots formula_slots parts_at
parts_are_told (form.Skeleton skeleton.O) a b c d h i k l = refl
parts_are_told (form.Skeleton skeleton.C) a b c d h i k l = refl
parts_are_told (form.Skeleton skeleton.Arrow) a b c d h i k l = λ j. parts (skeleton_told a h j) (skeleton_told b i j) none none
parts_are_told (form.Skeleton skeleton.All) a b c d h i k l = λ j. parts (skeleton_told a h j) none none none
parts_are_told (form.Mono mono.Word) a b c d h i k l = refl
parts_are_told (form.Mono mono.Bool) a b c d h i k l = refl
parts_are_told (form.Mono mono.Loc) a b c d h i k l = refl
parts_are_told (form.Mono mono.Unit) a b c d h i k l = refl
parts_are_told (form.Mono mono.Pair) a b c d h i k l = λ j. parts (mono_told a h j) (mono_told b i j) none none
parts_are_told (form.Mono (mono.Var index)) a b c d h i k l = refl
parts_are_told (form.Ty ty.Mono) a b c d h i k l = λ j. parts (mono_told a h j) none none none
parts_are_told (form.Ty ty.Fun) a b c d h i k l = λ j. parts (ty_told a h j) (ty_told b i j) none none
parts_are_told (form.Ty ty.All) a b c d h i k l = λ j. parts (ty_told a h j) none none none
parts_are_told (form.Ty ty.Hoare) a b c d h i k l = λ j. parts (triple_told a h j) none none none
parts_are_told (form.Ty (ty.At at)) a b c d h i k l = λ j. parts (ty_told a h j) none none none
parts_are_told form.Triple a b c d h i k l = λ j. parts (formula_told a h j) (mono_told b i j) (formula_told c k j) none
parts_are_told (form.Term (term.Var index)) a b c d h i k l = refl
parts_are_told (form.Term (term.Val number)) a b c d h i k l = refl
parts_are_told (form.Term (term.Def number)) a b c d h i k l = refl
parts_are_told (form.Term term.App) a b c d h i k l = λ j. parts (term_told a h j) (term_told b i j) none none
parts_are_told (form.Term term.Inst) a b c d h i k l = λ j. parts (term_told a h j) (mono_told b i j) none none
parts_are_told (form.Term term.Lam) a b c d h i k l = λ j. parts (term_told a h j) none none none
parts_are_told (form.Term term.LamT) a b c d h i k l = λ j. parts (term_told a h j) none none none
parts_are_told (form.Term term.Do) a b c d h i k l = λ j. parts (comp_told a h j) none none none
parts_are_told (form.Term (term.Fix at)) a b c d h i k l = λ j. parts (fix_told a h j) none none none
parts_are_told (form.Term (term.Word word)) a b c d h i k l = refl
parts_are_told (form.Term (term.Bool truth)) a b c d h i k l = refl
parts_are_told (form.Term (term.Loc place)) a b c d h i k l = refl
parts_are_told (form.Term term.Unit) a b c d h i k l = refl
parts_are_told (form.Term term.Pair) a b c d h i k l = λ j. parts (term_told a h j) (term_told b i j) none none
parts_are_told (form.Term term.Fst) a b c d h i k l = λ j. parts (term_told a h j) none none none
parts_are_told (form.Term term.Snd) a b c d h i k l = λ j. parts (term_told a h j) none none none
parts_are_told (form.Term term.Un) a b c d h i k l = λ j. parts (term_told a h j) none none none
parts_are_told (form.Term (term.Bin op)) a b c d h i k l = λ j. parts (term_told a h j) (term_told b i j) none none
parts_are_told (form.Term term.Eq) a b c d h i k l = λ j. parts (mono_told a h j) (term_told b i j) (term_told c k j) none
parts_are_told (form.Term term.Sel) a b c d h i k l = λ j. parts (mono_told a h j) (term_told b i j) (term_told c k j) (term_told d l j)
parts_are_told (form.Term term.Ann) a b c d h i k l = λ j. parts (term_told a h j) (ty_told b i j) none none
parts_are_told (form.Term (term.Made number)) a b c d h i k l = λ j. parts (terms_told a h j) none none none
parts_are_told (form.Term (term.At at)) a b c d h i k l = λ j. parts (term_told a h j) none none none
parts_are_told (form.Fix fix.Param) a b c d h i k l = λ j. parts (ty_told a h j) (fix_told b i j) none none
parts_are_told (form.Fix fix.Body) a b c d h i k l = λ j. parts (triple_told a h j) (comp_told b i j) none none
parts_are_told (form.Comp comp.Ret) a b c d h i k l = λ j. parts (term_told a h j) none none none
parts_are_told (form.Comp comp.Step) a b c d h i k l = λ j. parts (step_told a h j) (comp_told b i j) none none
parts_are_told (form.Step step.Run) a b c d h i k l = λ j. parts (term_told a h j) (mono_told b i j) none none
parts_are_told (form.Step step.RunOpen) a b c d h i k l = λ j. parts (term_told a h j) none none none
parts_are_told (form.Step step.Alloc) a b c d h i k l = λ j. parts (mono_told a h j) (term_told b i j) none none
parts_are_told (form.Step step.Get) a b c d h i k l = λ j. parts (mono_told a h j) (term_told b i j) none none
parts_are_told (form.Step step.Set) a b c d h i k l = λ j. parts (mono_told a h j) (term_told b i j) (term_told c k j) none
parts_are_told (form.Step step.Free) a b c d h i k l = λ j. parts (mono_told a h j) (term_told b i j) none none
parts_are_told (form.Step step.If) a b c d h i k l = λ j. parts (mono_told a h j) (term_told b i j) (comp_told c k j) (comp_told d l j)
parts_are_told (form.Step step.Claim) a b c d h i k l = λ j. parts (formula_told a h j) none none none
parts_are_told (form.Formula formula.Tt) a b c d h i k l = refl
parts_are_told (form.Formula formula.Ff) a b c d h i k l = refl
parts_are_told (form.Formula formula.And) a b c d h i k l = λ j. parts (formula_told a h j) (formula_told b i j) none none
parts_are_told (form.Formula formula.Or) a b c d h i k l = λ j. parts (formula_told a h j) (formula_told b i j) none none
parts_are_told (form.Formula formula.Imp) a b c d h i k l = λ j. parts (formula_told a h j) (formula_told b i j) none none
parts_are_told (form.Formula formula.AllT) a b c d h i k l = λ j. parts (mono_told a h j) (formula_told b i j) none none
parts_are_told (form.Formula formula.ExT) a b c d h i k l = λ j. parts (mono_told a h j) (formula_told b i j) none none
parts_are_told (form.Formula formula.AllH) a b c d h i k l = λ j. parts (formula_told a h j) none none none
parts_are_told (form.Formula formula.ExH) a b c d h i k l = λ j. parts (formula_told a h j) none none none
parts_are_told (form.Formula (formula.Emp heap)) a b c d h i k l = refl
parts_are_told (form.Formula (formula.Cell heap)) a b c d h i k l = λ j. parts (mono_told a h j) (term_told b i j) (term_told c k j) none
parts_are_told (form.Formula (formula.Block heap)) a b c d h i k l = λ j. parts (mono_told a h j) (term_told b i j) none none
parts_are_told (form.Formula (formula.Join whole left right)) a b c d h i k l = refl
parts_are_told (form.Formula (formula.Same left right)) a b c d h i k l = refl
parts_are_told (form.Formula formula.Eq) a b c d h i k l = λ j. parts (mono_told a h j) (term_told b i j) (term_told c k j) none
parts_are_told (form.Formula (formula.At at)) a b c d h i k l = λ j. parts (formula_told a h j) none none none
parts_are_told (form.Formula (formula.Rec number heap)) a b c d h i k l = λ j. parts (term_told a h j) (terms_told b i j) none none
parts_are_told form.NoTerms a b c d h i k l = refl
parts_are_told form.MoreTerms a b c d h i k l = λ j. parts (term_told a h j) (terms_told b i j) none none

pub trees_are_built : TreesAreBuilt
unfolding build build_skeleton build_mono build_ty build_term build_fix build_comp build_step build_formula form_at parts_at
trees_are_built (of_skeleton sk_o) = refl
trees_are_built (of_skeleton sk_c) = refl
trees_are_built (of_skeleton (sk_arrow a b)) = refl
trees_are_built (of_skeleton (sk_all a)) = refl
trees_are_built (of_mono m_word) = refl
trees_are_built (of_mono m_bool) = refl
trees_are_built (of_mono m_loc) = refl
trees_are_built (of_mono m_unit) = refl
trees_are_built (of_mono (m_pair a b)) = refl
trees_are_built (of_mono (m_var index)) = refl
trees_are_built (of_ty (y_mono a)) = refl
trees_are_built (of_ty (y_fun a b)) = refl
trees_are_built (of_ty (y_all a)) = refl
trees_are_built (of_ty (y_hoare a)) = refl
trees_are_built (of_ty (y_at at a)) = refl
trees_are_built (of_triple (triple a b c)) = refl
trees_are_built (of_term (t_var index)) = refl
trees_are_built (of_term (t_val number)) = refl
trees_are_built (of_term (t_def number)) = refl
trees_are_built (of_term (t_app a b)) = refl
trees_are_built (of_term (t_inst a b)) = refl
trees_are_built (of_term (t_lam a)) = refl
trees_are_built (of_term (t_lam_t a)) = refl
trees_are_built (of_term (t_do a)) = refl
trees_are_built (of_term (t_fix at a)) = refl
trees_are_built (of_term (t_word word)) = refl
trees_are_built (of_term (t_bool truth)) = refl
trees_are_built (of_term (t_loc place)) = refl
trees_are_built (of_term t_unit) = refl
trees_are_built (of_term (t_pair a b)) = refl
trees_are_built (of_term (t_fst a)) = refl
trees_are_built (of_term (t_snd a)) = refl
trees_are_built (of_term (t_not a)) = refl
trees_are_built (of_term (t_bin op a b)) = λ j. of_term (t_bin (op_told op j) a b)
trees_are_built (of_term (t_eq a b c)) = refl
trees_are_built (of_term (t_sel a b c d)) = refl
trees_are_built (of_term (t_ann a b)) = refl
trees_are_built (of_term (t_made number a)) = refl
trees_are_built (of_term (t_at at a)) = refl
trees_are_built (of_fix (x_param a b)) = refl
trees_are_built (of_fix (x_body a b)) = refl
trees_are_built (of_comp (c_ret a)) = refl
trees_are_built (of_comp (c_step a b)) = refl
trees_are_built (of_step (s_run a (Some b))) = refl
trees_are_built (of_step (s_run a None)) = refl
trees_are_built (of_step (s_alloc a b)) = refl
trees_are_built (of_step (s_get a b)) = refl
trees_are_built (of_step (s_set a b c)) = refl
trees_are_built (of_step (s_free a b)) = refl
trees_are_built (of_step (s_if a b c d)) = refl
trees_are_built (of_step (s_claim a)) = refl
trees_are_built (of_formula f_tt) = refl
trees_are_built (of_formula f_ff) = refl
trees_are_built (of_formula (f_and a b)) = refl
trees_are_built (of_formula (f_or a b)) = refl
trees_are_built (of_formula (f_imp a b)) = refl
trees_are_built (of_formula (f_all_t a b)) = refl
trees_are_built (of_formula (f_ex_t a b)) = refl
trees_are_built (of_formula (f_all_h a)) = refl
trees_are_built (of_formula (f_ex_h a)) = refl
trees_are_built (of_formula (f_emp heap)) = refl
trees_are_built (of_formula (f_cell a heap b c)) = refl
trees_are_built (of_formula (f_block a heap b)) = refl
trees_are_built (of_formula (f_join whole left right)) = refl
trees_are_built (of_formula (f_same left right)) = refl
trees_are_built (of_formula (f_eq a b c)) = refl
trees_are_built (of_formula (f_at at a)) = refl
trees_are_built (of_formula (f_rec number heap a b)) = refl
trees_are_built (of_terms no_terms) = refl
trees_are_built (of_terms (more_terms a b)) = refl

pub parts_are_of_slots : PartsAreOfSlots
unfolding form_at parts_at slots skeleton_slots mono_slots ty_slots term_slots fix_slots comp_slots step_slots formula_slots
parts_are_of_slots (of_skeleton sk_o) = (tt, tt, tt, tt)
parts_are_of_slots (of_skeleton sk_c) = (tt, tt, tt, tt)
parts_are_of_slots (of_skeleton (sk_arrow a b)) = (refl, refl, tt, tt)
parts_are_of_slots (of_skeleton (sk_all a)) = (refl, tt, tt, tt)
parts_are_of_slots (of_mono m_word) = (tt, tt, tt, tt)
parts_are_of_slots (of_mono m_bool) = (tt, tt, tt, tt)
parts_are_of_slots (of_mono m_loc) = (tt, tt, tt, tt)
parts_are_of_slots (of_mono m_unit) = (tt, tt, tt, tt)
parts_are_of_slots (of_mono (m_pair a b)) = (refl, refl, tt, tt)
parts_are_of_slots (of_mono (m_var index)) = (tt, tt, tt, tt)
parts_are_of_slots (of_ty (y_mono a)) = (refl, tt, tt, tt)
parts_are_of_slots (of_ty (y_fun a b)) = (refl, refl, tt, tt)
parts_are_of_slots (of_ty (y_all a)) = (refl, tt, tt, tt)
parts_are_of_slots (of_ty (y_hoare a)) = (refl, tt, tt, tt)
parts_are_of_slots (of_ty (y_at at a)) = (refl, tt, tt, tt)
parts_are_of_slots (of_triple (triple a b c)) = (refl, refl, refl, tt)
parts_are_of_slots (of_term (t_var index)) = (tt, tt, tt, tt)
parts_are_of_slots (of_term (t_val number)) = (tt, tt, tt, tt)
parts_are_of_slots (of_term (t_def number)) = (tt, tt, tt, tt)
parts_are_of_slots (of_term (t_app a b)) = (refl, refl, tt, tt)
parts_are_of_slots (of_term (t_inst a b)) = (refl, refl, tt, tt)
parts_are_of_slots (of_term (t_lam a)) = (refl, tt, tt, tt)
parts_are_of_slots (of_term (t_lam_t a)) = (refl, tt, tt, tt)
parts_are_of_slots (of_term (t_do a)) = (refl, tt, tt, tt)
parts_are_of_slots (of_term (t_fix at a)) = (refl, tt, tt, tt)
parts_are_of_slots (of_term (t_word word)) = (tt, tt, tt, tt)
parts_are_of_slots (of_term (t_bool truth)) = (tt, tt, tt, tt)
parts_are_of_slots (of_term (t_loc place)) = (tt, tt, tt, tt)
parts_are_of_slots (of_term t_unit) = (tt, tt, tt, tt)
parts_are_of_slots (of_term (t_pair a b)) = (refl, refl, tt, tt)
parts_are_of_slots (of_term (t_fst a)) = (refl, tt, tt, tt)
parts_are_of_slots (of_term (t_snd a)) = (refl, tt, tt, tt)
parts_are_of_slots (of_term (t_not a)) = (refl, tt, tt, tt)
parts_are_of_slots (of_term (t_bin op a b)) = (refl, refl, tt, tt)
parts_are_of_slots (of_term (t_eq a b c)) = (refl, refl, refl, tt)
parts_are_of_slots (of_term (t_sel a b c d)) = (refl, refl, refl, refl)
parts_are_of_slots (of_term (t_ann a b)) = (refl, refl, tt, tt)
parts_are_of_slots (of_term (t_made number a)) = (refl, tt, tt, tt)
parts_are_of_slots (of_term (t_at at a)) = (refl, tt, tt, tt)
parts_are_of_slots (of_fix (x_param a b)) = (refl, refl, tt, tt)
parts_are_of_slots (of_fix (x_body a b)) = (refl, refl, tt, tt)
parts_are_of_slots (of_comp (c_ret a)) = (refl, tt, tt, tt)
parts_are_of_slots (of_comp (c_step a b)) = (refl, refl, tt, tt)
parts_are_of_slots (of_step (s_run a (Some b))) = (refl, refl, tt, tt)
parts_are_of_slots (of_step (s_run a None)) = (refl, tt, tt, tt)
parts_are_of_slots (of_step (s_alloc a b)) = (refl, refl, tt, tt)
parts_are_of_slots (of_step (s_get a b)) = (refl, refl, tt, tt)
parts_are_of_slots (of_step (s_set a b c)) = (refl, refl, refl, tt)
parts_are_of_slots (of_step (s_free a b)) = (refl, refl, tt, tt)
parts_are_of_slots (of_step (s_if a b c d)) = (refl, refl, refl, refl)
parts_are_of_slots (of_step (s_claim a)) = (refl, tt, tt, tt)
parts_are_of_slots (of_formula f_tt) = (tt, tt, tt, tt)
parts_are_of_slots (of_formula f_ff) = (tt, tt, tt, tt)
parts_are_of_slots (of_formula (f_and a b)) = (refl, refl, tt, tt)
parts_are_of_slots (of_formula (f_or a b)) = (refl, refl, tt, tt)
parts_are_of_slots (of_formula (f_imp a b)) = (refl, refl, tt, tt)
parts_are_of_slots (of_formula (f_all_t a b)) = (refl, refl, tt, tt)
parts_are_of_slots (of_formula (f_ex_t a b)) = (refl, refl, tt, tt)
parts_are_of_slots (of_formula (f_all_h a)) = (refl, tt, tt, tt)
parts_are_of_slots (of_formula (f_ex_h a)) = (refl, tt, tt, tt)
parts_are_of_slots (of_formula (f_emp heap)) = (tt, tt, tt, tt)
parts_are_of_slots (of_formula (f_cell a heap b c)) = (refl, refl, refl, tt)
parts_are_of_slots (of_formula (f_block a heap b)) = (refl, refl, tt, tt)
parts_are_of_slots (of_formula (f_join whole left right)) = (tt, tt, tt, tt)
parts_are_of_slots (of_formula (f_same left right)) = (tt, tt, tt, tt)
parts_are_of_slots (of_formula (f_eq a b c)) = (refl, refl, refl, tt)
parts_are_of_slots (of_formula (f_at at a)) = (refl, tt, tt, tt)
parts_are_of_slots (of_formula (f_rec number heap a b)) = (refl, refl, tt, tt)
parts_are_of_slots (of_terms no_terms) = (tt, tt, tt, tt)
parts_are_of_slots (of_terms (more_terms a b)) = (refl, refl, tt, tt)
