-- The slots of each form, and what a row of it is of.
use Rattle.std.specs.Prelude.{ℕ, Some, None}
use Rattle.shared_terms_rows.specs.declared.form.Form.{Form}
use Rattle.shared_terms_rows.specs.declared.form.Form.TheVariants as form
use Rattle.shared_terms_rows.specs.declared.form.SkeletonForm.{SkeletonForm}
use Rattle.shared_terms_rows.specs.declared.form.SkeletonForm.TheVariants as skeleton
use Rattle.shared_terms_rows.specs.declared.form.MonoForm.{MonoForm}
use Rattle.shared_terms_rows.specs.declared.form.MonoForm.TheVariants as mono
use Rattle.shared_terms_rows.specs.declared.form.TyForm.{TyForm}
use Rattle.shared_terms_rows.specs.declared.form.TyForm.TheVariants as ty
use Rattle.shared_terms_rows.specs.declared.form.TermForm.{TermForm}
use Rattle.shared_terms_rows.specs.declared.form.TermForm.TheVariants as term
use Rattle.shared_terms_rows.specs.declared.form.FixForm.{FixForm}
use Rattle.shared_terms_rows.specs.declared.form.FixForm.TheVariants as fix
use Rattle.shared_terms_rows.specs.declared.form.CompForm.{CompForm}
use Rattle.shared_terms_rows.specs.declared.form.CompForm.TheVariants as comp
use Rattle.shared_terms_rows.specs.declared.form.StepForm.{StepForm}
use Rattle.shared_terms_rows.specs.declared.form.StepForm.TheVariants as step
use Rattle.shared_terms_rows.specs.declared.form.FormulaForm.{FormulaForm}
use Rattle.shared_terms_rows.specs.declared.form.FormulaForm.TheVariants as formula
use Rattle.shared_terms_rows.specs.declared.form.Kind.{Kind}
use Rattle.shared_terms_rows.specs.declared.form.Kind.TheVariants as kinds
use Rattle.shared_terms_rows.specs.declared.slots.Slot.{Slot}
use Rattle.shared_terms_rows.specs.declared.slots.Slots.{Slots}

abbrev pub under : Kind → ℕ → Slot
under kind binders = record { kind = kind; binders = binders }

abbrev pub of : Kind → Slot
of kind = under kind 0

abbrev pub four : Slot → Slot → Slot → Slot → Slots
four a b c d = record { first = Some a; second = Some b; third = Some c; fourth = Some d }

abbrev pub three : Slot → Slot → Slot → Slots
three a b c = record { first = Some a; second = Some b; third = Some c; fourth = None }

abbrev pub two : Slot → Slot → Slots
two a b = record { first = Some a; second = Some b; third = None; fourth = None }

abbrev pub one : Slot → Slots
one a = record { first = Some a; second = None; third = None; fourth = None }

abbrev pub none : Slots
none = record { first = None; second = None; third = None; fourth = None }

unfoldable pub skeleton_slots : SkeletonForm → Slots
skeleton_slots skeleton.O = none
skeleton_slots skeleton.C = none
skeleton_slots skeleton.Arrow = two (of kinds.Skeleton) (of kinds.Skeleton)
skeleton_slots skeleton.All = one (of kinds.Skeleton)

unfoldable pub mono_slots : MonoForm → Slots
mono_slots mono.Word = none
mono_slots mono.Bool = none
mono_slots mono.Loc = none
mono_slots mono.Unit = none
mono_slots mono.Pair = two (of kinds.Mono) (of kinds.Mono)
mono_slots (mono.Var index) = none

unfoldable pub ty_slots : TyForm → Slots
ty_slots ty.Mono = one (of kinds.Mono)
ty_slots ty.Fun = two (of kinds.Ty) (under kinds.Ty 1)
ty_slots ty.All = one (under kinds.Ty 1)
ty_slots ty.Hoare = one (of kinds.Triple)
ty_slots (ty.At at) = one (of kinds.Ty)

unfoldable pub term_slots : TermForm → Slots
term_slots (term.Var index) = none
term_slots (term.Val number) = none
term_slots (term.Def number) = none
term_slots term.App = two (of kinds.Term) (of kinds.Term)
term_slots term.Inst = two (of kinds.Term) (of kinds.Mono)
term_slots term.Lam = one (under kinds.Term 1)
term_slots term.LamT = one (under kinds.Term 1)
term_slots term.Do = one (of kinds.Comp)
term_slots (term.Fix at) = one (of kinds.Fix)
term_slots (term.Word word) = none
term_slots (term.Bool truth) = none
term_slots (term.Loc place) = none
term_slots term.Unit = none
term_slots term.Pair = two (of kinds.Term) (of kinds.Term)
term_slots term.Fst = one (of kinds.Term)
term_slots term.Snd = one (of kinds.Term)
term_slots term.Un = one (of kinds.Term)
term_slots (term.Bin op) = two (of kinds.Term) (of kinds.Term)
term_slots term.Eq = three (of kinds.Mono) (of kinds.Term) (of kinds.Term)
term_slots term.Sel = four (of kinds.Mono) (of kinds.Term) (of kinds.Term) (of kinds.Term)
term_slots term.Ann = two (of kinds.Term) (of kinds.Ty)
term_slots (term.Made number) = one (of kinds.Terms)
term_slots (term.At at) = one (of kinds.Term)

unfoldable pub fix_slots : FixForm → Slots
fix_slots fix.Param = two (of kinds.Ty) (under kinds.Fix 1)
fix_slots fix.Body = two (of kinds.Triple) (under kinds.Comp 1)

unfoldable pub comp_slots : CompForm → Slots
comp_slots comp.Ret = one (of kinds.Term)
comp_slots comp.Step = two (of kinds.Step) (under kinds.Comp 1)

unfoldable pub step_slots : StepForm → Slots
step_slots step.Run = two (of kinds.Term) (of kinds.Mono)
step_slots step.RunOpen = one (of kinds.Term)
step_slots step.Alloc = two (of kinds.Mono) (of kinds.Term)
step_slots step.Get = two (of kinds.Mono) (of kinds.Term)
step_slots step.Set = three (of kinds.Mono) (of kinds.Term) (of kinds.Term)
step_slots step.Free = two (of kinds.Mono) (of kinds.Term)
step_slots step.If = four (of kinds.Mono) (of kinds.Term) (of kinds.Comp) (of kinds.Comp)
step_slots step.Claim = one (under kinds.Formula 2)

unfoldable pub formula_slots : FormulaForm → Slots
formula_slots formula.Tt = none
formula_slots formula.Ff = none
formula_slots formula.And = two (of kinds.Formula) (of kinds.Formula)
formula_slots formula.Or = two (of kinds.Formula) (of kinds.Formula)
formula_slots formula.Imp = two (of kinds.Formula) (of kinds.Formula)
formula_slots formula.AllT = two (of kinds.Mono) (under kinds.Formula 1)
formula_slots formula.ExT = two (of kinds.Mono) (under kinds.Formula 1)
formula_slots formula.AllH = one (under kinds.Formula 1)
formula_slots formula.ExH = one (under kinds.Formula 1)
formula_slots (formula.Emp heap) = none
formula_slots (formula.Cell heap) = three (of kinds.Mono) (of kinds.Term) (of kinds.Term)
formula_slots (formula.Block heap) = two (of kinds.Mono) (of kinds.Term)
formula_slots (formula.Join whole left right) = none
formula_slots (formula.Same left right) = none
formula_slots formula.Eq = three (of kinds.Mono) (of kinds.Term) (of kinds.Term)
formula_slots (formula.At at) = one (of kinds.Formula)
formula_slots (formula.Rec number heap) = two (of kinds.Term) (of kinds.Terms)

unfoldable pub slots : Form → Slots
slots (form.Skeleton f) = skeleton_slots f
slots (form.Mono f) = mono_slots f
slots (form.Ty f) = ty_slots f
slots (form.Term f) = term_slots f
slots (form.Fix f) = fix_slots f
slots (form.Comp f) = comp_slots f
slots (form.Step f) = step_slots f
slots (form.Formula f) = formula_slots f
slots form.Triple = three (under kinds.Formula 1) (of kinds.Mono) (under kinds.Formula 3)
slots form.NoTerms = none
slots form.MoreTerms = two (of kinds.Term) (of kinds.Terms)

unfoldable pub kind : Form → Kind
kind (form.Skeleton f) = kinds.Skeleton
kind (form.Mono f) = kinds.Mono
kind (form.Ty f) = kinds.Ty
kind (form.Term f) = kinds.Term
kind (form.Fix f) = kinds.Fix
kind (form.Comp f) = kinds.Comp
kind (form.Step f) = kinds.Step
kind (form.Formula f) = kinds.Formula
kind form.Triple = kinds.Triple
kind form.NoTerms = kinds.Terms
kind form.MoreTerms = kinds.Terms
