-- Rows that compare equal are the same, and each compares equal to itself.
use Rattle.std.proofs.Common.{◌≡◌, ℕ, arith, true, nat_eq, ap, rules}
use Rattle.std.proofs.lemmas.Bool.{and_parts}
use Rattle.shared_terms_rows.specs.declared.operation.Operation.{Operation}
use Rattle.shared_terms_rows.specs.contracts.operation.OperationPartialEq as OperationEq
use Rattle.shared_terms_rows.specs.declared.form.Form.{Form}
use Rattle.shared_terms_rows.specs.declared.form.Form.TheVariants as form
use Rattle.shared_terms_rows.specs.contracts.form.FormPartialEq as FormEq
use Rattle.shared_terms_rows.specs.declared.row.Row.{Row}
use Rattle.shared_terms_rows.specs.contracts.row.RowPartialEq as RowEq
use Rattle.shared_terms_rows.specs.declared.form.SkeletonForm.{SkeletonForm}
use Rattle.shared_terms_rows.specs.contracts.form.SkeletonFormPartialEq as SkeletonEq
use Rattle.shared_terms_rows.specs.declared.form.MonoForm.{MonoForm}
use Rattle.shared_terms_rows.specs.contracts.form.MonoFormPartialEq as MonoEq
use Rattle.shared_terms_rows.specs.declared.form.TyForm.{TyForm}
use Rattle.shared_terms_rows.specs.contracts.form.TyFormPartialEq as TyEq
use Rattle.shared_terms_rows.specs.declared.form.TermForm.{TermForm}
use Rattle.shared_terms_rows.specs.contracts.form.TermFormPartialEq as TermEq
use Rattle.shared_terms_rows.specs.declared.form.FixForm.{FixForm}
use Rattle.shared_terms_rows.specs.contracts.form.FixFormPartialEq as FixEq
use Rattle.shared_terms_rows.specs.declared.form.CompForm.{CompForm}
use Rattle.shared_terms_rows.specs.contracts.form.CompFormPartialEq as CompEq
use Rattle.shared_terms_rows.specs.declared.form.StepForm.{StepForm}
use Rattle.shared_terms_rows.specs.contracts.form.StepFormPartialEq as StepEq
use Rattle.shared_terms_rows.specs.declared.form.FormulaForm.{FormulaForm}
use Rattle.shared_terms_rows.specs.contracts.form.FormulaFormPartialEq as FormulaEq

pub operation_same : (a b : Operation) → OperationEq.TheImpl.eq-value.it a b ≡ true → a ≡ b
operation_same a b e = search rules

pub skeleton_same : (a b : SkeletonForm) → SkeletonEq.TheImpl.eq-value.it a b ≡ true → a ≡ b
skeleton_same a b e = search rules

pub mono_same : (a b : MonoForm) → MonoEq.TheImpl.eq-value.it a b ≡ true → a ≡ b
mono_same a b e = search rules

pub ty_same : (a b : TyForm) → TyEq.TheImpl.eq-value.it a b ≡ true → a ≡ b
ty_same a b e = search rules

pub term_same : (a b : TermForm) → TermEq.TheImpl.eq-value.it a b ≡ true → a ≡ b
term_same a b e = search (rules, operation_same)

pub fix_same : (a b : FixForm) → FixEq.TheImpl.eq-value.it a b ≡ true → a ≡ b
fix_same a b e = search rules

pub comp_same : (a b : CompForm) → CompEq.TheImpl.eq-value.it a b ≡ true → a ≡ b
comp_same a b e = search rules

pub step_same : (a b : StepForm) → StepEq.TheImpl.eq-value.it a b ≡ true → a ≡ b
step_same a b e = search rules

pub formula_same : (a b : FormulaForm) → FormulaEq.TheImpl.eq-value.it a b ≡ true → a ≡ b
formula_same a b e = search rules

pub form_same : (a b : Form) → FormEq.TheImpl.eq-value.it a b ≡ true → a ≡ b
form_same (form.Skeleton a) (form.Skeleton b) e = ap form.Skeleton (skeleton_same a b e)
form_same (form.Skeleton a) (form.Mono b) e = search rules
form_same (form.Skeleton a) (form.Ty b) e = search rules
form_same (form.Skeleton a) (form.Term b) e = search rules
form_same (form.Skeleton a) (form.Fix b) e = search rules
form_same (form.Skeleton a) (form.Comp b) e = search rules
form_same (form.Skeleton a) (form.Step b) e = search rules
form_same (form.Skeleton a) (form.Formula b) e = search rules
form_same (form.Skeleton a) form.Triple e = search rules
form_same (form.Skeleton a) form.NoTerms e = search rules
form_same (form.Skeleton a) form.MoreTerms e = search rules
form_same (form.Mono a) (form.Skeleton b) e = search rules
form_same (form.Mono a) (form.Mono b) e = ap form.Mono (mono_same a b e)
form_same (form.Mono a) (form.Ty b) e = search rules
form_same (form.Mono a) (form.Term b) e = search rules
form_same (form.Mono a) (form.Fix b) e = search rules
form_same (form.Mono a) (form.Comp b) e = search rules
form_same (form.Mono a) (form.Step b) e = search rules
form_same (form.Mono a) (form.Formula b) e = search rules
form_same (form.Mono a) form.Triple e = search rules
form_same (form.Mono a) form.NoTerms e = search rules
form_same (form.Mono a) form.MoreTerms e = search rules
form_same (form.Ty a) (form.Skeleton b) e = search rules
form_same (form.Ty a) (form.Mono b) e = search rules
form_same (form.Ty a) (form.Ty b) e = ap form.Ty (ty_same a b e)
form_same (form.Ty a) (form.Term b) e = search rules
form_same (form.Ty a) (form.Fix b) e = search rules
form_same (form.Ty a) (form.Comp b) e = search rules
form_same (form.Ty a) (form.Step b) e = search rules
form_same (form.Ty a) (form.Formula b) e = search rules
form_same (form.Ty a) form.Triple e = search rules
form_same (form.Ty a) form.NoTerms e = search rules
form_same (form.Ty a) form.MoreTerms e = search rules
form_same (form.Term a) (form.Skeleton b) e = search rules
form_same (form.Term a) (form.Mono b) e = search rules
form_same (form.Term a) (form.Ty b) e = search rules
form_same (form.Term a) (form.Term b) e = ap form.Term (term_same a b e)
form_same (form.Term a) (form.Fix b) e = search rules
form_same (form.Term a) (form.Comp b) e = search rules
form_same (form.Term a) (form.Step b) e = search rules
form_same (form.Term a) (form.Formula b) e = search rules
form_same (form.Term a) form.Triple e = search rules
form_same (form.Term a) form.NoTerms e = search rules
form_same (form.Term a) form.MoreTerms e = search rules
form_same (form.Fix a) (form.Skeleton b) e = search rules
form_same (form.Fix a) (form.Mono b) e = search rules
form_same (form.Fix a) (form.Ty b) e = search rules
form_same (form.Fix a) (form.Term b) e = search rules
form_same (form.Fix a) (form.Fix b) e = ap form.Fix (fix_same a b e)
form_same (form.Fix a) (form.Comp b) e = search rules
form_same (form.Fix a) (form.Step b) e = search rules
form_same (form.Fix a) (form.Formula b) e = search rules
form_same (form.Fix a) form.Triple e = search rules
form_same (form.Fix a) form.NoTerms e = search rules
form_same (form.Fix a) form.MoreTerms e = search rules
form_same (form.Comp a) (form.Skeleton b) e = search rules
form_same (form.Comp a) (form.Mono b) e = search rules
form_same (form.Comp a) (form.Ty b) e = search rules
form_same (form.Comp a) (form.Term b) e = search rules
form_same (form.Comp a) (form.Fix b) e = search rules
form_same (form.Comp a) (form.Comp b) e = ap form.Comp (comp_same a b e)
form_same (form.Comp a) (form.Step b) e = search rules
form_same (form.Comp a) (form.Formula b) e = search rules
form_same (form.Comp a) form.Triple e = search rules
form_same (form.Comp a) form.NoTerms e = search rules
form_same (form.Comp a) form.MoreTerms e = search rules
form_same (form.Step a) (form.Skeleton b) e = search rules
form_same (form.Step a) (form.Mono b) e = search rules
form_same (form.Step a) (form.Ty b) e = search rules
form_same (form.Step a) (form.Term b) e = search rules
form_same (form.Step a) (form.Fix b) e = search rules
form_same (form.Step a) (form.Comp b) e = search rules
form_same (form.Step a) (form.Step b) e = ap form.Step (step_same a b e)
form_same (form.Step a) (form.Formula b) e = search rules
form_same (form.Step a) form.Triple e = search rules
form_same (form.Step a) form.NoTerms e = search rules
form_same (form.Step a) form.MoreTerms e = search rules
form_same (form.Formula a) (form.Skeleton b) e = search rules
form_same (form.Formula a) (form.Mono b) e = search rules
form_same (form.Formula a) (form.Ty b) e = search rules
form_same (form.Formula a) (form.Term b) e = search rules
form_same (form.Formula a) (form.Fix b) e = search rules
form_same (form.Formula a) (form.Comp b) e = search rules
form_same (form.Formula a) (form.Step b) e = search rules
form_same (form.Formula a) (form.Formula b) e = ap form.Formula (formula_same a b e)
form_same (form.Formula a) form.Triple e = search rules
form_same (form.Formula a) form.NoTerms e = search rules
form_same (form.Formula a) form.MoreTerms e = search rules
form_same form.Triple b e = search rules
form_same form.NoTerms b e = search rules
form_same form.MoreTerms b e = search rules

number_same : (m n : ℕ) → nat_eq m n ≡ true → m ≡ n
number_same m n h = grind arith

pub row_same : (a b : Row) → RowEq.TheImpl.eq-value.it a b ≡ true → a ≡ b
row_same a b e =
    let one = and_parts _ _ e in
    let two = and_parts (nat_eq a.first b.first) _ (one.1) in
    let three = and_parts (nat_eq a.second b.second) _ (two.1) in
    let four = and_parts (nat_eq a.third b.third) (nat_eq a.fourth b.fourth) (three.1) in
    let f : a.form ≡ b.form = form_same a.form b.form (one.0) in
    let p : a.first ≡ b.first = number_same a.first b.first (two.0) in
    let q : a.second ≡ b.second = number_same a.second b.second (three.0) in
    let r : a.third ≡ b.third = number_same a.third b.third (four.0) in
    let t : a.fourth ≡ b.fourth = number_same a.fourth b.fourth (four.1) in
    λ j. record { form = f j; first = p j; second = q j; third = r j; fourth = t j }

pub operation_itself : (a : Operation) → OperationEq.TheImpl.eq-value.it a a ≡ true
operation_itself a = search rules

pub skeleton_itself : (a : SkeletonForm) → SkeletonEq.TheImpl.eq-value.it a a ≡ true
skeleton_itself a = search rules

pub mono_itself : (a : MonoForm) → MonoEq.TheImpl.eq-value.it a a ≡ true
mono_itself a = search rules

pub ty_itself : (a : TyForm) → TyEq.TheImpl.eq-value.it a a ≡ true
ty_itself a = search rules

pub term_itself : (a : TermForm) → TermEq.TheImpl.eq-value.it a a ≡ true
term_itself a = search (rules, operation_itself)

pub fix_itself : (a : FixForm) → FixEq.TheImpl.eq-value.it a a ≡ true
fix_itself a = search rules

pub comp_itself : (a : CompForm) → CompEq.TheImpl.eq-value.it a a ≡ true
comp_itself a = search rules

pub step_itself : (a : StepForm) → StepEq.TheImpl.eq-value.it a a ≡ true
step_itself a = search rules

pub formula_itself : (a : FormulaForm) → FormulaEq.TheImpl.eq-value.it a a ≡ true
formula_itself a = search rules

pub form_itself : (a : Form) → FormEq.TheImpl.eq-value.it a a ≡ true
form_itself a = search (rules, skeleton_itself, mono_itself, ty_itself, term_itself, fix_itself, comp_itself, step_itself, formula_itself)

pub row_itself : (a : Row) → RowEq.TheImpl.eq-value.it a a ≡ true
row_itself a = search (rules, form_itself)
