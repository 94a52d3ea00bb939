-- The form of the node at the root of a tree, and its parts: what a row of the tree is, read off from the tree.
use Rattle.std.specs.Prelude.{Option, Some, None}
use Rattle.htt_syntax.specs.declared.mono.Op.{Op}
use Rattle.htt_syntax.specs.declared.mono.Op.TheVariants as op
use Rattle.htt_syntax.specs.Trees.{c_ret, c_step, f_all_h, f_all_t, f_and, f_at, f_block, f_cell, f_emp, f_eq, f_ex_h}
use Rattle.htt_syntax.specs.Trees.{f_ex_t, f_ff, f_imp, f_join, f_or, f_rec, f_same, f_tt, m_bool, m_loc, m_pair}
use Rattle.htt_syntax.specs.Trees.{m_unit, m_var, m_word, more_terms, no_terms, s_alloc, s_claim, s_free, s_get, s_if}
use Rattle.htt_syntax.specs.Trees.{s_run, s_set, t_ann, t_app, t_at, t_bin, t_bool, t_def, t_do, t_eq, t_fix, t_fst}
use Rattle.htt_syntax.specs.Trees.{t_inst, t_lam, t_lam_t, t_loc, t_made, t_not, t_pair, t_sel, t_snd, t_unit, t_val}
use Rattle.htt_syntax.specs.Trees.{t_var, t_word, triple, x_body, x_param, y_all, y_at, y_fun, y_hoare, y_mono}
use Rattle.theory_canonical.specs.Skeletons.{sk_all, sk_arrow, sk_c, sk_o}
use Rattle.shared_terms_rows.specs.declared.operation.Operation.{Operation}
use Rattle.shared_terms_rows.specs.declared.operation.Operation.TheVariants as operation
use Rattle.shared_terms_rows.specs.declared.form.Form.{Form}
use Rattle.shared_terms_rows.specs.declared.form.Form.TheVariants as form
use Rattle.shared_terms_rows.specs.declared.form.SkeletonForm.TheVariants as skeleton
use Rattle.shared_terms_rows.specs.declared.form.MonoForm.TheVariants as mono
use Rattle.shared_terms_rows.specs.declared.form.TyForm.TheVariants as ty
use Rattle.shared_terms_rows.specs.declared.form.TermForm.TheVariants as term
use Rattle.shared_terms_rows.specs.declared.form.FixForm.TheVariants as fix
use Rattle.shared_terms_rows.specs.declared.form.CompForm.TheVariants as comp
use Rattle.shared_terms_rows.specs.declared.form.StepForm.TheVariants as step
use Rattle.shared_terms_rows.specs.declared.form.FormulaForm.TheVariants as formula
use Rattle.shared_terms_rows.specs.declared.slots.Slot.{Slot}
use Rattle.shared_terms_rows.specs.declared.slots.Slots.{Slots}
use Rattle.shared_terms_rows.specs.Parts.{Part, of_skeleton, of_mono, of_ty, of_triple, of_term, of_terms, of_fix}
use Rattle.shared_terms_rows.specs.Parts.{of_comp, of_step, of_formula}

-- Four parts, of which a form has as many as it has slots; the others are the unit term.
pub record Parts : Type 0 where
  pub first : Part
  pub second : Part
  pub third : Part
  pub fourth : Part

abbrev pub none : Part
none = of_term t_unit

abbrev pub parts : Part → Part → Part → Part → Parts
parts a b c d = record { first = a; second = b; third = c; fourth = d }

abbrev pub operation_of : Op → Operation
operation_of op.Add = operation.Add
operation_of op.Sub = operation.Sub
operation_of op.Mul = operation.Mul
operation_of op.And = operation.And
operation_of op.Or = operation.Or
operation_of op.Xor = operation.Xor
operation_of op.Shl = operation.Shl
operation_of op.Shr = operation.Shr
operation_of op.Lt = operation.Lt

-- The form at the root.
unfoldable pub form_at : Part → Form
form_at (of_skeleton sk_o) = form.Skeleton skeleton.O
form_at (of_skeleton sk_c) = form.Skeleton skeleton.C
form_at (of_skeleton (sk_arrow a b)) = form.Skeleton skeleton.Arrow
form_at (of_skeleton (sk_all a)) = form.Skeleton skeleton.All
form_at (of_mono m_word) = form.Mono mono.Word
form_at (of_mono m_bool) = form.Mono mono.Bool
form_at (of_mono m_loc) = form.Mono mono.Loc
form_at (of_mono m_unit) = form.Mono mono.Unit
form_at (of_mono (m_pair a b)) = form.Mono mono.Pair
form_at (of_mono (m_var index)) = form.Mono (mono.Var index)
form_at (of_ty (y_mono a)) = form.Ty ty.Mono
form_at (of_ty (y_fun a b)) = form.Ty ty.Fun
form_at (of_ty (y_all a)) = form.Ty ty.All
form_at (of_ty (y_hoare a)) = form.Ty ty.Hoare
form_at (of_ty (y_at at a)) = form.Ty (ty.At at)
form_at (of_triple (triple a b c)) = form.Triple
form_at (of_term (t_var index)) = form.Term (term.Var index)
form_at (of_term (t_val number)) = form.Term (term.Val number)
form_at (of_term (t_def number)) = form.Term (term.Def number)
form_at (of_term (t_app a b)) = form.Term term.App
form_at (of_term (t_inst a b)) = form.Term term.Inst
form_at (of_term (t_lam a)) = form.Term term.Lam
form_at (of_term (t_lam_t a)) = form.Term term.LamT
form_at (of_term (t_do a)) = form.Term term.Do
form_at (of_term (t_fix at a)) = form.Term (term.Fix at)
form_at (of_term (t_word word)) = form.Term (term.Word word)
form_at (of_term (t_bool truth)) = form.Term (term.Bool truth)
form_at (of_term (t_loc place)) = form.Term (term.Loc place)
form_at (of_term t_unit) = form.Term term.Unit
form_at (of_term (t_pair a b)) = form.Term term.Pair
form_at (of_term (t_fst a)) = form.Term term.Fst
form_at (of_term (t_snd a)) = form.Term term.Snd
form_at (of_term (t_not a)) = form.Term term.Un
form_at (of_term (t_bin op a b)) = form.Term (term.Bin (operation_of op))
form_at (of_term (t_eq a b c)) = form.Term term.Eq
form_at (of_term (t_sel a b c d)) = form.Term term.Sel
form_at (of_term (t_ann a b)) = form.Term term.Ann
form_at (of_term (t_made number a)) = form.Term (term.Made number)
form_at (of_term (t_at at a)) = form.Term (term.At at)
form_at (of_fix (x_param a b)) = form.Fix fix.Param
form_at (of_fix (x_body a b)) = form.Fix fix.Body
form_at (of_comp (c_ret a)) = form.Comp comp.Ret
form_at (of_comp (c_step a b)) = form.Comp comp.Step
form_at (of_step (s_run a (Some b))) = form.Step step.Run
form_at (of_step (s_run a None)) = form.Step step.RunOpen
form_at (of_step (s_alloc a b)) = form.Step step.Alloc
form_at (of_step (s_get a b)) = form.Step step.Get
form_at (of_step (s_set a b c)) = form.Step step.Set
form_at (of_step (s_free a b)) = form.Step step.Free
form_at (of_step (s_if a b c d)) = form.Step step.If
form_at (of_step (s_claim a)) = form.Step step.Claim
form_at (of_formula f_tt) = form.Formula formula.Tt
form_at (of_formula f_ff) = form.Formula formula.Ff
form_at (of_formula (f_and a b)) = form.Formula formula.And
form_at (of_formula (f_or a b)) = form.Formula formula.Or
form_at (of_formula (f_imp a b)) = form.Formula formula.Imp
form_at (of_formula (f_all_t a b)) = form.Formula formula.AllT
form_at (of_formula (f_ex_t a b)) = form.Formula formula.ExT
form_at (of_formula (f_all_h a)) = form.Formula formula.AllH
form_at (of_formula (f_ex_h a)) = form.Formula formula.ExH
form_at (of_formula (f_emp heap)) = form.Formula (formula.Emp heap)
form_at (of_formula (f_cell a heap b c)) = form.Formula (formula.Cell heap)
form_at (of_formula (f_block a heap b)) = form.Formula (formula.Block heap)
form_at (of_formula (f_join whole left right)) = form.Formula (formula.Join whole left right)
form_at (of_formula (f_same left right)) = form.Formula (formula.Same left right)
form_at (of_formula (f_eq a b c)) = form.Formula formula.Eq
form_at (of_formula (f_at at a)) = form.Formula (formula.At at)
form_at (of_formula (f_rec number heap a b)) = form.Formula (formula.Rec number heap)
form_at (of_terms no_terms) = form.NoTerms
form_at (of_terms (more_terms a b)) = form.MoreTerms

-- The parts of the root.
unfoldable pub parts_at : Part → Parts
parts_at (of_skeleton sk_o) = parts none none none none
parts_at (of_skeleton sk_c) = parts none none none none
parts_at (of_skeleton (sk_arrow a b)) = parts (of_skeleton a) (of_skeleton b) none none
parts_at (of_skeleton (sk_all a)) = parts (of_skeleton a) none none none
parts_at (of_mono m_word) = parts none none none none
parts_at (of_mono m_bool) = parts none none none none
parts_at (of_mono m_loc) = parts none none none none
parts_at (of_mono m_unit) = parts none none none none
parts_at (of_mono (m_pair a b)) = parts (of_mono a) (of_mono b) none none
parts_at (of_mono (m_var index)) = parts none none none none
parts_at (of_ty (y_mono a)) = parts (of_mono a) none none none
parts_at (of_ty (y_fun a b)) = parts (of_ty a) (of_ty b) none none
parts_at (of_ty (y_all a)) = parts (of_ty a) none none none
parts_at (of_ty (y_hoare a)) = parts (of_triple a) none none none
parts_at (of_ty (y_at at a)) = parts (of_ty a) none none none
parts_at (of_triple (triple a b c)) = parts (of_formula a) (of_mono b) (of_formula c) none
parts_at (of_term (t_var index)) = parts none none none none
parts_at (of_term (t_val number)) = parts none none none none
parts_at (of_term (t_def number)) = parts none none none none
parts_at (of_term (t_app a b)) = parts (of_term a) (of_term b) none none
parts_at (of_term (t_inst a b)) = parts (of_term a) (of_mono b) none none
parts_at (of_term (t_lam a)) = parts (of_term a) none none none
parts_at (of_term (t_lam_t a)) = parts (of_term a) none none none
parts_at (of_term (t_do a)) = parts (of_comp a) none none none
parts_at (of_term (t_fix at a)) = parts (of_fix a) none none none
parts_at (of_term (t_word word)) = parts none none none none
parts_at (of_term (t_bool truth)) = parts none none none none
parts_at (of_term (t_loc place)) = parts none none none none
parts_at (of_term t_unit) = parts none none none none
parts_at (of_term (t_pair a b)) = parts (of_term a) (of_term b) none none
parts_at (of_term (t_fst a)) = parts (of_term a) none none none
parts_at (of_term (t_snd a)) = parts (of_term a) none none none
parts_at (of_term (t_not a)) = parts (of_term a) none none none
parts_at (of_term (t_bin op a b)) = parts (of_term a) (of_term b) none none
parts_at (of_term (t_eq a b c)) = parts (of_mono a) (of_term b) (of_term c) none
parts_at (of_term (t_sel a b c d)) = parts (of_mono a) (of_term b) (of_term c) (of_term d)
parts_at (of_term (t_ann a b)) = parts (of_term a) (of_ty b) none none
parts_at (of_term (t_made number a)) = parts (of_terms a) none none none
parts_at (of_term (t_at at a)) = parts (of_term a) none none none
parts_at (of_fix (x_param a b)) = parts (of_ty a) (of_fix b) none none
parts_at (of_fix (x_body a b)) = parts (of_triple a) (of_comp b) none none
parts_at (of_comp (c_ret a)) = parts (of_term a) none none none
parts_at (of_comp (c_step a b)) = parts (of_step a) (of_comp b) none none
parts_at (of_step (s_run a (Some b))) = parts (of_term a) (of_mono b) none none
parts_at (of_step (s_run a None)) = parts (of_term a) none none none
parts_at (of_step (s_alloc a b)) = parts (of_mono a) (of_term b) none none
parts_at (of_step (s_get a b)) = parts (of_mono a) (of_term b) none none
parts_at (of_step (s_set a b c)) = parts (of_mono a) (of_term b) (of_term c) none
parts_at (of_step (s_free a b)) = parts (of_mono a) (of_term b) none none
parts_at (of_step (s_if a b c d)) = parts (of_mono a) (of_term b) (of_comp c) (of_comp d)
parts_at (of_step (s_claim a)) = parts (of_formula a) none none none
parts_at (of_formula f_tt) = parts none none none none
parts_at (of_formula f_ff) = parts none none none none
parts_at (of_formula (f_and a b)) = parts (of_formula a) (of_formula b) none none
parts_at (of_formula (f_or a b)) = parts (of_formula a) (of_formula b) none none
parts_at (of_formula (f_imp a b)) = parts (of_formula a) (of_formula b) none none
parts_at (of_formula (f_all_t a b)) = parts (of_mono a) (of_formula b) none none
parts_at (of_formula (f_ex_t a b)) = parts (of_mono a) (of_formula b) none none
parts_at (of_formula (f_all_h a)) = parts (of_formula a) none none none
parts_at (of_formula (f_ex_h a)) = parts (of_formula a) none none none
parts_at (of_formula (f_emp heap)) = parts none none none none
parts_at (of_formula (f_cell a heap b c)) = parts (of_mono a) (of_term b) (of_term c) none
parts_at (of_formula (f_block a heap b)) = parts (of_mono a) (of_term b) none none
parts_at (of_formula (f_join whole left right)) = parts none none none none
parts_at (of_formula (f_same left right)) = parts none none none none
parts_at (of_formula (f_eq a b c)) = parts (of_mono a) (of_term b) (of_term c) none
parts_at (of_formula (f_at at a)) = parts (of_formula a) none none none
parts_at (of_formula (f_rec number heap a b)) = parts (of_term a) (of_terms b) none none
parts_at (of_terms no_terms) = parts none none none none
parts_at (of_terms (more_terms a b)) = parts (of_term a) (of_terms b) none none

-- What a form takes of four parts.
abbrev pub taken : Option Slot → Part → Part
taken None part = none
taken (Some slot) part = part

abbrev pub all_taken : Slots → Part → Part → Part → Part → Parts
all_taken s a b c d = parts (taken s.first a) (taken s.second b) (taken s.third c) (taken s.fourth d)
