-- What a row stands for: a skeleton, or a tree of one of the kinds that definitions speak of; and the tree of
-- a form over its parts.
use Rattle.std.specs.Prelude.{Some, None}
use Rattle.htt_syntax.specs.declared.mono.Op.{Op}
use Rattle.htt_syntax.specs.declared.mono.Op.TheVariants as op
use Rattle.htt_syntax.specs.Trees.{MonoTree, TyTree, TripleTree, TermTree, FixTree, CompTree, StepTree, FormulaTree}
use Rattle.htt_syntax.specs.Trees.{TermTrees, m_word, m_bool, m_loc, m_unit, m_pair, m_var, y_mono, y_fun, y_all}
use Rattle.htt_syntax.specs.Trees.{y_hoare, y_at, triple, t_var, t_val, t_def, t_app, t_inst, t_lam, t_lam_t, t_do}
use Rattle.htt_syntax.specs.Trees.{t_fix, t_word, t_bool, t_loc, t_unit, t_pair, t_fst, t_snd, t_not, t_bin, t_eq}
use Rattle.htt_syntax.specs.Trees.{t_sel, t_ann, t_made, t_at, no_terms, more_terms, x_param, x_body, c_ret, c_step}
use Rattle.htt_syntax.specs.Trees.{s_run, s_alloc, s_get, s_set, s_free, s_if, s_claim, f_tt, f_ff, f_and, f_or, f_imp}
use Rattle.htt_syntax.specs.Trees.{f_all_t, f_ex_t, f_all_h, f_ex_h, f_emp, f_cell, f_block, f_join, f_same, f_eq}
use Rattle.htt_syntax.specs.Trees.{f_at, f_rec}
use Rattle.theory_canonical.specs.Skeletons.{Skeleton, sk_o, sk_c, sk_arrow, sk_all}
use Rattle.shared_terms_rows.specs.declared.operation.Operation.{Operation}
use Rattle.shared_terms_rows.specs.declared.operation.Operation.TheVariants as operation
use Rattle.shared_terms_rows.specs.declared.form.Form.{Form}
use Rattle.shared_terms_rows.specs.declared.form.Form.TheVariants as form
use Rattle.shared_terms_rows.specs.declared.form.SkeletonForm.{SkeletonForm}
use Rattle.shared_terms_rows.specs.declared.form.SkeletonForm.TheVariants as skeleton
use Rattle.shared_terms_rows.specs.declared.form.MonoForm.{MonoForm}
use Rattle.shared_terms_rows.specs.declared.form.MonoForm.TheVariants as mono
use Rattle.shared_terms_rows.specs.declared.form.TyForm.{TyForm}
use Rattle.shared_terms_rows.specs.declared.form.TyForm.TheVariants as ty
use Rattle.shared_terms_rows.specs.declared.form.TermForm.{TermForm}
use Rattle.shared_terms_rows.specs.declared.form.TermForm.TheVariants as term
use Rattle.shared_terms_rows.specs.declared.form.FixForm.{FixForm}
use Rattle.shared_terms_rows.specs.declared.form.FixForm.TheVariants as fix
use Rattle.shared_terms_rows.specs.declared.form.CompForm.{CompForm}
use Rattle.shared_terms_rows.specs.declared.form.CompForm.TheVariants as comp
use Rattle.shared_terms_rows.specs.declared.form.StepForm.{StepForm}
use Rattle.shared_terms_rows.specs.declared.form.StepForm.TheVariants as step
use Rattle.shared_terms_rows.specs.declared.form.FormulaForm.{FormulaForm}
use Rattle.shared_terms_rows.specs.declared.form.FormulaForm.TheVariants as formula
use Rattle.shared_terms_rows.specs.declared.form.Kind.{Kind}
use Rattle.shared_terms_rows.specs.declared.form.Kind.TheVariants as kinds

pub data Part : Type 0 where
  of_skeleton : Skeleton → Part
  of_mono : MonoTree → Part
  of_ty : TyTree → Part
  of_triple : TripleTree → Part
  of_term : TermTree → Part
  of_terms : TermTrees → Part
  of_fix : FixTree → Part
  of_comp : CompTree → Part
  of_step : StepTree → Part
  of_formula : FormulaTree → Part

-- What a part is of.
abbrev pub kind_of : Part → Kind
kind_of (of_skeleton x) = kinds.Skeleton
kind_of (of_mono x) = kinds.Mono
kind_of (of_ty x) = kinds.Ty
kind_of (of_triple x) = kinds.Triple
kind_of (of_term x) = kinds.Term
kind_of (of_terms x) = kinds.Terms
kind_of (of_fix x) = kinds.Fix
kind_of (of_comp x) = kinds.Comp
kind_of (of_step x) = kinds.Step
kind_of (of_formula x) = kinds.Formula

-- A part as a tree of one kind; of a part of another kind nothing is said.
abbrev pub as_skeleton : Part → Skeleton
as_skeleton (of_skeleton x) = x
as_skeleton _ = sk_o

abbrev pub as_mono : Part → MonoTree
as_mono (of_mono x) = x
as_mono _ = m_unit

abbrev pub as_ty : Part → TyTree
as_ty (of_ty x) = x
as_ty _ = y_mono m_unit

abbrev pub as_triple : Part → TripleTree
as_triple (of_triple x) = x
as_triple _ = triple f_tt m_unit f_tt

abbrev pub as_term : Part → TermTree
as_term (of_term x) = x
as_term _ = t_unit

abbrev pub as_terms : Part → TermTrees
as_terms (of_terms x) = x
as_terms _ = no_terms

abbrev pub as_fix : Part → FixTree
as_fix (of_fix x) = x
as_fix _ = x_body (triple f_tt m_unit f_tt) (c_ret t_unit)

abbrev pub as_comp : Part → CompTree
as_comp (of_comp x) = x
as_comp _ = c_ret t_unit

abbrev pub as_step : Part → StepTree
as_step (of_step x) = x
as_step _ = s_get m_unit t_unit

abbrev pub as_formula : Part → FormulaTree
as_formula (of_formula x) = x
as_formula _ = f_tt

abbrev pub op_of : Operation → Op
op_of operation.Add = op.Add
op_of operation.Sub = op.Sub
op_of operation.Mul = op.Mul
op_of operation.And = op.And
op_of operation.Or = op.Or
op_of operation.Xor = op.Xor
op_of operation.Shl = op.Shl
op_of operation.Shr = op.Shr
op_of operation.Lt = op.Lt

-- The tree of a form over its parts, of which it takes as many as it has slots.
unfoldable pub build_skeleton : SkeletonForm → Part → Part → Part → Part → Skeleton
build_skeleton skeleton.O a b c d = sk_o
build_skeleton skeleton.C a b c d = sk_c
build_skeleton skeleton.Arrow a b c d = sk_arrow (as_skeleton a) (as_skeleton b)
build_skeleton skeleton.All a b c d = sk_all (as_skeleton a)

unfoldable pub build_mono : MonoForm → Part → Part → Part → Part → MonoTree
build_mono mono.Word a b c d = m_word
build_mono mono.Bool a b c d = m_bool
build_mono mono.Loc a b c d = m_loc
build_mono mono.Unit a b c d = m_unit
build_mono mono.Pair a b c d = m_pair (as_mono a) (as_mono b)
build_mono (mono.Var index) a b c d = m_var index

unfoldable pub build_ty : TyForm → Part → Part → Part → Part → TyTree
build_ty ty.Mono a b c d = y_mono (as_mono a)
build_ty ty.Fun a b c d = y_fun (as_ty a) (as_ty b)
build_ty ty.All a b c d = y_all (as_ty a)
build_ty ty.Hoare a b c d = y_hoare (as_triple a)
build_ty (ty.At at) a b c d = y_at at (as_ty a)

unfoldable pub build_term : TermForm → Part → Part → Part → Part → TermTree
build_term (term.Var index) a b c d = t_var index
build_term (term.Val number) a b c d = t_val number
build_term (term.Def number) a b c d = t_def number
build_term term.App a b c d = t_app (as_term a) (as_term b)
build_term term.Inst a b c d = t_inst (as_term a) (as_mono b)
build_term term.Lam a b c d = t_lam (as_term a)
build_term term.LamT a b c d = t_lam_t (as_term a)
build_term term.Do a b c d = t_do (as_comp a)
build_term (term.Fix at) a b c d = t_fix at (as_fix a)
build_term (term.Word word) a b c d = t_word word
build_term (term.Bool truth) a b c d = t_bool truth
build_term (term.Loc place) a b c d = t_loc place
build_term term.Unit a b c d = t_unit
build_term term.Pair a b c d = t_pair (as_term a) (as_term b)
build_term term.Fst a b c d = t_fst (as_term a)
build_term term.Snd a b c d = t_snd (as_term a)
build_term term.Un a b c d = t_not (as_term a)
build_term (term.Bin op) a b c d = t_bin (op_of op) (as_term a) (as_term b)
build_term term.Eq a b c d = t_eq (as_mono a) (as_term b) (as_term c)
build_term term.Sel a b c d = t_sel (as_mono a) (as_term b) (as_term c) (as_term d)
build_term term.Ann a b c d = t_ann (as_term a) (as_ty b)
build_term (term.Made number) a b c d = t_made number (as_terms a)
build_term (term.At at) a b c d = t_at at (as_term a)

unfoldable pub build_fix : FixForm → Part → Part → Part → Part → FixTree
build_fix fix.Param a b c d = x_param (as_ty a) (as_fix b)
build_fix fix.Body a b c d = x_body (as_triple a) (as_comp b)

unfoldable pub build_comp : CompForm → Part → Part → Part → Part → CompTree
build_comp comp.Ret a b c d = c_ret (as_term a)
build_comp comp.Step a b c d = c_step (as_step a) (as_comp b)

unfoldable pub build_step : StepForm → Part → Part → Part → Part → StepTree
build_step step.Run a b c d = s_run (as_term a) (Some (as_mono b))
build_step step.RunOpen a b c d = s_run (as_term a) None
build_step step.Alloc a b c d = s_alloc (as_mono a) (as_term b)
build_step step.Get a b c d = s_get (as_mono a) (as_term b)
build_step step.Set a b c d = s_set (as_mono a) (as_term b) (as_term c)
build_step step.Free a b c d = s_free (as_mono a) (as_term b)
build_step step.If a b c d = s_if (as_mono a) (as_term b) (as_comp c) (as_comp d)
build_step step.Claim a b c d = s_claim (as_formula a)

unfoldable pub build_formula : FormulaForm → Part → Part → Part → Part → FormulaTree
build_formula formula.Tt a b c d = f_tt
build_formula formula.Ff a b c d = f_ff
build_formula formula.And a b c d = f_and (as_formula a) (as_formula b)
build_formula formula.Or a b c d = f_or (as_formula a) (as_formula b)
build_formula formula.Imp a b c d = f_imp (as_formula a) (as_formula b)
build_formula formula.AllT a b c d = f_all_t (as_mono a) (as_formula b)
build_formula formula.ExT a b c d = f_ex_t (as_mono a) (as_formula b)
build_formula formula.AllH a b c d = f_all_h (as_formula a)
build_formula formula.ExH a b c d = f_ex_h (as_formula a)
build_formula (formula.Emp heap) a b c d = f_emp heap
build_formula (formula.Cell heap) a b c d = f_cell (as_mono a) heap (as_term b) (as_term c)
build_formula (formula.Block heap) a b c d = f_block (as_mono a) heap (as_term b)
build_formula (formula.Join whole left right) a b c d = f_join whole left right
build_formula (formula.Same left right) a b c d = f_same left right
build_formula formula.Eq a b c d = f_eq (as_mono a) (as_term b) (as_term c)
build_formula (formula.At at) a b c d = f_at at (as_formula a)
build_formula (formula.Rec number heap) a b c d = f_rec number heap (as_term a) (as_terms b)

unfoldable pub build : Form → Part → Part → Part → Part → Part
build (form.Skeleton f) a b c d = of_skeleton (build_skeleton f a b c d)
build (form.Mono f) a b c d = of_mono (build_mono f a b c d)
build (form.Ty f) a b c d = of_ty (build_ty f a b c d)
build (form.Term f) a b c d = of_term (build_term f a b c d)
build (form.Fix f) a b c d = of_fix (build_fix f a b c d)
build (form.Comp f) a b c d = of_comp (build_comp f a b c d)
build (form.Step f) a b c d = of_step (build_step f a b c d)
build (form.Formula f) a b c d = of_formula (build_formula f a b c d)
build form.Triple a b c d = of_triple (triple (as_formula a) (as_mono b) (as_formula c))
build form.NoTerms a b c d = of_terms no_terms
build form.MoreTerms a b c d = of_terms (more_terms (as_term a) (as_terms b))
