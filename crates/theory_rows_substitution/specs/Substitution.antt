-- Hereditary substitution of what rows stand for: the relation of trees, for each kind of part. Skeletons have no
-- variables. In most forms it goes slot by slot: not where a head is applied, and not at a step of a computation,
-- which may be replaced by the steps of another.
use Rattle.std.specs.Prelude.{◌≡◌, ℕ, zero, suc, Bool, true, false, Option, Some, None}
use Rattle.htt_syntax.specs.Trees.{MonoTree, TyTree, TripleTree, TermTree, TermTrees, FixTree, CompTree, StepTree}
use Rattle.htt_syntax.specs.Trees.{FormulaTree}
use Rattle.theory_renaming.specs.Renaming.{rename_mono}
use Rattle.theory_canonical.specs.Skeletons.{Skeleton}
use Rattle.theory_canonical.specs.Folding.{folding}
use Rattle.theory_substitution.specs.Closing.{closing, up}
use Rattle.theory_substitution.specs.Substitution.{SubTy, SubTriple, SubTerm, SubTerms, SubFix, SubComp, SubStep}
use Rattle.theory_substitution.specs.Substitution.{SubFormula}
use Rattle.shared_terms_rows.specs.declared.form.Form.{Form}
use Rattle.shared_terms_rows.specs.declared.form.Form.TheVariants as form
use Rattle.shared_terms_rows.specs.declared.form.TyForm.TheVariants as ty
use Rattle.shared_terms_rows.specs.declared.form.TermForm.TheVariants as term
use Rattle.shared_terms_rows.specs.declared.form.FixForm.TheVariants as fix
use Rattle.shared_terms_rows.specs.declared.form.CompForm.TheVariants as comp
use Rattle.shared_terms_rows.specs.declared.form.StepForm.TheVariants as step
use Rattle.shared_terms_rows.specs.declared.form.FormulaForm.TheVariants as formula
use Rattle.shared_terms_rows.specs.declared.slots.Slot.{Slot}
use Rattle.shared_terms_rows.specs.Parts.{Part, of_mono, of_ty, of_triple, of_term, of_terms, of_fix}
use Rattle.shared_terms_rows.specs.Parts.{of_comp, of_step, of_formula}

pub data SubPart : TermTree → Skeleton → ℕ → Part → Part → Type 0 where
  in_mono : {new : TermTree} {s : Skeleton} {x : ℕ} {mono : MonoTree}
      → SubPart new s x (of_mono mono) (of_mono (rename_mono (closing x) mono))
  in_ty : {new : TermTree} {s : Skeleton} {x : ℕ} {old result : TyTree}
      → SubTy new s x old result
      → SubPart new s x (of_ty old) (of_ty result)
  in_triple : {new : TermTree} {s : Skeleton} {x : ℕ} {old result : TripleTree}
      → SubTriple new s x old result
      → SubPart new s x (of_triple old) (of_triple result)
  in_term : {new : TermTree} {s : Skeleton} {x : ℕ} {old result : TermTree}
      → SubTerm new s x old result
      → SubPart new s x (of_term old) (of_term result)
  in_terms : {new : TermTree} {s : Skeleton} {x : ℕ} {old result : TermTrees}
      → SubTerms new s x old result
      → SubPart new s x (of_terms old) (of_terms result)
  in_fix : {new : TermTree} {s : Skeleton} {x : ℕ} {old result : FixTree}
      → SubFix new s x old result
      → SubPart new s x (of_fix old) (of_fix result)
  in_comp : {new : TermTree} {s : Skeleton} {x : ℕ} {old result : CompTree}
      → SubComp new s x old result
      → SubPart new s x (of_comp old) (of_comp result)
  in_step : {new : TermTree} {s : Skeleton} {x : ℕ} {old result : StepTree}
      → SubStep new s x old result
      → SubPart new s x (of_step old) (of_step result)
  in_formula : {new : TermTree} {s : Skeleton} {x : ℕ} {old result : FormulaTree}
      → SubFormula new s x old result
      → SubPart new s x (of_formula old) (of_formula result)

-- The term that is put, and the place for which it is put, under so many more binders.
unfoldable pub ups : ℕ → TermTree → TermTree
ups zero term = term
ups (suc n) term = up (ups n term)

unfoldable pub beyond : ℕ → ℕ → ℕ
beyond zero x = x
beyond (suc n) x = suc (beyond n x)

-- What stands in a slot, with the term put.
abbrev pub SubSlot : TermTree → Skeleton → ℕ → Option Slot → Part → Part → Type 0
SubSlot new s x None old result = old ≡ result
SubSlot new s x (Some slot) old result = SubPart (ups slot.binders new) s (beyond slot.binders x) old result

-- A part, folded if it is a term that can be.
abbrev pub fold_part : Part → Part
fold_part (of_term term) = of_term (folding term)
fold_part other = other

-- The forms in which substitution goes slot by slot.
unfoldable pub is_plain : Form → Bool
is_plain (form.Ty ty.Mono) = true
is_plain (form.Ty ty.Fun) = true
is_plain (form.Ty ty.All) = true
is_plain (form.Ty ty.Hoare) = true
is_plain (form.Ty (ty.At at)) = false
is_plain form.Triple = true
is_plain (form.Term (term.Var index)) = false
is_plain (form.Term (term.Val number)) = true
is_plain (form.Term (term.Def number)) = false
is_plain (form.Term term.App) = false
is_plain (form.Term term.Inst) = false
is_plain (form.Term term.Lam) = true
is_plain (form.Term term.LamT) = true
is_plain (form.Term term.Do) = true
is_plain (form.Term (term.Fix at)) = true
is_plain (form.Term (term.Word word)) = true
is_plain (form.Term (term.Bool truth)) = true
is_plain (form.Term (term.Loc place)) = true
is_plain (form.Term term.Unit) = true
is_plain (form.Term term.Pair) = true
is_plain (form.Term term.Fst) = true
is_plain (form.Term term.Snd) = true
is_plain (form.Term term.Un) = true
is_plain (form.Term (term.Bin op)) = true
is_plain (form.Term term.Eq) = true
is_plain (form.Term term.Sel) = true
is_plain (form.Term term.Ann) = false
is_plain (form.Term (term.Made number)) = true
is_plain (form.Term (term.At at)) = false
is_plain form.NoTerms = true
is_plain form.MoreTerms = true
is_plain (form.Fix fix.Param) = true
is_plain (form.Fix fix.Body) = true
is_plain (form.Comp comp.Ret) = true
is_plain (form.Comp comp.Step) = false
is_plain (form.Step step.Run) = false
is_plain (form.Step step.RunOpen) = false
is_plain (form.Step step.Alloc) = true
is_plain (form.Step step.Get) = true
is_plain (form.Step step.Set) = true
is_plain (form.Step step.Free) = true
is_plain (form.Step step.If) = true
is_plain (form.Step step.Claim) = false
is_plain (form.Formula formula.Tt) = true
is_plain (form.Formula formula.Ff) = true
is_plain (form.Formula formula.And) = true
is_plain (form.Formula formula.Or) = true
is_plain (form.Formula formula.Imp) = true
is_plain (form.Formula formula.AllT) = true
is_plain (form.Formula formula.ExT) = true
is_plain (form.Formula formula.AllH) = true
is_plain (form.Formula formula.ExH) = true
is_plain (form.Formula (formula.Emp heap)) = true
is_plain (form.Formula (formula.Cell heap)) = true
is_plain (form.Formula (formula.Block heap)) = true
is_plain (form.Formula (formula.Join whole left right)) = true
is_plain (form.Formula (formula.Same left right)) = true
is_plain (form.Formula formula.Eq) = true
is_plain (form.Formula (formula.At at)) = false
is_plain (form.Formula (formula.Rec number heap)) = true
is_plain (form.Skeleton skeleton) = false
is_plain (form.Mono mono) = false
