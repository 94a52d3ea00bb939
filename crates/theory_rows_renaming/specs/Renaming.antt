-- Renaming of what rows stand for, and of the indices that a form holds itself. What stands in a slot is renamed
-- by the map under the slot's binders.
use Rattle.std.specs.Prelude.{Option, Some, None}
use Rattle.theory_renaming.specs.Renaming.{Map, lifts, rename_mono, rename_ty, rename_triple, rename_term, rename_terms}
use Rattle.theory_renaming.specs.Renaming.{rename_fix, rename_comp, rename_step, rename_formula}
use Rattle.shared_terms_rows.specs.declared.form.Form.{Form}
use Rattle.shared_terms_rows.specs.declared.form.Form.TheVariants as form
use Rattle.shared_terms_rows.specs.declared.form.MonoForm.TheVariants as mono
use Rattle.shared_terms_rows.specs.declared.form.TermForm.TheVariants as term
use Rattle.shared_terms_rows.specs.declared.form.FormulaForm.TheVariants as formula
use Rattle.shared_terms_rows.specs.declared.slots.Slot.{Slot}
use Rattle.shared_terms_rows.specs.Parts.{Part, of_skeleton, of_mono, of_ty, of_triple, of_term, of_terms, of_fix}
use Rattle.shared_terms_rows.specs.Parts.{of_comp, of_step, of_formula}

unfoldable pub rename_part : Map → Part → Part
rename_part m (of_skeleton x) = of_skeleton x
rename_part m (of_mono x) = of_mono (rename_mono m x)
rename_part m (of_ty x) = of_ty (rename_ty m x)
rename_part m (of_triple x) = of_triple (rename_triple m x)
rename_part m (of_term x) = of_term (rename_term m x)
rename_part m (of_terms x) = of_terms (rename_terms m x)
rename_part m (of_fix x) = of_fix (rename_fix m x)
rename_part m (of_comp x) = of_comp (rename_comp m x)
rename_part m (of_step x) = of_step (rename_step m x)
rename_part m (of_formula x) = of_formula (rename_formula m x)

unfoldable pub rename_form : Map → Form → Form
rename_form m (form.Mono (mono.Var index)) = form.Mono (mono.Var (m index))
rename_form m (form.Term (term.Var index)) = form.Term (term.Var (m index))
rename_form m (form.Formula (formula.Emp heap)) = form.Formula (formula.Emp (m heap))
rename_form m (form.Formula (formula.Cell heap)) = form.Formula (formula.Cell (m heap))
rename_form m (form.Formula (formula.Block heap)) = form.Formula (formula.Block (m heap))
rename_form m (form.Formula (formula.Join whole left right)) = form.Formula (formula.Join (m whole) (m left) (m right))
rename_form m (form.Formula (formula.Same left right)) = form.Formula (formula.Same (m left) (m right))
rename_form m (form.Formula (formula.Rec number heap)) = form.Formula (formula.Rec number (m heap))
rename_form m other = other

abbrev pub rename_slot : Map → Option Slot → Part → Part
rename_slot m None part = part
rename_slot m (Some slot) part = rename_part (lifts slot.binders m) part
