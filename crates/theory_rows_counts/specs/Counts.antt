-- The nodes of what a row stands for: those of its form itself, and those of what stands in its slots. A skeleton
-- has none; a position, a list, a parameter of a recursive function and a step before others count nothing themselves.
use Rattle.std.specs.Prelude.{ℕ, Option, Some, None}
use Rattle.theory_counts.specs.Nodes.{nodes_mono, nodes_ty, nodes_triple, nodes_term, nodes_terms, nodes_fix}
use Rattle.theory_counts.specs.Nodes.{nodes_comp, nodes_step, nodes_formula}
use Rattle.shared_terms_rows.specs.declared.form.Form.{Form}
use Rattle.shared_terms_rows.specs.declared.form.Form.TheVariants as form
use Rattle.shared_terms_rows.specs.declared.form.TyForm.TheVariants as ty
use Rattle.shared_terms_rows.specs.declared.form.TermForm.TheVariants as term
use Rattle.shared_terms_rows.specs.declared.form.FixForm.TheVariants as fix
use Rattle.shared_terms_rows.specs.declared.form.CompForm.TheVariants as comp
use Rattle.shared_terms_rows.specs.declared.form.FormulaForm.TheVariants as formula
use Rattle.shared_terms_rows.specs.declared.slots.Slot.{Slot}
use Rattle.shared_terms_rows.specs.Parts.{Part, of_skeleton, of_mono, of_ty, of_triple, of_term, of_terms, of_fix}
use Rattle.shared_terms_rows.specs.Parts.{of_comp, of_step, of_formula}

unfoldable pub nodes_part : Part → ℕ
nodes_part (of_skeleton x) = 0
nodes_part (of_mono x) = nodes_mono x
nodes_part (of_ty x) = nodes_ty x
nodes_part (of_triple x) = nodes_triple x
nodes_part (of_term x) = nodes_term x
nodes_part (of_terms x) = nodes_terms x
nodes_part (of_fix x) = nodes_fix x
nodes_part (of_comp x) = nodes_comp x
nodes_part (of_step x) = nodes_step x
nodes_part (of_formula x) = nodes_formula x

unfoldable pub own_nodes : Form → ℕ
own_nodes (form.Ty (ty.At at)) = 0
own_nodes (form.Term (term.At at)) = 0
own_nodes (form.Fix fix.Param) = 0
own_nodes (form.Comp comp.Step) = 0
own_nodes (form.Formula (formula.At at)) = 0
own_nodes (form.Ty f) = 1
own_nodes (form.Term f) = 1
own_nodes (form.Fix f) = 1
own_nodes (form.Comp f) = 1
own_nodes (form.Formula f) = 1
own_nodes (form.Skeleton f) = 0
own_nodes (form.Mono f) = 1
own_nodes (form.Step f) = 1
own_nodes form.Triple = 1
own_nodes form.NoTerms = 0
own_nodes form.MoreTerms = 0

abbrev pub slot_nodes : Option Slot → Part → ℕ
slot_nodes None part = 0
slot_nodes (Some slot) part = nodes_part part
