-- Monotypes put for monotype variables in what rows stand for. Under the binders of a slot the filling goes on with
-- their variables.
use Rattle.std.specs.Prelude.{ℕ, zero, suc, Bool, true, false, Option, Some, None}
use Rattle.theory_renaming.specs.Renaming.{Map, lifts}
use Rattle.theory_substitution.specs.Monotypes.{Filling, next_filling, fill_mono, fill_ty, fill_triple, fill_term}
use Rattle.theory_substitution.specs.Monotypes.{fill_terms, fill_fix, fill_comp, fill_step, fill_formula}
use Rattle.shared_terms_rows.specs.declared.form.Form.{Form}
use Rattle.shared_terms_rows.specs.declared.form.Form.TheVariants as form
use Rattle.shared_terms_rows.specs.declared.form.MonoForm.TheVariants as mono
use Rattle.shared_terms_rows.specs.declared.slots.Slot.{Slot}
use Rattle.shared_terms_rows.specs.Parts.{Part, of_skeleton, of_mono, of_ty, of_triple, of_term, of_terms, of_fix}
use Rattle.shared_terms_rows.specs.Parts.{of_comp, of_step, of_formula}

unfoldable pub fill_part : Filling → Map → Part → Part
fill_part f m (of_skeleton x) = of_skeleton x
fill_part f m (of_mono x) = of_mono (fill_mono f x)
fill_part f m (of_ty x) = of_ty (fill_ty f m x)
fill_part f m (of_triple x) = of_triple (fill_triple f m x)
fill_part f m (of_term x) = of_term (fill_term f m x)
fill_part f m (of_terms x) = of_terms (fill_terms f m x)
fill_part f m (of_fix x) = of_fix (fill_fix f m x)
fill_part f m (of_comp x) = of_comp (fill_comp f m x)
fill_part f m (of_step x) = of_step (fill_step f m x)
fill_part f m (of_formula x) = of_formula (fill_formula f m x)

-- The filling under so many more binders.
unfoldable pub next_fillings : ℕ → Filling → Filling
next_fillings zero f = f
next_fillings (suc n) f = next_filling (next_fillings n f)

abbrev pub fill_slot : Filling → Map → Option Slot → Part → Part
fill_slot f m None part = part
fill_slot f m (Some slot) part = fill_part (next_fillings slot.binders f) (lifts slot.binders m) part

-- The one form that isn't filled slot by slot.
unfoldable pub is_mono_variable : Form → Bool
is_mono_variable (form.Mono (mono.Var index)) = true
is_mono_variable other = false
