-- A row whose slots hold what was filled is the row, filled and not yet folded.
use Rattle.std.proofs.Common.{◌≡◌, ◌≢◌, ℕ, ◌≤◌, List, length, refl, sym, ap, ◌∙◌, subst, arith, Option, None, Some, true, false, ◌&&◌, nat_eq}
use Rattle.std.proofs.lemmas.Bool.{and_parts}
use Rattle.theory_renaming.specs.Renaming.{Map, lifts}
use Rattle.theory_substitution.specs.Closing.{closing}
use Rattle.theory_substitution.specs.Monotypes.{Filling}
use Rattle.shared_terms_rows.specs.declared.form.Form.{Form}
use Rattle.shared_terms_rows.specs.declared.form.Form.TheVariants as form
use Rattle.shared_terms_rows.specs.declared.form.MonoForm.TheVariants as mono
use Rattle.shared_terms_rows.specs.declared.row.Row.{Row}
use Rattle.shared_terms_rows.specs.declared.slots.Slot.{Slot}
use Rattle.shared_terms_rows.specs.declared.slots.Slots.{Slots}
use Rattle.shared_terms_rows.specs.Parts.{Part, as_mono, kind_of, build, of_skeleton, of_mono, of_ty, of_triple, of_term, of_terms, of_fix, of_comp, of_step}
use Rattle.shared_terms_rows.specs.Parts.{of_formula}
use Rattle.shared_terms_rows.specs.Forms.{slots}
use Rattle.shared_terms_rows.specs.Rows.{at, in_slot, node, behind, bound, bound_in, node_in, number, slot_fits, fits, fits_in, RowIs, Extends}
use Rattle.theory_rows_renaming.specs.Renaming.{rename_form, rename_part}
use Rattle.theory_rows_renaming.proofs.Through.{slots_renamed}
use Rattle.theory_rows_substitution.specs.Substitution.{fold_part}
use Rattle.theory_rows_filling.specs.Filling.{fill_part, fill_slot, next_fillings, is_mono_variable}
use Rattle.theory_rows_filling.proofs.Through.{filled_slot_by_slot}
use Rattle.shared_terms_folding.specs.Folded.{Stands}
use Rattle.shared_terms_renaming.specs.Known.{RenamesBy}
use Rattle.shared_terms_filling.specs.declared.work.FillTask.{FillTask}
use Rattle.shared_terms_filling.specs.Filled.{IsMono, FillsBy, Fills, FillsSlot, IsUnder, filling, variable_in}
use Rattle.shared_terms_filling.proofs.Fillings.{mono_itself, variable_node, filled_variable, other_variable}
use Rattle.shared_terms_filling.proofs.Grows.{mono_kept, filling_kept}

kind_filled : (f : Filling) (m : Map) (p : Part) → kind_of (fill_part f m p) ≡ kind_of p
unfolding fill_part
kind_filled f m (of_skeleton x) = refl
kind_filled f m (of_mono x) = refl
kind_filled f m (of_ty x) = refl
kind_filled f m (of_triple x) = refl
kind_filled f m (of_term x) = refl
kind_filled f m (of_terms x) = refl
kind_filled f m (of_fix x) = refl
kind_filled f m (of_comp x) = refl
kind_filled f m (of_step x) = refl
kind_filled f m (of_formula x) = refl

module _ (parts : List Part) (task : FillTask) where
  slot_tree : (slot : Option Slot) (place filled : ℕ)
      → FillsSlot parts task slot place filled
      → fill_slot (filling parts task) (closing task.index) slot (in_slot parts slot place) ≡ in_slot parts slot filled
  slot_tree None place filled h = refl
  slot_tree (Some slot) place filled h = sym h.tree

  slot_behind : (slot : Option Slot) (place filled : ℕ) → FillsSlot parts task slot place filled → behind slot filled ≤ length parts
  slot_behind None place filled h = omega arith
  slot_behind (Some slot) place filled h = omega (arith, h.within)

  slot_fitting : (slot : Option Slot) (place filled : ℕ)
      → FillsSlot parts task slot place filled
      → slot_fits parts slot place ≡ true
      → slot_fits parts slot filled ≡ true
  slot_fitting None place filled h f = ap (λ n. nat_eq n 0) h
  slot_fitting (Some slot) place filled h f =
      ap (λ p. nat_eq (number (kind_of p)) (number slot.kind)) h.tree
      ∙ ap (λ k. nat_eq (number k) (number slot.kind))
      (kind_filled (next_fillings slot.binders (filling parts task)) (lifts slot.binders (closing task.index)) (at parts place))
      ∙ f

-- the slots of a row, filled
pub record FillsRow (parts : List Part) (task : FillTask) (old new : Row) : Type 0 where
  pub form : new.form ≡ rename_form (closing task.index) old.form
  pub first : FillsSlot parts task ((slots old.form).first) old.first new.first
  pub second : FillsSlot parts task ((slots old.form).second) old.second new.second
  pub third : FillsSlot parts task ((slots old.form).third) old.third new.third
  pub fourth : FillsSlot parts task ((slots old.form).fourth) old.fourth new.fourth

module _ {parts : List Part} {task : FillTask} {old new : Row} (h : FillsRow parts task old new) where
  same_slots : slots new.form ≡ slots old.form
  same_slots = ap slots h.form ∙ slots_renamed (closing task.index) old.form

  pub row_behind : bound new ≤ length parts
  row_behind =
      let s = slots old.form in
      let p = slot_behind parts task s.first old.first new.first h.first in
      let q = slot_behind parts task s.second old.second new.second h.second in
      let r = slot_behind parts task s.third old.third new.third h.third in
      let t = slot_behind parts task s.fourth old.fourth new.fourth h.fourth in
      let e = ap (λ (z : Slots). bound_in z new) same_slots in
      omega (arith, e, p, q, r, t)

  pub row_fitting : fits parts old ≡ true → fits parts new ≡ true
  unfolding fits
  row_fitting f =
      let s = slots old.form in
      let x =
      and_parts (slot_fits parts s.first old.first && slot_fits parts s.second old.second)
      (slot_fits parts s.third old.third && slot_fits parts s.fourth old.fourth) f in
      let y = and_parts (slot_fits parts s.first old.first) (slot_fits parts s.second old.second) x.0 in
      let z = and_parts (slot_fits parts s.third old.third) (slot_fits parts s.fourth old.fourth) x.1 in
      let p = slot_fitting parts task s.first old.first new.first h.first y.0 in
      let q = slot_fitting parts task s.second old.second new.second h.second y.1 in
      let r = slot_fitting parts task s.third old.third new.third h.third z.0 in
      let t = slot_fitting parts task s.fourth old.fourth new.fourth h.fourth z.1 in
      ap (λ (u : Slots). fits_in parts u new) same_slots ∙ (λ j. (p j && q j) && (r j && t j))

  pub row_tree : is_mono_variable old.form ≡ false
      → fill_part (filling parts task) (closing task.index) (node parts old) ≡ fold_part (node parts new)
  row_tree e =
      let s = slots old.form in
      let p = slot_tree parts task s.first old.first new.first h.first in
      let q = slot_tree parts task s.second old.second new.second h.second in
      let r = slot_tree parts task s.third old.third new.third h.third in
      let t = slot_tree parts task s.fourth old.fourth new.fourth h.fourth in
      filled_slot_by_slot (filling parts task) (closing task.index) old.form e (in_slot parts s.first old.first)
      (in_slot parts s.second old.second) (in_slot parts s.third old.third) (in_slot parts s.fourth old.fourth)
      ∙ (λ j. fold_part (build (sym h.form j) (p j) (q j) (r j) (t j)))
      ∙ ap (λ (u : Slots). fold_part (node_in parts u new)) (sym same_slots)

pub fills_row : {parts : List Part} {task : FillTask} {old : Row} {s : Slots} (f : Form) (p q r t : ℕ)
    → s ≡ slots old.form
    → f ≡ rename_form (closing task.index) old.form
    → FillsSlot parts task s.first old.first p
    → FillsSlot parts task s.second old.second q
    → FillsSlot parts task s.third old.third r
    → FillsSlot parts task s.fourth old.fourth t
    → FillsRow parts task old (record { form = f; first = p; second = q; third = r; fourth = t })
fills_row {parts} {task} {old} f p q r t e form a b c d = record {
  form = form;
  first = subst (λ (z : Slots). FillsSlot parts task z.first old.first p) e a;
  second = subst (λ (z : Slots). FillsSlot parts task z.second old.second q) e b;
  third = subst (λ (z : Slots). FillsSlot parts task z.third old.third r) e c;
  fourth = subst (λ (z : Slots). FillsSlot parts task z.fourth old.fourth t) e d;
}

not_variable : (f : Form) → variable_in f ≡ None → is_mono_variable f ≡ false
unfolding is_mono_variable
not_variable (form.Mono mono.Word) e = refl
not_variable (form.Mono mono.Bool) e = refl
not_variable (form.Mono mono.Loc) e = refl
not_variable (form.Mono mono.Unit) e = refl
not_variable (form.Mono mono.Pair) e = refl
not_variable (form.Mono (mono.Var index)) e = absurd (grind arith)
not_variable (form.Skeleton f) e = refl
not_variable (form.Ty f) e = refl
not_variable form.Triple e = refl
not_variable (form.Term f) e = refl
not_variable form.NoTerms e = refl
not_variable form.MoreTerms e = refl
not_variable (form.Fix f) e = refl
not_variable (form.Comp f) e = refl
not_variable (form.Step f) e = refl
not_variable (form.Formula f) e = refl

-- What the row was folded to is what stood, filled.
pub filled_row : {parts more : List Part} {task : FillTask} {old new : Row} {filled : ℕ}
    → Extends parts more
    → IsMono parts task.mono
    → variable_in old.form ≡ None
    → RowIs parts task.place old
    → FillsRow parts task old new
    → Stands more filled (fold_part (node parts new))
    → Fills more task filled
filled_row {parts} {more} {task} {old} {new} {filled} x k e w h s =
    let f : filling parts task ≡ filling more task = filling_kept x task k in
    let p = sym (x.same task.place w.within) in
    record {
      mono = mono_kept x k;
      by = record {
        of = omega (arith, w.within, x.longer);
        within = s.within;
        tree = s.tree ∙ sym (row_tree h (not_variable old.form e)) ∙ ap (fill_part (filling parts task) (closing task.index)) (sym w.tree) ∙ (λ j. fill_part (f j) (closing task.index) (p j));
      };
    }

-- what was filled under the slot's binders
pub filled_under : {parts : List Part} {task under : FillTask} {binders place filled : ℕ}
    → under.place ≡ place
    → IsUnder parts task binders under
    → Fills parts under filled
    → FillsBy parts (next_fillings binders (filling parts task)) (lifts binders (closing task.index)) place filled
filled_under {parts} {task} {under} {binders} {place} {filled} e u h =
    subst (λ (f : Filling). FillsBy parts f (lifts binders (closing task.index)) place filled) (sym u.fillings)
    (subst (λ (m : Map). FillsBy parts (filling parts under) m place filled) (sym u.map)
    (subst (λ (n : ℕ). FillsBy parts (filling parts under) (closing under.index) n filled) e h.by))

-- the variable itself, and another
pub variable_filled : {parts : List Part} {task : FillTask} {row : Row} (index : ℕ)
    → IsMono parts task.mono
    → RowIs parts task.place row
    → variable_in row.form ≡ Some index
    → index ≡ task.index
    → Fills parts task task.mono
variable_filled {parts} {task} {row} index k w e h = record {
  mono = k;
  by = record {
    of = w.within;
    within = k.within;
    tree = sym (mono_itself (at parts task.mono) k.mono)
        ∙ sym (filled_variable (as_mono (at parts task.mono)) task.index index h)
        ∙ ap (fill_part (filling parts task) (closing task.index)) (sym (w.tree ∙ variable_node parts row index e));
  };
}

pub variable_stays : {parts : List Part} {task : FillTask} {row : Row} {renamed : ℕ} (index : ℕ)
    → IsMono parts task.mono
    → RowIs parts task.place row
    → variable_in row.form ≡ Some index
    → index ≢ task.index
    → RenamesBy parts (closing task.index) task.place renamed
    → Fills parts task renamed
variable_stays {parts} {task} {row} {renamed} index k w e h r =
    let n = w.tree ∙ variable_node parts row index e in
    record {
      mono = k;
      by = record {
        of = w.within;
        within = r.within;
        tree = r.tree ∙ ap (rename_part (closing task.index)) n
            ∙ sym (other_variable (as_mono (at parts task.mono)) task.index index h)
            ∙ ap (fill_part (filling parts task) (closing task.index)) (sym n);
      };
    }
