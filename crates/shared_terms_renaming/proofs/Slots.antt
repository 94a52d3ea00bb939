-- A row whose slots hold what was renamed is the row, renamed.
use Rattle.std.proofs.Common.{◌≡◌, ℕ, ◌≤◌, List, length, refl, sym, ap, ◌∙◌, subst, arith, Option, None, Some, true, ◌&&◌, nat_eq, Result, Ok, Err, IfOk}
use Rattle.std.proofs.lemmas.Bool.{and_parts}
use Rattle.theory_renaming.specs.Renaming.{lifts}
use Rattle.shared_terms_rows.specs.declared.form.Form.{Form}
use Rattle.shared_terms_rows.specs.declared.row.Row.{Row}
use Rattle.shared_terms_rows.specs.declared.slots.Slot.{Slot}
use Rattle.shared_terms_rows.specs.declared.slots.Slots.{Slots}
use Rattle.shared_terms_rows.specs.Parts.{Part, kind_of, build}
use Rattle.shared_terms_rows.specs.Forms.{slots}
use Rattle.shared_terms_rows.specs.Rows.{at, in_slot, node, behind, bound, bound_in, node_in, number, slot_fits, fits, fits_in, RowIs}
use Rattle.theory_rows_renaming.specs.Renaming.{rename_part, rename_form, rename_slot}
use Rattle.theory_rows_renaming.proofs.Through.{renamed_slot_by_slot, slots_renamed, kind_renamed}
use Rattle.shared_terms_renaming.specs.declared.renaming.Renaming.{Renaming}
use Rattle.shared_terms_renaming.specs.Maps.{map_of}
use Rattle.shared_terms_renaming.specs.Known.{RenamesBy, RenamesSlot}

module _ (parts : List Part) (renaming : Renaming) where
  slot_tree : (slot : Option Slot) (place renamed : ℕ)
      → RenamesSlot parts renaming slot place renamed
      → rename_slot (map_of renaming) slot (in_slot parts slot place) ≡ in_slot parts slot renamed
  slot_tree None place renamed h = refl
  slot_tree (Some slot) place renamed h = sym h.tree

  slot_behind : (slot : Option Slot) (place renamed : ℕ) → RenamesSlot parts renaming slot place renamed → behind slot renamed ≤ length parts
  slot_behind None place renamed h = omega arith
  slot_behind (Some slot) place renamed h = omega (arith, h.within)

  slot_fitting : (slot : Option Slot) (place renamed : ℕ)
      → RenamesSlot parts renaming slot place renamed
      → slot_fits parts slot place ≡ true
      → slot_fits parts slot renamed ≡ true
  slot_fitting None place renamed h f = ap (λ n. nat_eq n 0) h
  slot_fitting (Some slot) place renamed h f =
      ap (λ p. nat_eq (number (kind_of p)) (number slot.kind)) h.tree
      ∙ ap (λ k. nat_eq (number k) (number slot.kind)) (kind_renamed (lifts slot.binders (map_of renaming)) (at parts place)) ∙ f

-- the slots of a row, renamed
pub record RenamesRow (parts : List Part) (renaming : Renaming) (old new : Row) : Type 0 where
  pub form : new.form ≡ rename_form (map_of renaming) old.form
  pub first : RenamesSlot parts renaming ((slots old.form).first) old.first new.first
  pub second : RenamesSlot parts renaming ((slots old.form).second) old.second new.second
  pub third : RenamesSlot parts renaming ((slots old.form).third) old.third new.third
  pub fourth : RenamesSlot parts renaming ((slots old.form).fourth) old.fourth new.fourth

module _ {parts : List Part} {renaming : Renaming} {old new : Row} (h : RenamesRow parts renaming old new) where
  same_slots : slots new.form ≡ slots old.form
  same_slots = ap slots h.form ∙ slots_renamed (map_of renaming) old.form

  pub row_behind : bound new ≤ length parts
  row_behind =
      let s = slots old.form in
      let p = slot_behind parts renaming s.first old.first new.first h.first in
      let q = slot_behind parts renaming s.second old.second new.second h.second in
      let r = slot_behind parts renaming s.third old.third new.third h.third in
      let t = slot_behind parts renaming s.fourth old.fourth new.fourth h.fourth in
      let e = ap (λ (z : Slots). bound_in z new) same_slots in
      omega (arith, e, p, q, r, t)

  pub row_fitting : fits parts old ≡ true → fits parts new ≡ true
  unfolding fits
  row_fitting f =
      let s = slots old.form in
      let x =
      and_parts (slot_fits parts s.first old.first && slot_fits parts s.second old.second)
      (slot_fits parts s.third old.third && slot_fits parts s.fourth old.fourth) f in
      let y = and_parts (slot_fits parts s.first old.first) (slot_fits parts s.second old.second) x.0 in
      let z = and_parts (slot_fits parts s.third old.third) (slot_fits parts s.fourth old.fourth) x.1 in
      let p = slot_fitting parts renaming s.first old.first new.first h.first y.0 in
      let q = slot_fitting parts renaming s.second old.second new.second h.second y.1 in
      let r = slot_fitting parts renaming s.third old.third new.third h.third z.0 in
      let t = slot_fitting parts renaming s.fourth old.fourth new.fourth h.fourth z.1 in
      ap (λ (u : Slots). fits_in parts u new) same_slots ∙ (λ j. (p j && q j) && (r j && t j))

  pub row_tree : rename_part (map_of renaming) (node parts old) ≡ node parts new
  row_tree =
      let s = slots old.form in
      let p = slot_tree parts renaming s.first old.first new.first h.first in
      let q = slot_tree parts renaming s.second old.second new.second h.second in
      let r = slot_tree parts renaming s.third old.third new.third h.third in
      let t = slot_tree parts renaming s.fourth old.fourth new.fourth h.fourth in
      renamed_slot_by_slot (map_of renaming) old.form (in_slot parts s.first old.first) (in_slot parts s.second old.second)
      (in_slot parts s.third old.third) (in_slot parts s.fourth old.fourth)
      ∙ (λ j. build (sym h.form j) (p j) (q j) (r j) (t j))
      ∙ ap (λ (u : Slots). node_in parts u new) (sym same_slots)

pub renames_row : {parts : List Part} {renaming : Renaming} {old : Row} {s : Slots} (f : Form) (p q r t : ℕ)
    → s ≡ slots old.form
    → f ≡ rename_form (map_of renaming) old.form
    → RenamesSlot parts renaming s.first old.first p
    → RenamesSlot parts renaming s.second old.second q
    → RenamesSlot parts renaming s.third old.third r
    → RenamesSlot parts renaming s.fourth old.fourth t
    → RenamesRow parts renaming old (record { form = f; first = p; second = q; third = r; fourth = t })
renames_row {parts} {renaming} {old} f p q r t e form a b c d = record {
  form = form;
  first = subst (λ (z : Slots). RenamesSlot parts renaming z.first old.first p) e a;
  second = subst (λ (z : Slots). RenamesSlot parts renaming z.second old.second q) e b;
  third = subst (λ (z : Slots). RenamesSlot parts renaming z.third old.third r) e c;
  fourth = subst (λ (z : Slots). RenamesSlot parts renaming z.fourth old.fourth t) e d;
}

-- The row that was put renames the one that stood.
pub renamed_row : {parts : List Part} {renaming : Renaming} {old new : Row} {place renamed : ℕ}
    → RowIs parts place old
    → RenamesRow parts renaming old new
    → RowIs parts renamed new
    → RenamesBy parts (map_of renaming) place renamed
renamed_row {parts} {renaming} w h r = record {
  of = w.within;
  within = r.within;
  tree = r.tree ∙ sym (row_tree h) ∙ ap (rename_part (map_of renaming)) (sym w.tree);
}

pub ok_map : {X E : Type 0} (r : Result X E) (P Q : X → Type 0) → ((x : X) → P x → Q x) → IfOk r P → IfOk r Q
ok_map (Ok x) P Q f h = f x h
ok_map (Err e) P Q f h = tt
