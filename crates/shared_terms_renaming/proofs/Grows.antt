-- What stays true when the list of parts grows, and what the memo says.
use Rattle.std.proofs.Common.{◌≡◌, ℕ, List, refl, sym, ap, ◌∙◌, subst, arith, rules, Option, None, Some, Bool, true, false, cond, IfSome}
use Rattle.shared_terms_rows.specs.declared.slots.Slot.{Slot}
use Rattle.shared_terms_rows.specs.Parts.{Part}
use Rattle.shared_terms_rows.specs.Rows.{Extends}
use Rattle.theory_renaming.specs.Renaming.{Map}
use Rattle.theory_rows_renaming.specs.Renaming.{rename_part}
use Rattle.shared_terms_renaming.specs.declared.renaming.Renaming.{Renaming}
use Rattle.shared_terms_renaming.specs.declared.work.Task.{Task}
use Rattle.shared_terms_renaming.specs.contracts.work.TaskPartialEq as TaskEq
use Rattle.shared_terms_renaming.specs.Known.{RenamesBy, RenamesSlot}

module _ {a b : List Part} (x : Extends a b) where
  pub renames_kept : {m : Map} {place renamed : ℕ} → RenamesBy a m place renamed → RenamesBy b m place renamed
  renames_kept {m} {place} {renamed} h = record {
    of = omega (arith, h.of, x.longer);
    within = omega (arith, h.within, x.longer);
    tree = x.same renamed h.within ∙ h.tree ∙ ap (rename_part m) (sym (x.same place h.of));
  }

  pub slot_kept : (renaming : Renaming) (slot : Option Slot) (place renamed : ℕ)
      → RenamesSlot a renaming slot place renamed
      → RenamesSlot b renaming slot place renamed
  slot_kept renaming None place renamed h = h
  slot_kept renaming (Some slot) place renamed h = renames_kept h

pub task_same : (a b : Task) → TaskEq.TheImpl.eq-value.it a b ≡ true → a ≡ b
task_same a b e = search rules

pub looked : (P : ℕ → Type 0) (o : Option ℕ) → ((r : ℕ) → o ≡ Some r → P r) → IfSome o P
looked P None h = tt
looked P (Some r) h = h r refl

pub noted : (P : Task → ℕ → Type 0) (k task : Task) (v r : ℕ) (new old : Option ℕ)
    → new ≡ cond (TaskEq.TheImpl.eq-value.it k task) (Some v) old
    → P k v
    → (old ≡ Some r → P task r)
    → new ≡ Some r
    → P task r
noted P k task v r new old e here there g = by (TaskEq.TheImpl.eq-value.it k task) refl
  where
    by : (b : Bool) → TaskEq.TheImpl.eq-value.it k task ≡ b → P task r
    by true h =
        let same : k ≡ task = task_same k task h in
        let w : Some v ≡ Some r = sym (ap (λ c. cond c (Some v) old) h) ∙ sym e ∙ g in
        let q : v ≡ r = cc in
        subst (λ (t : Task). P t r) same (subst (P k) q here)
    by false h = there (sym (ap (λ c. cond c (Some v) old) h) ∙ sym e ∙ g)
