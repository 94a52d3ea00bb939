-- What stays true when the list of parts grows, and what the memo says.
use Rattle.std.proofs.Common.{◌≡◌, ℕ, List, refl, sym, ap, ◌∙◌, subst, arith, rules, Option, None, Some, Bool, true, false, cond}
use Rattle.theory_renaming.specs.Renaming.{Map}
use Rattle.theory_substitution.specs.Monotypes.{Filling, put_mono}
use Rattle.theory_substitution.specs.Closing.{closing}
use Rattle.shared_terms_rows.specs.declared.slots.Slot.{Slot}
use Rattle.shared_terms_rows.specs.Parts.{Part, as_mono, kind_of}
use Rattle.shared_terms_rows.specs.Rows.{Extends}
use Rattle.theory_rows_filling.specs.Filling.{fill_part, next_fillings}
use Rattle.theory_renaming.specs.Renaming.{lifts}
use Rattle.shared_terms_filling.specs.declared.work.FillTask.{FillTask}
use Rattle.shared_terms_filling.specs.contracts.work.FillTaskPartialEq as TaskEq
use Rattle.shared_terms_filling.specs.Filled.{IsMono, FillsBy, Fills, FillsSlot, Raises, raised, filling}

module _ {a b : List Part} (x : Extends a b) where
  pub mono_kept : {place : ℕ} → IsMono a place → IsMono b place
  mono_kept {place} h = record { within = omega (arith, h.within, x.longer); mono = ap kind_of (x.same place h.within) ∙ h.mono }

  pub raises_kept : {binders place result : ℕ} → Raises a binders place result → Raises b binders place result
  raises_kept {binders} {place} {result} h = record {
    of = omega (arith, h.of, x.longer);
    within = omega (arith, h.within, x.longer);
    tree = x.same result h.within ∙ h.tree ∙ ap (raised binders) (sym (x.same place h.of));
  }

  pub by_kept : {f : Filling} {m : Map} {place filled : ℕ} → FillsBy a f m place filled → FillsBy b f m place filled
  by_kept {f} {m} {place} {filled} h = record {
    of = omega (arith, h.of, x.longer);
    within = omega (arith, h.within, x.longer);
    tree = x.same filled h.within ∙ h.tree ∙ ap (fill_part f m) (sym (x.same place h.of));
  }

  pub filling_kept : (task : FillTask) → IsMono a task.mono → filling a task ≡ filling b task
  filling_kept task h = ap (λ p. put_mono (as_mono p) task.index) (sym (x.same task.mono h.within))

  pub filled_kept : {task : FillTask} {filled : ℕ} → Fills a task filled → Fills b task filled
  filled_kept {task} {filled} h = record {
    mono = mono_kept h.mono;
    by = subst (λ (f : Filling). FillsBy b f (closing task.index) task.place filled) (filling_kept task h.mono) (by_kept h.by);
  }

  pub slot_kept : (task : FillTask) (slot : Option Slot) (place filled : ℕ)
      → IsMono a task.mono
      → FillsSlot a task slot place filled
      → FillsSlot b task slot place filled
  slot_kept task None place filled k h = h
  slot_kept task (Some slot) place filled k h =
      subst (λ (f : Filling). FillsBy b (next_fillings slot.binders f) (lifts slot.binders (closing task.index)) place filled)
      (filling_kept task k) (by_kept h)

pub task_same : (a b : FillTask) → TaskEq.TheImpl.eq-value.it a b ≡ true → a ≡ b
task_same a b e = search rules

pub noted : (P : FillTask → ℕ → Type 0) (k task : FillTask) (v r : ℕ) (new old : Option ℕ)
    → new ≡ cond (TaskEq.TheImpl.eq-value.it k task) (Some v) old
    → P k v
    → (old ≡ Some r → P task r)
    → new ≡ Some r
    → P task r
noted P k task v r new old e here there g = by (TaskEq.TheImpl.eq-value.it k task) refl
  where
    by : (b : Bool) → TaskEq.TheImpl.eq-value.it k task ≡ b → P task r
    by true h =
        let same : k ≡ task = task_same k task h in
        let w : Some v ≡ Some r = sym (ap (λ c. cond c (Some v) old) h) ∙ sym e ∙ g in
        let q : v ≡ r = cc in
        subst (λ (t : FillTask). P t r) same (subst (P k) q here)
    by false h = there (sym (ap (λ c. cond c (Some v) old) h) ∙ sym e ∙ g)
