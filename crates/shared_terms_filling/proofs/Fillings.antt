-- The filling of one variable under binders, and what it makes of a variable.
use Rattle.std.proofs.Common.{◌≡◌, ◌≢◌, ℕ, zero, suc, ◌+◌, ◌<◌, length, Bool, true, false, nat_eq, List, refl, sym, ap, ◌∙◌, subst, arith, Some}
use Rattle.htt_syntax.specs.Trees.{MonoTree, m_var}
use Rattle.theory_renaming.specs.Renaming.{lift, lifts, rename_mono}
use Rattle.theory_substitution.specs.Closing.{closing}
use Rattle.theory_substitution.specs.Monotypes.{next_filling, put_mono, fill_mono}
use Rattle.shared_terms_rows.specs.declared.form.Form.{Form}
use Rattle.shared_terms_rows.specs.declared.form.Form.TheVariants as form
use Rattle.shared_terms_rows.specs.declared.form.Kind.TheVariants as kinds
use Rattle.shared_terms_rows.specs.declared.form.MonoForm.TheVariants as mono
use Rattle.shared_terms_rows.specs.declared.row.Row.{Row}
use Rattle.shared_terms_rows.specs.Parts.{build, build_mono}
use Rattle.shared_terms_rows.specs.Parts.{Part, as_mono, kind_of, of_skeleton, of_mono, of_ty, of_triple, of_term, of_terms, of_fix, of_comp, of_step}
use Rattle.shared_terms_rows.specs.Parts.{of_formula}
use Rattle.shared_terms_rows.specs.Rows.{at, in_slot, node, Extends}
use Rattle.shared_terms_rows.specs.Forms.{slots}
use Rattle.theory_rows_renaming.specs.Renaming.{rename_part}
use Rattle.theory_rows_filling.specs.Filling.{fill_part, next_fillings}
use Rattle.shared_terms_renaming.specs.declared.renaming.Renaming.TheVariants as renaming
use Rattle.shared_terms_renaming.specs.Known.{RenamesBy}
use Rattle.shared_terms_renaming.specs.Maps.{map_of}
use Rattle.shared_terms_renaming.proofs.Maps.{closing_under}
use Rattle.shared_terms_filling.specs.declared.work.FillTask.{FillTask}
use Rattle.shared_terms_filling.specs.Filled.{IsMono, IsUnder, Raises, raised, variable_in}

mono_raised : ℕ → MonoTree → MonoTree
mono_raised zero t = t
mono_raised (suc n) t = rename_mono suc (mono_raised n t)

raised_mono : (n : ℕ) (t : MonoTree) → raised n (of_mono t) ≡ of_mono (mono_raised n t)
unfolding raised rename_part mono_raised
raised_mono zero t = refl
raised_mono (suc n) t = ap (rename_part suc) (raised_mono n t)

suc_same : (n x : ℕ) → nat_eq n x ≡ true → nat_eq (suc n) (suc x) ≡ true
suc_same n x e = grind arith

suc_other : (n x : ℕ) → nat_eq n x ≡ false → nat_eq (suc n) (suc x) ≡ false
suc_other n x e = grind arith

zero_other : (x : ℕ) → nat_eq zero (suc x) ≡ false
zero_other x = grind arith

differ : (n x : ℕ) → n ≢ x → nat_eq n x ≡ false
differ n x e = grind arith

next_by : (t : MonoTree) (x n : ℕ) (b : Bool)
    → nat_eq n x ≡ b
    → nat_eq (suc n) (suc x) ≡ b
    → next_filling (put_mono t x) (suc n) ≡ put_mono (rename_mono suc t) (suc x) (suc n)
unfolding next_filling put_mono closing lift rename_mono
next_by t x n true e h = rw (e, h) refl
next_by t x n false e h = rw (e, h) refl

next_told : (t : MonoTree) (x n : ℕ) (b : Bool) → nat_eq n x ≡ b → next_filling (put_mono t x) (suc n) ≡ put_mono (rename_mono suc t) (suc x) (suc n)
next_told t x n true e = next_by t x n true e (suc_same n x e)
next_told t x n false e = next_by t x n false e (suc_other n x e)

next_at : (t : MonoTree) (x n : ℕ) → next_filling (put_mono t x) n ≡ put_mono (rename_mono suc t) (suc x) n
unfolding next_filling put_mono closing lift
next_at t x zero = rw (zero_other x) refl
next_at t x (suc n) = next_told t x n (nat_eq n x) refl

next_put : (t : MonoTree) (x : ℕ) → next_filling (put_mono t x) ≡ put_mono (rename_mono suc t) (suc x)
next_put t x = λ j n. next_at t x n j

under_put : (n : ℕ) (t : MonoTree) (x : ℕ) → next_fillings n (put_mono t x) ≡ put_mono (mono_raised n t) (x + n)
unfolding next_fillings mono_raised
under_put zero t x = let e : x + 0 ≡ x = omega arith in ap (put_mono t) (sym e)
under_put (suc n) t x =
    let e : suc (x + n) ≡ x + suc n = omega arith in
    ap next_filling (under_put n t x) ∙ next_put (mono_raised n t) (x + n) ∙ ap (put_mono (rename_mono suc (mono_raised n t))) e

pub mono_itself : (p : Part) → kind_of p ≡ kinds.Mono → of_mono (as_mono p) ≡ p
mono_itself (of_mono t) e = refl
mono_itself (of_skeleton x) e = absurd (grind arith)
mono_itself (of_ty x) e = absurd (grind arith)
mono_itself (of_triple x) e = absurd (grind arith)
mono_itself (of_term x) e = absurd (grind arith)
mono_itself (of_terms x) e = absurd (grind arith)
mono_itself (of_fix x) e = absurd (grind arith)
mono_itself (of_comp x) e = absurd (grind arith)
mono_itself (of_step x) e = absurd (grind arith)
mono_itself (of_formula x) e = absurd (grind arith)

-- a raised monotype, put for the variable further out
pub filling_under : {parts : List Part} {mono up : ℕ} (n x : ℕ)
    → IsMono parts mono
    → Raises parts n mono up
    → next_fillings n (put_mono (as_mono (at parts mono)) x) ≡ put_mono (as_mono (at parts up)) (x + n)
filling_under {parts = parts} {mono = mono} n x h r =
    let t = as_mono (at parts mono) in
    let e : of_mono (mono_raised n t) ≡ at parts _ = sym (raised_mono n t) ∙ ap (raised n) (mono_itself (at parts mono) h.mono) ∙ sym r.tree in
    under_put n t x ∙ ap (λ p. put_mono (as_mono p) (x + n)) e

pub raised_is_mono : {parts : List Part} {mono up : ℕ} (n : ℕ) → IsMono parts mono → Raises parts n mono up → IsMono parts up
raised_is_mono {parts = parts} {mono = mono} n h r =
    let t = as_mono (at parts mono) in
    record {
      within = r.within;
      mono = ap kind_of (r.tree ∙ ap (raised n) (sym (mono_itself (at parts mono) h.mono)) ∙ raised_mono n t);
    }

-- a monotype variable's row
variable_form : (f : Form) (index : ℕ) → variable_in f ≡ Some index → f ≡ form.Mono (mono.Var index)
variable_form (form.Mono (mono.Var n)) index e = let h : n ≡ index = cc in ap (λ k. form.Mono (mono.Var k)) h
variable_form (form.Mono mono.Word) index e = absurd (grind arith)
variable_form (form.Mono mono.Bool) index e = absurd (grind arith)
variable_form (form.Mono mono.Loc) index e = absurd (grind arith)
variable_form (form.Mono mono.Unit) index e = absurd (grind arith)
variable_form (form.Mono mono.Pair) index e = absurd (grind arith)
variable_form (form.Skeleton f) index e = absurd (grind arith)
variable_form (form.Ty f) index e = absurd (grind arith)
variable_form form.Triple index e = absurd (grind arith)
variable_form (form.Term f) index e = absurd (grind arith)
variable_form form.NoTerms index e = absurd (grind arith)
variable_form form.MoreTerms index e = absurd (grind arith)
variable_form (form.Fix f) index e = absurd (grind arith)
variable_form (form.Comp f) index e = absurd (grind arith)
variable_form (form.Step f) index e = absurd (grind arith)
variable_form (form.Formula f) index e = absurd (grind arith)

pub variable_node : (parts : List Part) (row : Row) (index : ℕ) → variable_in row.form ≡ Some index → node parts row ≡ of_mono (m_var index)
unfolding build build_mono
variable_node parts row index e =
    ap
    (λ f.
    build f (in_slot parts ((slots f).first) row.first) (in_slot parts ((slots f).second) row.second)
    (in_slot parts ((slots f).third) row.third) (in_slot parts ((slots f).fourth) row.fourth)) (variable_form row.form index e)

pub filled_variable : (t : MonoTree) (x index : ℕ) → index ≡ x → fill_part (put_mono t x) (closing x) (of_mono (m_var index)) ≡ of_mono t
unfolding fill_part fill_mono put_mono
filled_variable t x index e = let h : nat_eq index x ≡ true = grind arith in rw h refl

pub other_variable : (t : MonoTree) (x index : ℕ)
    → index ≢ x
    → fill_part (put_mono t x) (closing x) (of_mono (m_var index)) ≡ rename_part (closing x) (of_mono (m_var index))
unfolding fill_part fill_mono put_mono rename_part rename_mono
other_variable t x index e = let h : nat_eq index x ≡ false = differ index x e in rw h refl

pub raises_none : {parts : List Part} {place : ℕ} (n : ℕ) → n ≡ 0 → place < length parts → Raises parts n place place
unfolding raised
raises_none {parts = parts} {place = place} n e l =
    subst (λ k. Raises parts k place place) (sym e) (record { of = l; within = l; tree = refl })

pub raises_next : {old new : List Part} {place below result : ℕ} (n k : ℕ)
    → suc n ≡ k
    → Extends old new
    → Raises old n place below
    → RenamesBy new (map_of (renaming.Past 0)) below result
    → Raises new k place result
unfolding raised map_of lifts
raises_next {new = new} {place = place} {below = below} {result = result} n k e x h r =
    subst (λ b. Raises new b place result) e
    (record {
      of = omega (arith, h.of, x.longer);
      within = r.within;
      tree = r.tree ∙ ap (rename_part suc) (x.same below h.within ∙ h.tree ∙ ap (raised n) (sym (x.same place h.of)));
    })

pub task_under : {parts : List Part} (task : FillTask) (binders up index place : ℕ)
    → task.index + binders ≡ index
    → IsMono parts task.mono
    → Raises parts binders task.mono up
    → IsUnder parts task binders (record { mono = up; index = index; place = place })
task_under {parts = parts} task binders up index place e h r =
    record {
      fillings = filling_under binders task.index h r ∙ ap (put_mono (as_mono (at parts up))) e;
      map = sym (closing_under task.index binders) ∙ ap closing e;
    }
