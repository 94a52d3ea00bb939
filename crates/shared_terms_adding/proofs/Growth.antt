-- A list of parts that grows by a tree, slot by slot and then by the tree itself.
use Rattle.std.proofs.Common.{◌≡◌, ℕ, ◌<◌, ◌≤◌, List, [], ◌∷◌, ◌++◌, length, Option, Some, None, refl, sym, ap, subst, ◌∙◌, arith, true, ◌&&◌, nat_eq}
use Rattle.std.proofs.Common.{◌⊎◌, inl, inr, Result, Ok, Err, IfOk}
use Rattle.std.proofs.lemmas.Bool.{cases_lt}
use Rattle.shared_terms_rows.specs.declared.slots.Slot.{Slot}
use Rattle.shared_terms_rows.specs.declared.row.Row.{Row}
use Rattle.shared_terms_rows.specs.declared.form.Form.{Form}
use Rattle.shared_terms_rows.specs.Parts.{Part, kind_of, build}
use Rattle.shared_terms_rows.specs.Forms.{slots}
use Rattle.shared_terms_rows.specs.Rows.{at, in_slot, node, behind, bound, bound_in, number, slot_fits, fits, fits_in, IsOfSlot, RowIs, Extends}
use Rattle.shared_terms_table.specs.View.{Appends}
use Rattle.shared_terms_table.proofs.Lists.{extends_refl, extends_trans, extends_push, length_more, at_push}
use Rattle.theory_rows_inversion.specs.Inversion.{Parts, form_at, parts_at, taken, all_taken}
use Rattle.theory_rows_inversion.proofs.Told.{parts_are_told, trees_are_built, parts_are_of_slots}
use Rattle.shared_terms_adding.specs.Roots.{root_of, in_slot as in_root}
use Rattle.shared_terms_adding.specs.Added.{IsIn, itself, in_first, in_second, in_third, in_fourth, GrowsBy, GrowsBySlot, StandsWhole, StandsInSlot}

pub grows_refl : (p : Part) (a : List Part) → GrowsBy p a a
grows_refl p a = record { kept = extends_refl a; only = λ k from below. absurd (omega (arith, from, below)) }

pub grows_trans : {p : Part} {a b c : List Part} → GrowsBy p a b → GrowsBy p b c → GrowsBy p a c
grows_trans {p} {a} {b} {c} x y = record { kept = extends_trans x.kept y.kept; only = λ k from below. by k from below (cases_lt k (length b)) }
  where
    by : (k : ℕ) → length a ≤ k → k < length c → (k < length b) ⊎ (length b ≤ k) → IsIn (at c k) p
    by k from below (inl old) = subst (λ q. IsIn q p) (sym (y.kept.same k old)) (x.only k from old)
    by k from below (inr new) = y.only k new below

-- what a slot adds is in the tree
lifted : {p : Part} {a b : List Part} (slot : Option Part) → ((q r : Part) → slot ≡ Some r → IsIn q r → IsIn q p) → GrowsBySlot slot a b → GrowsBy p a b
lifted {p} {a} {b} None up e = subst (GrowsBy p a) (sym e) (grows_refl p a)
lifted {p} {a} {b} (Some r) up g = record { kept = g.kept; only = λ k from below. up (at b k) r refl (g.only k from below) }

pub grows_first : {p : Part} {a b : List Part} → GrowsBySlot ((root_of p).first) a b → GrowsBy p a b
grows_first {p} g = lifted ((root_of p).first) (λ q r e i. in_first e i) g

pub grows_second : {p : Part} {a b : List Part} → GrowsBySlot ((root_of p).second) a b → GrowsBy p a b
grows_second {p} g = lifted ((root_of p).second) (λ q r e i. in_second e i) g

pub grows_third : {p : Part} {a b : List Part} → GrowsBySlot ((root_of p).third) a b → GrowsBy p a b
grows_third {p} g = lifted ((root_of p).third) (λ q r e i. in_third e i) g

pub grows_fourth : {p : Part} {a b : List Part} → GrowsBySlot ((root_of p).fourth) a b → GrowsBy p a b
grows_fourth {p} g = lifted ((root_of p).fourth) (λ q r e i. in_fourth e i) g

pub slot_extends : {a b : List Part} (slot : Option Part) → GrowsBySlot slot a b → Extends a b
slot_extends {a} {b} None e = subst (Extends a) (sym e) (extends_refl a)
slot_extends (Some r) g = g.kept

pub stands_kept : {a b : List Part} {p : Part} {place : ℕ} → Extends a b → StandsWhole a p place → StandsWhole b p place
stands_kept {a} {b} {p} {place} x s = record {
  within = omega (arith, s.within, x.longer);
  here = x.same place s.within ∙ s.here;
  whole = λ q i. let k = s.whole q i in (k.0, omega (arith, k.1, x.longer), x.same k.0 k.1 ∙ k.2);
}

pub slot_kept : {a b : List Part} (slot : Option Part) (place : ℕ) → Extends a b → StandsInSlot a slot place → StandsInSlot b slot place
slot_kept None place x s = s
slot_kept (Some p) place x s = stands_kept x s

-- the places of what is in the slots of a tree
pub record Placed (parts : List Part) (p : Part) (row : Row) : Type 0 where
  pub form : row.form ≡ form_at p
  pub first : StandsInSlot parts ((root_of p).first) row.first
  pub second : StandsInSlot parts ((root_of p).second) row.second
  pub third : StandsInSlot parts ((root_of p).third) row.third
  pub fourth : StandsInSlot parts ((root_of p).fourth) row.fourth

pub placed_kept : {a b : List Part} {p : Part} {row : Row} → Extends a b → Placed a p row → Placed b p row
placed_kept {a} {b} {p} {row} x h = record {
  form = h.form;
  first = slot_kept ((root_of p).first) row.first x h.first;
  second = slot_kept ((root_of p).second) row.second x h.second;
  third = slot_kept ((root_of p).third) row.third x h.third;
  fourth = slot_kept ((root_of p).fourth) row.fourth x h.fourth;
}

nat_eq_same : (n k : ℕ) → n ≡ k → nat_eq n k ≡ true
nat_eq_same n k e = grind (arith, e)

module _ (parts : List Part) where
  behind_slot : (s : Option Slot) (q : Part) (place : ℕ) → StandsInSlot parts (in_root s q) place → behind s place ≤ length parts
  behind_slot None q place h = omega arith
  behind_slot (Some s) q place h = omega (arith, h.within)

  fits_slot : (s : Option Slot) (q : Part) (place : ℕ) → IsOfSlot s q → StandsInSlot parts (in_root s q) place → slot_fits parts s place ≡ true
  fits_slot None q place kind h = nat_eq_same place 0 h
  fits_slot (Some s) q place kind h = nat_eq_same (number (kind_of (at parts place))) (number s.kind) (ap (λ x. number (kind_of x)) h.here ∙ ap number kind)

  told_slot : (s : Option Slot) (q : Part) (place : ℕ) → q ≡ taken s q → StandsInSlot parts (in_root s q) place → in_slot parts s place ≡ q
  told_slot None q place e h = sym e
  told_slot (Some s) q place e h = h.here

-- the row of a tree stands for it, where what is in its slots stands
module _ {parts : List Part} {p : Part} {row : Row} (h : Placed parts p row) where
  first_in : StandsInSlot parts (in_root ((slots (form_at p)).first) ((parts_at p).first)) row.first
  unfolding root_of
  first_in = h.first

  second_in : StandsInSlot parts (in_root ((slots (form_at p)).second) ((parts_at p).second)) row.second
  unfolding root_of
  second_in = h.second

  third_in : StandsInSlot parts (in_root ((slots (form_at p)).third) ((parts_at p).third)) row.third
  unfolding root_of
  third_in = h.third

  fourth_in : StandsInSlot parts (in_root ((slots (form_at p)).fourth) ((parts_at p).fourth)) row.fourth
  unfolding root_of
  fourth_in = h.fourth

  pub row_behind : bound row ≤ length parts
  row_behind =
      let s = slots (form_at p) in
      let a = behind_slot parts s.first ((parts_at p).first) row.first first_in in
      let b = behind_slot parts s.second ((parts_at p).second) row.second second_in in
      let c = behind_slot parts s.third ((parts_at p).third) row.third third_in in
      let d = behind_slot parts s.fourth ((parts_at p).fourth) row.fourth fourth_in in
      subst (λ f. bound_in (slots f) row ≤ length parts) (sym h.form) (omega (arith, a, b, c, d))

  pub row_fits : fits parts row ≡ true
  unfolding fits
  row_fits =
      let s = slots (form_at p) in
      let k = parts_are_of_slots p in
      let a = fits_slot parts s.first ((parts_at p).first) row.first k.0 first_in in
      let b = fits_slot parts s.second ((parts_at p).second) row.second k.1 second_in in
      let c = fits_slot parts s.third ((parts_at p).third) row.third k.2 third_in in
      let d = fits_slot parts s.fourth ((parts_at p).fourth) row.fourth k.3 fourth_in in
      subst (λ f. fits_in parts (slots f) row ≡ true) (sym h.form) (λ j. (a j && b j) && (c j && d j))

  told : parts_at p ≡ all_taken (slots (form_at p)) ((parts_at p).first) ((parts_at p).second) ((parts_at p).third) ((parts_at p).fourth)
  told =
      let k = parts_are_of_slots p in
      ap parts_at (trees_are_built p) ∙ parts_are_told (form_at p) ((parts_at p).first) ((parts_at p).second) ((parts_at p).third) ((parts_at p).fourth) k.0 k.1 k.2 k.3

  pub row_node : node parts row ≡ p
  row_node =
      let s = slots (form_at p) in
      let a = told_slot parts s.first ((parts_at p).first) row.first (ap (λ (q : Parts). q.first) told) first_in in
      let b = told_slot parts s.second ((parts_at p).second) row.second (ap (λ (q : Parts). q.second) told) second_in in
      let c = told_slot parts s.third ((parts_at p).third) row.third (ap (λ (q : Parts). q.third) told) third_in in
      let d = told_slot parts s.fourth ((parts_at p).fourth) row.fourth (ap (λ (q : Parts). q.fourth) told) fourth_in in
      (λ j. node_of (h.form j)) ∙ (λ j. build (form_at p) (a j) (b j) (c j) (d j)) ∙ sym (trees_are_built p)
    where
      node_of : Form → Part
      node_of f =
          let s = slots f in
          build f (in_slot parts s.first row.first) (in_slot parts s.second row.second) (in_slot parts s.third row.third) (in_slot parts s.fourth row.fourth)

pub grows_last : {p : Part} {a b : List Part} {row : Row} → Placed a p row → Appends a row b → GrowsBy p a b
grows_last {p} {a} {b} {row} h (inl e) = subst (GrowsBy p a) (sym e) (grows_refl p a)
grows_last {p} {a} {b} {row} h (inr e) =
    subst (GrowsBy p a) (sym e)
    (record {
      kept = extends_push a (node a row);
      only = λ k from below.
          let last : k ≡ length a = omega (arith, from, below, length_more a (node a row)) in
          let is : at (a ++ node a row ∷ []) k ≡ p = ap (at (a ++ node a row ∷ [])) last ∙ at_push a (node a row) ∙ row_node h in
          subst (λ q. IsIn q p) (sym is) itself;
    })

-- what is in a slot that holds a tree
inside : {q r : Part} (parts : List Part) (slot : Option Part) (place : ℕ) → slot ≡ Some r → StandsInSlot parts slot place → IsIn q r → (k : ℕ) × (k < length parts) × (at parts k ≡ q)
inside {q} {r} parts slot place e s i =
    let t : StandsWhole parts r place = subst (λ (o : Option Part). StandsInSlot parts o place) e s in
    t.whole q i

pub stands_whole : {parts : List Part} {p : Part} {row : Row} {place : ℕ} → Placed parts p row → RowIs parts place row → StandsWhole parts p place
stands_whole {parts} {p} {row} {place} h r = record { within = r.within; here = here; whole = λ q i. whole q i }
  where
    here : at parts place ≡ p
    here = r.tree ∙ row_node h

    whole : (q : Part) → IsIn q p → (k : ℕ) × (k < length parts) × (at parts k ≡ q)
    whole q itself = (place, r.within, here)
    whole q (in_first e i) = inside parts ((root_of p).first) row.first e h.first i
    whole q (in_second e i) = inside parts ((root_of p).second) row.second e h.second i
    whole q (in_third e i) = inside parts ((root_of p).third) row.third e h.third i
    whole q (in_fourth e i) = inside parts ((root_of p).fourth) row.fourth e h.fourth i

pub stands_ok : {X : Type 0} {p : Part} {row : Row} (r : Result ℕ X) (parts : List Part) → Placed parts p row → IfOk r (λ place. RowIs parts place row) → IfOk r (λ place. StandsWhole parts p place)
stands_ok (Ok place) parts h m = stands_whole h m
stands_ok (Err e) parts h m = m

pub slot_told : {s r : Option Part} (parts : List Part) (place : ℕ) → s ≡ r → StandsInSlot parts s place → StandsInSlot parts r place
slot_told parts place e h = subst (λ (o : Option Part). StandsInSlot parts o place) e h

pub slot_grown : {s r : Option Part} (a b : List Part) → s ≡ r → GrowsBySlot s a b → GrowsBySlot r a b
slot_grown a b e h = subst (λ (o : Option Part). GrowsBySlot o a b) e h
