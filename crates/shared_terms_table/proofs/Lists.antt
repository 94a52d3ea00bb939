-- Lists of parts, and rows over them.
use Rattle.std.proofs.Common.{◌≡◌, ℕ, zero, suc, ◌+◌, ◌<◌, ◌≤◌, List, [], ◌∷◌, ◌++◌, length, slice_get, Option, Some, None, refl, sym, ap, ◌∙◌, arith}
use Rattle.std.proofs.Common.{◌&&◌, nat_eq}
use Rattle.std.proofs.lemmas.Grind.{common_steps}
use Rattle.shared_terms_rows.specs.declared.row.Row.{Row}
use Rattle.shared_terms_rows.specs.declared.slots.Slot.{Slot}
use Rattle.shared_terms_rows.specs.Parts.{Part, kind_of, build}
use Rattle.shared_terms_rows.specs.Forms.{slots}
use Rattle.shared_terms_rows.specs.Rows.{at, in_slot, node, behind, bound, number, slot_fits, fits, stood_for, RowIs, Extends}

pub extends_refl : (a : List Part) → Extends a a
extends_refl a = record { longer = omega arith; same = λ k l. refl }

pub extends_trans : {a b c : List Part} → Extends a b → Extends b c → Extends a c
extends_trans {a} {b} {c} p q = record { longer = omega (arith, p.longer, q.longer); same = λ k l. q.same k (omega (arith, l, p.longer)) ∙ p.same k l }

pub length_more : (parts : List Part) (p : Part) → length (parts ++ p ∷ []) ≡ length parts + 1
length_more parts p = grind (arith, common_steps)

pub extends_push : (a : List Part) (p : Part) → Extends a (a ++ p ∷ [])
extends_push a p = record { longer = grind (arith, common_steps); same = λ k l. grind (arith, common_steps) }

pub at_push : (a : List Part) (p : Part) → at (a ++ p ∷ []) (length a) ≡ p
at_push a p = grind (arith, common_steps)

-- a row over parts that are the same
module _ (a b : List Part) (n : ℕ) (e : (k : ℕ) → k < n → at b k ≡ at a k) where
  slot_same : (slot : Option Slot) (place : ℕ) → behind slot place ≤ n → in_slot b slot place ≡ in_slot a slot place
  slot_same None place l = refl
  slot_same (Some slot) place l = e place (omega (arith, l))

  slot_fits_same : (slot : Option Slot) (place : ℕ) → behind slot place ≤ n → slot_fits b slot place ≡ slot_fits a slot place
  slot_fits_same None place l = refl
  slot_fits_same (Some slot) place l = ap (λ p. nat_eq (number (kind_of p)) (number slot.kind)) (e place (omega (arith, l)))

  pub node_same : (row : Row) → bound row ≤ n → node b row ≡ node a row
  node_same row l =
      let s = slots row.form in
      let p = slot_same s.first row.first (omega (arith, l)) in
      let q = slot_same s.second row.second (omega (arith, l)) in
      let r = slot_same s.third row.third (omega (arith, l)) in
      let t = slot_same s.fourth row.fourth (omega (arith, l)) in
      λ j. build row.form (p j) (q j) (r j) (t j)

  pub fits_same : (row : Row) → bound row ≤ n → fits b row ≡ fits a row
  unfolding fits
  fits_same row l =
      let s = slots row.form in
      let p = slot_fits_same s.first row.first (omega (arith, l)) in
      let q = slot_fits_same s.second row.second (omega (arith, l)) in
      let r = slot_fits_same s.third row.third (omega (arith, l)) in
      let t = slot_fits_same s.fourth row.fourth (omega (arith, l)) in
      λ j. (p j && q j) && (r j && t j)

pub parts_extend : (parts : List Part) (rows : List Row) → Extends parts (stood_for parts rows)
unfolding stood_for
parts_extend parts [] = extends_refl parts
parts_extend parts (r ∷ rows) = extends_trans (extends_push parts (node parts r)) (parts_extend (parts ++ node parts r ∷ []) rows)

pub length_parts : (rows : List Row) (parts : List Part) → length (stood_for parts rows) ≡ length parts + length rows
unfolding stood_for
length_parts [] parts = omega arith
length_parts (r ∷ rows) parts =
    let e = length_parts rows (parts ++ node parts r ∷ []) in
    let f = length_more parts (node parts r) in
    omega (arith, e, f)

pub parts_push : (rows : List Row) (parts : List Part) (r : Row)
    → stood_for parts (rows ++ r ∷ []) ≡ stood_for parts rows ++ node (stood_for parts rows) r ∷ []
unfolding stood_for
parts_push [] parts r = refl
parts_push (q ∷ rows) parts r = parts_push rows (parts ++ node parts q ∷ []) r

pub parts_at : (rows : List Row) (parts : List Part) (i : ℕ) (r : Row)
    → slice_get rows i ≡ Some r
    → bound r ≤ length parts + i
    → at (stood_for parts rows) (length parts + i) ≡ node (stood_for parts rows) r
unfolding stood_for
parts_at [] parts i r g b = absurd (grind (arith, common_steps))
parts_at (q ∷ rows) parts zero r g b =
    let e : q ≡ r = grind (arith, common_steps, g) in
    let more = parts ++ node parts q ∷ [] in
    let x = parts_extend more rows in
    let m = length_more parts (node parts q) in
    let here : at (stood_for more rows) (length parts) ≡ node parts q = x.same (length parts) (omega (arith, m)) ∙ at_push parts (node parts q) in
    let same : node (stood_for more rows) q ≡ node parts q =
    node_same parts (stood_for more rows) (length parts)
    (λ k l. x.same k (omega (arith, l, m)) ∙ (extends_push parts (node parts q)).same k l) q (rw e (omega (arith, b)))
    in
    ap (at (stood_for more rows)) (omega arith) ∙ here ∙ sym same ∙ ap (node (stood_for more rows)) e
parts_at (q ∷ rows) parts (suc i) r g b =
    let more = parts ++ node parts q ∷ [] in
    let m = length_more parts (node parts q) in
    let e : length more + i ≡ length parts + suc i = omega (arith, m) in
    ap (at (stood_for more rows)) (sym e) ∙ parts_at rows more i r g (omega (arith, e, b))

-- a row that stands stays
pub row_kept : {a b : List Part} {n : ℕ} {r : Row} → Extends a b → RowIs a n r → RowIs b n r
row_kept {a} {b} {n} {r} x h =
    let below : (k : ℕ) → k < n → at b k ≡ at a k = λ k l. x.same k (omega (arith, l, h.within)) in
    record {
      within = omega (arith, h.within, x.longer);
      below = h.below;
      fitting = fits_same a b n below r h.below ∙ h.fitting;
      tree = x.same n h.within ∙ h.tree ∙ sym (node_same a b n below r h.below);
    }
