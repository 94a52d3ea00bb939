-- Where each row stands once, so does each part: a part tells its form, and the places of its own parts.
use Rattle.std.proofs.Common.{◌≡◌, ℕ, zero, suc, ◌+◌, ◌<◌, ◌≤◌, List, [], ◌∷◌, ◌++◌, length, slice_get, Option, Some, None, refl, sym, ap, ◌∙◌, subst, arith}
use Rattle.std.proofs.Common.{Bool, true, false, ◌&&◌, ◌||◌, ◌⊎◌, inl, inr, nat_eq}
use Rattle.std.proofs.lemmas.Bool.{and_parts, cases_lt}
use Rattle.std.proofs.lemmas.Grind.{common_steps}
use Rattle.std.specs.List.{list_any}
use Rattle.shared_terms_rows.specs.declared.row.Row.{Row}
use Rattle.shared_terms_rows.specs.contracts.row.RowPartialEq as RowEq
use Rattle.shared_terms_rows.specs.declared.slots.Slot.{Slot}
use Rattle.shared_terms_rows.specs.declared.slots.Slots.{Slots}
use Rattle.shared_terms_rows.specs.Parts.{Part, kind_of}
use Rattle.shared_terms_rows.specs.Forms.{slots}
use Rattle.shared_terms_rows.specs.Rows.{at, in_slot, node, behind, bound, bound_in, slot_fits, fits, fits_in, stood_for, Backward, Fitting, IsOfSlot}
use Rattle.shared_terms_rows.specs.Rows.{RowsOnce, Once}
use Rattle.shared_terms_rows.proofs.Built.{kind_told}
use Rattle.theory_rows_inversion.specs.Inversion.{Parts, form_at, parts_at, taken, all_taken}
use Rattle.theory_rows_inversion.proofs.Told.{forms_are_told, parts_are_told}
use Rattle.shared_terms_table.proofs.Equal.{row_itself}
use Rattle.shared_terms_table.proofs.Lists.{length_parts}
use Rattle.shared_terms_table.proofs.Facts.{row_is, get_before, get_last, get_within, Put, there, last}

zero_told : (n : ℕ) → nat_eq n 0 ≡ true → n ≡ 0
zero_told zero e = refl
zero_told (suc n) e = absurd (grind arith)

pub slot_kind : (parts : List Part) (slot : Option Slot) (place : ℕ) → slot_fits parts slot place ≡ true → IsOfSlot slot (in_slot parts slot place)
slot_kind parts None place f = tt
slot_kind parts (Some slot) place f = kind_told (kind_of (at parts place)) slot.kind f

-- The slots of a row are filled by parts of their kinds.
pub record Filled (parts : List Part) (s : Slots) (row : Row) : Type 0 where
  pub first : slot_fits parts s.first row.first ≡ true
  pub second : slot_fits parts s.second row.second ≡ true
  pub third : slot_fits parts s.third row.third ≡ true
  pub fourth : slot_fits parts s.fourth row.fourth ≡ true

pub filled : (parts : List Part) (s : Slots) (row : Row) → fits_in parts s row ≡ true → Filled parts s row
filled parts s row f =
    let x =
    and_parts (slot_fits parts s.first row.first && slot_fits parts s.second row.second)
    (slot_fits parts s.third row.third && slot_fits parts s.fourth row.fourth) f in
    let y = and_parts (slot_fits parts s.first row.first) (slot_fits parts s.second row.second) x.0 in
    let z = and_parts (slot_fits parts s.third row.third) (slot_fits parts s.fourth row.fourth) x.1 in
    record { first = y.0; second = y.1; third = z.0; fourth = z.1 }

abbrev parts_taken : List Part → Slots → Row → Parts
parts_taken parts s row =
    all_taken s (in_slot parts s.first row.first) (in_slot parts s.second row.second) (in_slot parts s.third row.third)
    (in_slot parts s.fourth row.fourth)

row_told : (parts : List Part) (row : Row) → fits parts row ≡ true → parts_at (node parts row) ≡ parts_taken parts (slots row.form) row
unfolding fits
row_told parts row f =
    let s = slots row.form in
    let k = filled parts s row f in
    parts_are_told row.form _ _ _ _ (slot_kind parts s.first row.first k.first) (slot_kind parts s.second row.second k.second)
    (slot_kind parts s.third row.third k.third) (slot_kind parts s.fourth row.fourth k.fourth)

row_made : (r q : Row) → r.form ≡ q.form → r.first ≡ q.first → r.second ≡ q.second → r.third ≡ q.third → r.fourth ≡ q.fourth → r ≡ q
row_made r q e a b c d = λ j. record { form = e j; first = a j; second = b j; third = c j; fourth = d j }

abbrev OnceBelow : List Part → ℕ → Type 0
OnceBelow parts n = (i k : ℕ) → i < n → k < length parts → at parts i ≡ at parts k → i ≡ k

module _ (parts : List Part) (n : ℕ) (h : OnceBelow parts n) where
  slot_once : (slot : Option Slot) (p q : ℕ)
      → behind slot p ≤ n
      → behind slot q ≤ length parts
      → slot_fits parts slot p ≡ true
      → slot_fits parts slot q ≡ true
      → taken slot (in_slot parts slot p) ≡ taken slot (in_slot parts slot q)
      → p ≡ q
  slot_once None p q l m f g e = zero_told p f ∙ sym (zero_told q g)
  slot_once (Some slot) p q l m f g e = h p q (omega (arith, l)) (omega (arith, m)) e

  row_once : (r q : Row)
      → bound r ≤ n
      → bound q ≤ length parts
      → fits parts r ≡ true
      → fits parts q ≡ true
      → node parts r ≡ node parts q
      → r ≡ q
  unfolding fits
  row_once r q l m f g e =
      let same : q.form ≡ r.form = sym (forms_are_told q.form _ _ _ _) ∙ ap form_at (sym e) ∙ forms_are_told r.form _ _ _ _ in
      let s = slots r.form in
      let to : slots q.form ≡ s = ap slots same in
      let w : bound_in s q ≤ length parts = subst (λ (z : Slots). bound_in z q ≤ length parts) to m in
      let k = filled parts s r f in
      let y = filled parts s q (subst (λ (z : Slots). fits_in parts z q ≡ true) to g) in
      let t : parts_taken parts s r ≡ parts_taken parts s q =
      subst (λ (z : Slots). parts_taken parts s r ≡ parts_taken parts z q) to (sym (row_told parts r f) ∙ ap parts_at e ∙ row_told parts q g) in
      row_made r q (sym same)
      (slot_once s.first r.first q.first (omega (arith, l)) (omega (arith, w)) k.first y.first (ap (λ (z : Parts). z.first) t))
      (slot_once s.second r.second q.second (omega (arith, l)) (omega (arith, w)) k.second y.second (ap (λ (z : Parts). z.second) t))
      (slot_once s.third r.third q.third (omega (arith, l)) (omega (arith, w)) k.third y.third (ap (λ (z : Parts). z.third) t))
      (slot_once s.fourth r.fourth q.fourth (omega (arith, l)) (omega (arith, w)) k.fourth y.fourth (ap (λ (z : Parts). z.fourth) t))

get_row : (rows : List Row) (i : ℕ) → i < length rows → (row : Row) × (slice_get rows i ≡ Some row)
get_row [] i l = absurd (omega (arith, l))
get_row (q ∷ rows) zero l = (q, refl)
get_row (q ∷ rows) (suc i) l = get_row rows i (omega (arith, l))

once_below : (rows : List Row) → Backward rows → Fitting rows → RowsOnce rows → (n : ℕ) → n ≤ length rows → OnceBelow (stood_for [] rows) n
once_below rows back fit once zero le i k l m e = absurd (omega (arith, l))
once_below rows back fit once (suc n) le i k l m e =
    let c = length_parts rows [] in
    let a = get_row rows i (omega (arith, l, le)) in
    let b = get_row rows k (omega (arith, m, c)) in
    let p = row_is rows a.0 i back fit a.1 in
    let q = row_is rows b.0 k back fit b.1 in
    let v = p.below in
    let w = q.below in
    let same : a.0 ≡ b.0 =
    row_once (stood_for [] rows) n (once_below rows back fit once n (omega (arith, le))) a.0 b.0 (omega (arith, v, l)) (omega (arith, w, m)) p.fitting
    q.fitting (sym p.tree ∙ e ∙ q.tree) in
    once i k a.0 a.1 (b.1 ∙ ap Some (sym same))

pub once : (rows : List Row) → Backward rows → Fitting rows → RowsOnce rows → Once (stood_for [] rows)
once rows back fit h i k l m e = let c = length_parts rows [] in once_below rows back fit h (length rows) (omega arith) i k (omega (arith, l, c)) m e

or_first : (a b : Bool) → a ≡ true → (a || b) ≡ true
or_first a b e = ap (λ c. c || b) e

or_second : (a b : Bool) → b ≡ true → (a || b) ≡ true
or_second true b e = refl
or_second false b e = e

-- a row that stands somewhere is found
any_there : (rows : List Row) (row : Row) (i : ℕ) → slice_get rows i ≡ Some row → list_any (RowEq.TheImpl.eq-value.it row) rows ≡ true
any_there [] row i g = cc
any_there (q ∷ rows) row zero g =
    let e : q ≡ row = cc in
    or_first _ _ (subst (λ (w : Row). RowEq.TheImpl.eq-value.it row w ≡ true) (sym e) (row_itself row))
any_there (q ∷ rows) row (suc i) g = or_second _ _ (any_there rows row i g)

pub rows_once_more : (old : List Row) (row : Row) → RowsOnce old → list_any (RowEq.TheImpl.eq-value.it row) old ≡ false → RowsOnce (old ++ row ∷ [])
rows_once_more old row h none i k r a b = by (cases_lt i (length old)) (cases_lt k (length old))
  where
    size : length (old ++ row ∷ []) ≡ length old + 1
    size = grind (arith, common_steps)

    last : (n : ℕ) → length old ≤ n → slice_get (old ++ row ∷ []) n ≡ Some r → n ≡ length old
    last n l g = let w = get_within (old ++ row ∷ []) n r g in omega (arith, l, w, size)

    new : (n m : ℕ) → n < length old → slice_get (old ++ row ∷ []) n ≡ Some r → length old ≤ m → slice_get (old ++ row ∷ []) m ≡ Some r → n ≡ m
    new n m l g j w =
        let e : row ≡ r = get_last old row r m j w in
        let f : list_any (RowEq.TheImpl.eq-value.it row) old ≡ true = any_there old row n (sym (get_before old row n l) ∙ g ∙ ap Some (sym e)) in
        let no : true ≡ false = sym f ∙ none in
        cc

    by : (i < length old) ⊎ (length old ≤ i) → (k < length old) ⊎ (length old ≤ k) → i ≡ k
    by (inl p) (inl q) = h i k r (sym (get_before old row i p) ∙ a) (sym (get_before old row k q) ∙ b)
    by (inl p) (inr q) = new i k p a q b
    by (inr p) (inl q) = sym (new k i q b p a)
    by (inr p) (inr q) = last i p a ∙ sym (last k q b)

pub put_once : (old new : List Row) (row : Row) → Put old new row → RowsOnce old → RowsOnce new
put_once old new row (there e) h = subst RowsOnce (sym e) h
put_once old new row (last none e) h = subst RowsOnce (sym e) (rows_once_more old row h none)
