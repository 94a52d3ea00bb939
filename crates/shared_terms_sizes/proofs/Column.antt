-- The size of a row is that of what it stands for, and a column with one more size.
use Rattle.std.proofs.Common.{◌≡◌, ℕ, ◌+◌, ◌<◌, ◌≤◌, List, [], ◌∷◌, ◌++◌, length, slice_index_or, Option, None, Some, sym, ap, ◌∙◌, arith, true}
use Rattle.std.proofs.Common.{◌&&◌, ◌⊎◌, inl, inr, subst}
use Rattle.std.proofs.lemmas.Bool.{and_parts, cases_lt}
use Rattle.std.proofs.lemmas.Grind.{common_steps}
use Rattle.shared_terms_rows.specs.declared.row.Row.{Row}
use Rattle.shared_terms_rows.specs.declared.slots.Slot.{Slot}
use Rattle.shared_terms_rows.specs.Parts.{Part, kind_of}
use Rattle.shared_terms_rows.specs.Forms.{slots}
use Rattle.shared_terms_rows.specs.Rows.{at, in_slot, behind, bound, slot_fits, fits, RowIs, IsOfSlot}
use Rattle.shared_terms_rows.proofs.Built.{kind_told}
use Rattle.theory_rows_counts.specs.Counts.{nodes_part, own_nodes, slot_nodes}
use Rattle.theory_rows_counts.proofs.Sums.{nodes_add_up}
use Rattle.theory_saturation.specs.Saturation.{saturated}
use Rattle.theory_saturation.proofs.Sums.{Saturates, nil, fit, two}
use Rattle.shared_terms_sizes.specs.Sized.{size_in_slot, size_in_row, Sized}

own_added : {m k : ℕ} (n : ℕ) → Saturates m k → Saturates (saturated (n + m)) (n + k)
own_added {m} {k} n p = record { is = let e = p.is in omega (arith, e) }

module _ (parts : List Part) (sizes : List ℕ) (s : Sized parts sizes) where
  slot_sized : (slot : Option Slot) (place : ℕ)
      → behind slot place ≤ length sizes
      → Saturates (size_in_slot sizes slot place) (slot_nodes slot (in_slot parts slot place))
  slot_sized None place l = nil
  slot_sized (Some slot) place l = record { is = s.each place (omega (arith, l)) }

  slot_kind : (slot : Option Slot) (place : ℕ) → slot_fits parts slot place ≡ true → IsOfSlot slot (in_slot parts slot place)
  slot_kind None place f = tt
  slot_kind (Some slot) place f = kind_told (kind_of (at parts place)) slot.kind f

  pub row_sized : (place : ℕ) (row : Row) → RowIs parts place row → bound row ≤ length sizes → size_in_row sizes row ≡ saturated (nodes_part (at parts place))
  unfolding size_in_row fits
  row_sized place row w l =
      let z = slots row.form in
      let x =
      and_parts (slot_fits parts z.first row.first && slot_fits parts z.second row.second)
      (slot_fits parts z.third row.third && slot_fits parts z.fourth row.fourth) w.fitting in
      let y = and_parts (slot_fits parts z.first row.first) (slot_fits parts z.second row.second) x.0 in
      let u = and_parts (slot_fits parts z.third row.third) (slot_fits parts z.fourth row.fourth) x.1 in
      let a = in_slot parts z.first row.first in
      let b = in_slot parts z.second row.second in
      let c = in_slot parts z.third row.third in
      let d = in_slot parts z.fourth row.fourth in
      let e =
      nodes_add_up row.form a b c d (slot_kind z.first row.first y.0) (slot_kind z.second row.second y.1) (slot_kind z.third row.third u.0)
      (slot_kind z.fourth row.fourth u.1) in
      let own = own_added (own_nodes row.form) (slot_sized z.first row.first (omega (arith, l))) in
      let sum =
      two (two (two own (slot_sized z.second row.second (omega (arith, l)))) (slot_sized z.third row.third (omega (arith, l))))
      (slot_sized z.fourth row.fourth (omega (arith, l)))
      in
      (fit sum (sym e ∙ ap nodes_part (sym w.tree))).is

length_more : (sizes : List ℕ) (size : ℕ) → length (sizes ++ size ∷ []) ≡ length sizes + 1
length_more sizes size = grind (arith, common_steps)

index_before : (sizes : List ℕ) (size place : ℕ) → place < length sizes → slice_index_or (sizes ++ size ∷ []) place 0 ≡ slice_index_or sizes place 0
index_before sizes size place l = grind (arith, common_steps)

index_last : (sizes : List ℕ) (size : ℕ) → slice_index_or (sizes ++ size ∷ []) (length sizes) 0 ≡ size
index_last sizes size = grind (arith, common_steps)

pub sized_more : (parts : List Part) (sizes : List ℕ) (size : ℕ)
    → Sized parts sizes
    → length sizes < length parts
    → size ≡ saturated (nodes_part (at parts (length sizes)))
    → Sized parts (sizes ++ size ∷ [])
sized_more parts sizes size s l e = record {
  within = omega (arith, l, length_more sizes size);
  each = λ place m. by place (cases_lt place (length sizes)) m;
}
  where
    by : (place : ℕ)
        → (place < length sizes) ⊎ (length sizes ≤ place)
        → place < length (sizes ++ size ∷ [])
        → slice_index_or (sizes ++ size ∷ []) place 0 ≡ saturated (nodes_part (at parts place))
    by place (inl p) m = index_before sizes size place p ∙ s.each place p
    by place (inr p) m =
        let same : length sizes ≡ place = omega (arith, p, m, length_more sizes size) in
        subst (λ k. slice_index_or (sizes ++ size ∷ []) k 0 ≡ saturated (nodes_part (at parts k))) same (index_last sizes size ∙ e)

pub next_sized : (parts : List Part) (sizes read new : List ℕ) (place count size : ℕ) (row : Row)
    → Sized parts sizes
    → length sizes ≡ place
    → place < count
    → count ≡ length parts
    → read ≡ sizes
    → RowIs parts place row
    → size ≡ size_in_row read row
    → new ≡ sizes ++ size ∷ []
    → Sized parts new × (length new ≡ place + 1)
next_sized parts sizes read new place count size row s here below total same w is made =
    let k : length sizes < length parts = omega (arith, here, below, total) in
    let b : bound row ≤ length sizes = omega (arith, w.below, here) in
    let e : size_in_row sizes row ≡ saturated (nodes_part (at parts place)) = row_sized parts sizes s place row w b in
    let f : size ≡ saturated (nodes_part (at parts (length sizes))) =
    is ∙ ap (λ l. size_in_row l row) same ∙ e ∙ ap (λ n. saturated (nodes_part (at parts n))) (sym here)
    in (
      subst (Sized parts) (sym made) (sized_more parts sizes size s k f),
      ap length made ∙ length_more sizes size ∙ ap (λ n. n + 1) here,
    )
