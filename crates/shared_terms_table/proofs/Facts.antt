-- The table's rows, and what is put behind them.
use Rattle.std.proofs.Common.{◌≡◌, ℕ, zero, suc, ◌+◌, ◌<◌, ◌≤◌, List, [], ◌∷◌, ◌++◌, length, slice_get, slice_index_or, Some, refl, sym, ap, ◌∙◌}
use Rattle.std.proofs.Common.{subst, arith, Bool, true, false, if◌then◌else◌, ◌⊎◌, inl, inr, Result, Ok, Err, IfOk, OnErr}
use Rattle.std.specs.List.{list_any}
use Rattle.std.proofs.lemmas.Bool.{cases_lt}
use Rattle.indexmap.specs.IndexSet.{insert_key}
use Rattle.shared_terms_rows.specs.declared.row.Row.{Row}
use Rattle.shared_terms_rows.specs.contracts.row.RowPartialEq as RowEq
use Rattle.shared_terms_rows.specs.Rows.{at, node, bound, fits, stood_for, Backward, Fitting, RowIs, Extends}
use Rattle.shared_terms_table.specs.declared.table.Table.{Table}
use Rattle.shared_terms_table.specs.View.{parts_of, Appends}
use Rattle.shared_terms_table.proofs.Lists.{extends_refl, extends_push, parts_push, length_parts, parts_at, fits_same}

pub counted : (table : Table) → length (parts_of table) ≡ length table.rows.keys
unfolding parts_of
counted table = length_parts table.rows.keys [] ∙ omega arith

-- what stands at a place is what its row stands for
pub found : (rows : List Row) (i : ℕ) (r : Row) → Backward rows → slice_get rows i ≡ Some r → at (stood_for [] rows) i ≡ node (stood_for [] rows) r
found rows i r back g =
    let b : bound r ≤ 0 + i = omega (arith, back i r g) in
    let e : 0 + i ≡ i = omega arith in
    subst (λ k. at (stood_for [] rows) k ≡ node (stood_for [] rows) r) e (parts_at rows [] i r g b)

pub get_before : (xs : List Row) (x : Row) (i : ℕ) → i < length xs → slice_get (xs ++ x ∷ []) i ≡ slice_get xs i
get_before [] x i l = absurd (omega (arith, l))
get_before (y ∷ xs) x zero l = refl
get_before (y ∷ xs) x (suc i) l = get_before xs x i (omega (arith, l))

pub get_last : (xs : List Row) (x r : Row) (i : ℕ) → length xs ≤ i → slice_get (xs ++ x ∷ []) i ≡ Some r → x ≡ r
get_last [] x r zero l g = cc
get_last [] x r (suc i) l g = cc
get_last (y ∷ xs) x r zero l g = absurd (omega (arith, l))
get_last (y ∷ xs) x r (suc i) l g = get_last xs x r i (omega (arith, l)) g

pub get_within : (xs : List Row) (i : ℕ) (r : Row) → slice_get xs i ≡ Some r → i < length xs
get_within [] i r g = cc
get_within (x ∷ xs) zero r g = omega arith
get_within (x ∷ xs) (suc i) r g = omega (arith, get_within xs i r g)

-- what a row is put behind
pub data Put (old new : List Row) (row : Row) : Type 0 where
  there : new ≡ old → Put old new row
  last : list_any (RowEq.TheImpl.eq-value.it row) old ≡ false → new ≡ old ++ row ∷ [] → Put old new row

put_by : (b : Bool) (old new : List Row) (row : Row)
    → list_any (RowEq.TheImpl.eq-value.it row) old ≡ b
    → new ≡ (if b then old else old ++ row ∷ [])
    → Put old new row
put_by true old new row n e = there e
put_by false old new row n e = last n e

pub put_result : {X E : Type 0} (r : Result X E) (old new : List Row) (row : Row)
    → IfOk r (λ x. new ≡ insert_key RowEq.TheImpl.eq-value.it old row)
    → OnErr r (new ≡ old)
    → Put old new row
put_result (Ok x) old new row k e = put_by (list_any (RowEq.TheImpl.eq-value.it row) old) old new row refl k
put_result (Err x) old new row k e = there e

pub put_backward : (old new : List Row) (row : Row) → Put old new row → Backward old → bound row ≤ length (stood_for [] old) → Backward new
put_backward old new row (there e) back l = subst Backward (sym e) back
put_backward old new row (last none e) back l = subst Backward (sym e) (λ i r g. by i r g (cases_lt i (length old)))
  where
    n : length (stood_for [] old) ≡ 0 + length old
    n = length_parts old []

    by : (i : ℕ) (r : Row) → slice_get (old ++ row ∷ []) i ≡ Some r → (i < length old) ⊎ (length old ≤ i) → bound r ≤ i
    by i r g (inl p) = back i r (sym (get_before old row i p) ∙ g)
    by i r g (inr p) = let e : row ≡ r = get_last old row r i p g in subst (λ (q : Row). bound q ≤ i) e (omega (arith, l, n, p))

pub put_extends : (old new : List Row) (row : Row) → Put old new row → Extends (stood_for [] old) (stood_for [] new)
put_extends old new row (there e) = subst (λ (q : List Row). Extends (stood_for [] old) (stood_for [] q)) (sym e) (extends_refl (stood_for [] old))
put_extends old new row (last none e) =
    subst (λ (q : List Row). Extends (stood_for [] old) (stood_for [] q)) (sym e)
    (subst (Extends (stood_for [] old)) (sym (parts_push old [] row)) (extends_push (stood_for [] old) (node (stood_for [] old) row)))

pub put_appends : (old new : List Row) (row : Row) → Put old new row → Appends (stood_for [] old) row (stood_for [] new)
put_appends old new row (there e) = inl (ap (stood_for []) e)
put_appends old new row (last none e) = inr (ap (stood_for []) e ∙ parts_push old [] row)

pub put_fitting : (old new : List Row) (row : Row)
    → Put old new row
    → Backward old
    → Fitting old
    → bound row ≤ length (stood_for [] old)
    → fits (stood_for [] old) row ≡ true
    → Fitting new
put_fitting old new row (there e) back fit l f = subst Fitting (sym e) fit
put_fitting old new row (last none e) back fit l f = subst Fitting (sym e) (λ i r g. by i r g (cases_lt i (length old)))
  where
    n : length (stood_for [] old) ≡ 0 + length old
    n = length_parts old []

    x : Extends (stood_for [] old) (stood_for [] (old ++ row ∷ []))
    x = subst (Extends (stood_for [] old)) (sym (parts_push old [] row)) (extends_push (stood_for [] old) (node (stood_for [] old) row))

    still : (r : Row) → bound r ≤ length (stood_for [] old) → fits (stood_for [] old) r ≡ true → fits (stood_for [] (old ++ row ∷ [])) r ≡ true
    still r b h = fits_same (stood_for [] old) (stood_for [] (old ++ row ∷ [])) (length (stood_for [] old)) (λ k m. x.same k m) r b ∙ h

    by : (i : ℕ) (r : Row) → slice_get (old ++ row ∷ []) i ≡ Some r → (i < length old) ⊎ (length old ≤ i) → fits (stood_for [] (old ++ row ∷ [])) r ≡ true
    by i r g (inl p) =
        let h = sym (get_before old row i p) ∙ g in
        let b = back i r h in
        still r (omega (arith, b, p, n)) (fit i r h)
    by i r g (inr p) = let e : row ≡ r = get_last old row r i p g in subst (λ (q : Row). fits (stood_for [] (old ++ row ∷ [])) q ≡ true) e (still row l f)

pub row_is : (rows : List Row) (row : Row) (place : ℕ) → Backward rows → Fitting rows → slice_get rows place ≡ Some row → RowIs (stood_for [] rows) place row
row_is rows row place back fit g = record {
  within = omega (arith, get_within rows place row g, length_parts rows []);
  below = back place row g;
  fitting = fit place row g;
  tree = found rows place row back g;
}

pub seen : (rows xs : List Row) (i : ℕ) (d : Row) → xs ≡ rows → i < length (stood_for [] rows) → slice_get rows i ≡ Some (slice_index_or xs i d)
seen rows xs i d e l =
    let w : i < length rows = omega (arith, l, length_parts rows []) in
    subst (λ (ys : List Row). slice_get rows i ≡ Some (slice_index_or ys i d)) (sym e) (by rows i w)
  where
    by : (ys : List Row) (k : ℕ) → k < length ys → slice_get ys k ≡ Some (slice_index_or ys k d)
    by [] k l = absurd (omega (arith, l))
    by (y ∷ ys) zero l = refl
    by (y ∷ ys) (suc k) l = by ys k (omega (arith, l))
