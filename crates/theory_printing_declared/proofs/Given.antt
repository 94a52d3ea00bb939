-- Given names, no two of which are the same, are found in their own table.
use Rattle.std.proofs.Common.{◌≡◌, ℕ, zero, suc, ◌+◌, List, [], ◌∷◌, ◌++◌, length, false, refl, sym, ◌∙◌, ap, arith}
use Rattle.std.proofs.Math.Nat.{add-zero, zero-add, add-suc, suc-add}
use Rattle.std.specs.Prelude.{Some, slice_get, bytes_eq}
use Rattle.theory_text_names.specs.Scopes.{Sort, means_rec, means_val, Names}
use Rattle.theory_text_names.specs.Uses.{a_declared, declared_use}
use Rattle.theory_printing_names.specs.Scopes.{AreDeclared}
use Rattle.theory_printing_declared.specs.Tables.{val_rows, rec_rows, table_of, DiffersFrom, AreDifferent}
use Rattle.theory_printing_declared.specs.Laws.{scope_with}
use Rattle.theory_printing_declared.proofs.Found.{found_first, found_past}

-- ---- names that differ

differs_at : (name other : List ℕ) (names : List (List ℕ)) (n : ℕ) → DiffersFrom name names → slice_get names n ≡ Some other → bytes_eq name other ≡ false
unfolding DiffersFrom
differs_at name other [] n h e = absurd (cc e)
differs_at name other (first ∷ names) zero h e = let same : first ≡ other = cc e in ap (bytes_eq name) (sym same) ∙ h.0
differs_at name other (first ∷ names) (suc n) h e = differs_at name other names n h.1 e

differs_left : (name : List ℕ) (names others : List (List ℕ)) → DiffersFrom name (names ++ others) → DiffersFrom name names
unfolding DiffersFrom
differs_left name [] others h = tt
differs_left name (first ∷ names) others h = (h.0, differs_left name names others h.1)

differs_right : (name : List ℕ) (names others : List (List ℕ)) → DiffersFrom name (names ++ others) → DiffersFrom name others
unfolding DiffersFrom
differs_right name [] others h = h
differs_right name (first ∷ names) others h = differs_right name names others h.1

different_left : (names others : List (List ℕ)) → AreDifferent (names ++ others) → AreDifferent names
unfolding AreDifferent
different_left [] others h = tt
different_left (first ∷ names) others h = (differs_left first names others h.0, different_left names others h.1)

different_right : (names others : List (List ℕ)) → AreDifferent (names ++ others) → AreDifferent others
unfolding AreDifferent
different_right [] others h = h
different_right (first ∷ names) others h = different_right names others h.1

-- ---- rows

val_found : (vals : List (List ℕ)) (from : ℕ) (others : Names) (n : ℕ) (name : List ℕ)
    → AreDifferent vals
    → slice_get vals n ≡ Some name
    → declared_use name (val_rows from vals ++ others) ≡ Some (a_declared (means_val (from + n)))
unfolding val_rows AreDifferent
val_found [] from others n name h e = absurd (cc e)
val_found (first ∷ vals) from others zero name h e =
    let same : name ≡ first = cc (sym e) in
    ap (λ x. declared_use x (val_rows from (first ∷ vals) ++ others)) same
    ∙ found_first (record { name = first; meaning = means_val from }) (val_rows (suc from) vals ++ others)
    ∙ ap (λ m. Some (a_declared (means_val m))) (sym (add-zero from))
val_found (first ∷ vals) from others (suc n) name h e =
    found_past name (record { name = first; meaning = means_val from }) (val_rows (suc from) vals ++ others) (differs_at first name vals n h.0 e)
    ∙ val_found vals (suc from) others n name h.1 e
    ∙ ap (λ m. Some (a_declared (means_val m))) (suc-add from n ∙ sym (add-suc from n))

-- no value has the name of a recursive predicate
past_vals : (vals recs : List (List ℕ)) (from : ℕ) (others : Names) (n : ℕ) (name : List ℕ)
    → AreDifferent (vals ++ recs)
    → slice_get recs n ≡ Some name
    → declared_use name (val_rows from vals ++ others) ≡ declared_use name others
unfolding val_rows AreDifferent
past_vals [] recs from others n name h e = refl
past_vals (first ∷ vals) recs from others n name h e =
    found_past name (record { name = first; meaning = means_val from }) (val_rows (suc from) vals ++ others)
    (differs_at first name recs n (differs_right first vals recs h.0) e)
    ∙ past_vals vals recs (suc from) others n name h.1 e

rec_found : (recs : List (List ℕ)) (counts : List ℕ) (from : ℕ) (n : ℕ) (name : List ℕ)
    → AreDifferent recs
    → length recs ≡ length counts
    → slice_get recs n ≡ Some name
    → (params : ℕ)
    × (slice_get counts n ≡ Some params)
    × (declared_use name (rec_rows from recs counts) ≡ Some (a_declared (means_rec (from + n) params)))
unfolding rec_rows AreDifferent
rec_found [] counts from n name h k e = absurd (cc e)
rec_found (first ∷ recs) [] from n name h k e = absurd (omega (arith, k))
rec_found (first ∷ recs) (params ∷ counts) from zero name h k e =
    let same : name ≡ first = cc (sym e) in (
      params,
      refl,
      ap (λ x. declared_use x (rec_rows from (first ∷ recs) (params ∷ counts))) same
          ∙ found_first (record { name = first; meaning = means_rec from params }) (rec_rows (suc from) recs counts)
          ∙ ap (λ m. Some (a_declared (means_rec m params))) (sym (add-zero from)),
    )
rec_found (first ∷ recs) (params ∷ counts) from (suc n) name h k e =
    let further = rec_found recs counts (suc from) n name h.1 (omega (arith, k)) e in (
      further.0,
      further.1,
      found_past name (record { name = first; meaning = means_rec from params }) (rec_rows (suc from) recs counts)
          (differs_at first name recs n h.0 e)
          ∙ further.2
          ∙ ap (λ m. Some (a_declared (means_rec m further.0))) (suc-add from n ∙ sym (add-suc from n)),
    )

pub declared_given : (entries : List Sort) (hypotheses : ℕ) (vals recs : List (List ℕ)) (counts : List ℕ)
    → length recs ≡ length counts
    → AreDifferent (vals ++ recs)
    → AreDeclared (scope_with entries hypotheses vals recs) counts (table_of vals recs counts)
declared_given entries hypotheses vals recs counts k h = record {
  vals = λ number name e.
      val_found vals zero (rec_rows zero recs counts) number name (different_left vals recs h) e
      ∙ ap (λ m. Some (a_declared (means_val m))) (zero-add number);
  recs = λ number name e.
      let found = rec_found recs counts zero number name (different_right vals recs h) k e in (
        found.0,
        found.1,
        past_vals vals recs zero (rec_rows zero recs counts) number name h e
            ∙ found.2
            ∙ ap (λ m. Some (a_declared (means_rec m found.0))) (zero-add number),
      );
}
