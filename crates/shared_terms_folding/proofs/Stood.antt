-- What was computed, or the row itself, stands where the fold of the row's tree is to stand.
use Rattle.std.proofs.Common.{◌≡◌, ℕ, ◌≤◌, List, Some, None, length, refl, sym, ap, ◌∙◌, arith, true}
use Rattle.htt_syntax.specs.Trees.{TermTree}
use Rattle.theory_canonical.specs.Folding.{contractum, or_itself}
use Rattle.shared_terms_rows.specs.declared.form.Form.TheVariants as form
use Rattle.shared_terms_rows.specs.declared.form.Kind.TheVariants as kinds
use Rattle.shared_terms_rows.specs.declared.form.TermForm.{TermForm}
use Rattle.shared_terms_rows.specs.declared.row.Row.{Row}
use Rattle.shared_terms_rows.specs.Parts.{Part, of_skeleton, of_mono, of_ty, of_triple, of_term, of_terms, of_fix, of_comp, of_step, of_formula, as_term}
use Rattle.shared_terms_rows.specs.Parts.{kind_of, build}
use Rattle.shared_terms_rows.specs.Forms.{slots, term_slots, none}
use Rattle.shared_terms_rows.specs.Rows.{at, node, bound, fits, RowIs, Extends}
use Rattle.shared_terms_table.proofs.Lists.{node_same}
use Rattle.theory_rows_substitution.specs.Substitution.{fold_part}
use Rattle.shared_terms_folding.specs.declared.shape.Computed.TheVariants as computed
use Rattle.shared_terms_folding.specs.Folded.{Stands, Computes, nothing, a_place, a_literal, leaf}

none_stays : (p : Part) → contractum (as_term p) ≡ None → fold_part p ≡ p
none_stays (of_term t) e = ap (λ o. of_term (or_itself o t)) e
none_stays (of_skeleton x) e = refl
none_stays (of_mono x) e = refl
none_stays (of_ty x) e = refl
none_stays (of_triple x) e = refl
none_stays (of_terms x) e = refl
none_stays (of_fix x) e = refl
none_stays (of_comp x) e = refl
none_stays (of_step x) e = refl
none_stays (of_formula x) e = refl

some_folds : (p : Part) (r : TermTree) → contractum (as_term p) ≡ Some r → fold_part p ≡ of_term r
unfolding contractum
some_folds (of_term t) r e = ap (λ o. of_term (or_itself o t)) e
some_folds (of_skeleton x) r e = absurd (grind arith)
some_folds (of_mono x) r e = absurd (grind arith)
some_folds (of_ty x) r e = absurd (grind arith)
some_folds (of_triple x) r e = absurd (grind arith)
some_folds (of_terms x) r e = absurd (grind arith)
some_folds (of_fix x) r e = absurd (grind arith)
some_folds (of_comp x) r e = absurd (grind arith)
some_folds (of_step x) r e = absurd (grind arith)
some_folds (of_formula x) r e = absurd (grind arith)

pub term_itself : (p : Part) → kind_of p ≡ kinds.Term → of_term (as_term p) ≡ p
term_itself (of_term t) e = refl
term_itself (of_skeleton x) e = absurd (grind arith)
term_itself (of_mono x) e = absurd (grind arith)
term_itself (of_ty x) e = absurd (grind arith)
term_itself (of_triple x) e = absurd (grind arith)
term_itself (of_terms x) e = absurd (grind arith)
term_itself (of_fix x) e = absurd (grind arith)
term_itself (of_comp x) e = absurd (grind arith)
term_itself (of_step x) e = absurd (grind arith)
term_itself (of_formula x) e = absurd (grind arith)

-- the row of a literal
abbrev pub leaf_row : TermForm → Row
leaf_row f = record { form = form.Term f; first = 0; second = 0; third = 0; fourth = 0 }

slots_none : (f : TermForm) → term_slots f ≡ none → slots (form.Term f) ≡ none
unfolding slots
slots_none f e = e

leaf_node : (parts : List Part) (f : TermForm) → term_slots f ≡ none → node parts (leaf_row f) ≡ of_term (leaf f)
unfolding build
leaf_node parts f e = rw (slots_none f e) refl

pub leaf_bound : (f : TermForm) → term_slots f ≡ none → bound (leaf_row f) ≡ 0
leaf_bound f e = rw (slots_none f e) refl

pub leaf_fits : (parts : List Part) (f : TermForm) → term_slots f ≡ none → fits parts (leaf_row f) ≡ true
unfolding fits
leaf_fits parts f e = rw (slots_none f e) refl

-- the literal stands at its row
pub literal_stands : {old new : List Part} (p : Part) {f : TermForm} {place : ℕ}
    → Computes old (as_term p) (computed.Literal f)
    → RowIs new place (leaf_row f)
    → Stands new place (fold_part p)
literal_stands {new = new} p {f = f} (a_literal e s) h =
    record { within = h.within; tree = h.tree ∙ leaf_node new f s ∙ sym (some_folds p (leaf f) e) }

pub literal_slots : {parts : List Part} {t : TermTree} {f : TermForm}
    → Computes parts t (computed.Literal f)
    → term_slots f ≡ none
literal_slots (a_literal e s) = s

-- a part stands where it stood
pub place_stands : {parts : List Part} (p : Part) {place : ℕ}
    → Computes parts (as_term p) (computed.Place place)
    → Stands parts place (fold_part p)
place_stands {parts = parts} p {place = place} (a_place e t) =
    record { within = t.within; tree = sym (some_folds p (as_term (at parts place)) e ∙ term_itself (at parts place) (t.term)) }

-- a row that isn't folded stands itself
pub row_stands : {old new : List Part} {row : Row} {place : ℕ}
    → Computes old (as_term (node old row)) computed.Itself
    → bound row ≤ length old
    → Extends old new
    → RowIs new place row
    → Stands new place (fold_part (node old row))
row_stands {old = old} {new = new} {row = row} (nothing e) b x h =
    record {
      within = h.within;
      tree = h.tree ∙ node_same old new (length old) (λ k l. x.same k l) row b ∙ sym (none_stays (node old row) e);
    }
