-- Rows that the tests put: a variable stands anywhere, and a pair stands behind terms.
use Rattle.std.proofs.Common.{◌≡◌, ℕ, ◌≤◌, List, length, refl, ap, arith, true, ◌&&◌, nat_eq}
use Rattle.shared_terms_rows.specs.declared.row.Row.{Row}
use Rattle.shared_terms_rows.specs.declared.form.Form.TheVariants as form
use Rattle.shared_terms_rows.specs.declared.form.Kind.{Kind}
use Rattle.shared_terms_rows.specs.declared.form.Kind.TheVariants as kinds
use Rattle.shared_terms_rows.specs.declared.form.TermForm.TheVariants as term
use Rattle.shared_terms_rows.specs.Parts.{Part, kind_of, build}
use Rattle.shared_terms_rows.specs.Forms.{slots, term_slots}
use Rattle.shared_terms_rows.specs.Rows.{at, bound, fits, number, RowIs}

abbrev pub variable : ℕ → Row
variable index = record { form = form.Term (term.Var index); first = 0; second = 0; third = 0; fourth = 0 }

abbrev pub pair : ℕ → ℕ → Row
pair first second = record { form = form.Term term.Pair; first = first; second = second; third = 0; fourth = 0 }

pub variable_behind : (parts : List Part) (index : ℕ) → bound (variable index) ≤ length parts
unfolding slots term_slots
variable_behind parts index = omega arith

pub variable_fits : (parts : List Part) (index : ℕ) → fits parts (variable index) ≡ true
unfolding fits slots term_slots
variable_fits parts index = refl

is_term : (parts : List Part) (place index : ℕ) → RowIs parts place (variable index) → kind_of (at parts place) ≡ kinds.Term
unfolding slots term_slots build
is_term parts place index r = ap kind_of r.tree

pub pair_behind : (parts : List Part) (place index : ℕ) → RowIs parts place (variable index) → bound (pair place place) ≤ length parts
unfolding slots term_slots
pair_behind parts place index r = omega (arith, r.within)

pub pair_fits : (parts : List Part) (place index : ℕ) → RowIs parts place (variable index) → fits parts (pair place place) ≡ true
unfolding fits slots term_slots
pair_fits parts place index r =
    ap (λ (kind : Kind). (nat_eq (number kind) 4 && nat_eq (number kind) 4) && true) (is_term parts place index r)
