-- Rows that the tests put: a variable, and a sum of a term with itself.
use Rattle.std.proofs.Common.{◌≡◌, ℕ, ◌<◌, ◌≤◌, List, length, ap, arith, true, ◌&&◌, nat_eq}
use Rattle.shared_terms_rows.specs.declared.row.Row.{Row}
use Rattle.shared_terms_rows.specs.declared.form.Form.TheVariants as form
use Rattle.shared_terms_rows.specs.declared.form.Kind.{Kind}
use Rattle.shared_terms_rows.specs.declared.form.Kind.TheVariants as kinds
use Rattle.shared_terms_rows.specs.declared.form.TermForm.TheVariants as term
use Rattle.shared_terms_rows.specs.declared.operation.Operation.TheVariants as operation
use Rattle.shared_terms_rows.specs.Parts.{Part, kind_of, build}
use Rattle.shared_terms_rows.specs.Forms.{slots, term_slots}
use Rattle.shared_terms_rows.specs.Rows.{at, bound, fits, number, RowIs}
use Rattle.shared_terms_table.proofs.Standing.{variable}

abbrev pub sum : ℕ → Row
sum part = record { form = form.Term (term.Bin operation.Add); first = part; second = part; third = 0; fourth = 0 }

pub variable_is_term : (parts : List Part) (place index : ℕ) → RowIs parts place (variable index) → kind_of (at parts place) ≡ kinds.Term
unfolding slots term_slots build
variable_is_term parts place index r = ap kind_of r.tree

pub sum_is_term : (parts : List Part) (place part : ℕ) → RowIs parts place (sum part) → kind_of (at parts place) ≡ kinds.Term
unfolding slots term_slots build
sum_is_term parts place part r = ap kind_of r.tree

pub sum_behind : (parts : List Part) (part : ℕ) → part < length parts → bound (sum part) ≤ length parts
unfolding slots term_slots
sum_behind parts part l = omega (arith, l)

pub sum_fits : (parts : List Part) (part : ℕ) → kind_of (at parts part) ≡ kinds.Term → fits parts (sum part) ≡ true
unfolding fits slots term_slots
sum_fits parts part e = ap (λ (kind : Kind). (nat_eq (number kind) 4 && nat_eq (number kind) 4) && true) e
