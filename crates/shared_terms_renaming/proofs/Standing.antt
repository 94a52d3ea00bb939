-- Rows that the tests put: a function stands behind its body.
use Rattle.std.proofs.Common.{◌≡◌, ℕ, ◌≤◌, List, length, ap, arith, true, ◌&&◌, nat_eq}
use Rattle.shared_terms_rows.specs.declared.row.Row.{Row}
use Rattle.shared_terms_rows.specs.declared.form.Form.TheVariants as form
use Rattle.shared_terms_rows.specs.declared.form.Kind.{Kind}
use Rattle.shared_terms_rows.specs.declared.form.Kind.TheVariants as kinds
use Rattle.shared_terms_rows.specs.declared.form.TermForm.TheVariants as term
use Rattle.shared_terms_rows.specs.Parts.{Part, kind_of, build}
use Rattle.shared_terms_rows.specs.Forms.{slots, term_slots}
use Rattle.shared_terms_rows.specs.Rows.{at, bound, fits, number, RowIs}
use Rattle.shared_terms_table.proofs.Standing.{variable}

abbrev pub function : ℕ → Row
function body = record { form = form.Term term.Lam; first = body; second = 0; third = 0; fourth = 0 }

is_term : (parts : List Part) (place index : ℕ) → RowIs parts place (variable index) → kind_of (at parts place) ≡ kinds.Term
unfolding slots term_slots build
is_term parts place index r = ap kind_of r.tree

pub function_behind : (parts : List Part) (place index : ℕ) → RowIs parts place (variable index) → bound (function place) ≤ length parts
unfolding slots term_slots
function_behind parts place index r = omega (arith, r.within)

pub function_fits : (parts : List Part) (place index : ℕ) → RowIs parts place (variable index) → fits parts (function place) ≡ true
unfolding fits slots term_slots
function_fits parts place index r = ap (λ (kind : Kind). (nat_eq (number kind) 4 && true) && true) (is_term parts place index r)
