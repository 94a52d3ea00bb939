-- Rows that the tests put: a literal stands anywhere, and an operation behind its terms.
use Rattle.std.proofs.Common.{◌≡◌, ℕ, ◌<◌, ◌≤◌, List, length, ap, ◌∙◌, arith, true, ◌&&◌, nat_eq}
use Rattle.shared_terms_rows.specs.declared.row.Row.{Row}
use Rattle.shared_terms_rows.specs.declared.form.Form.TheVariants as form
use Rattle.shared_terms_rows.specs.declared.form.Kind.TheVariants as kinds
use Rattle.shared_terms_rows.specs.declared.form.TermForm.{TermForm}
use Rattle.shared_terms_rows.specs.declared.form.TermForm.TheVariants as term
use Rattle.shared_terms_rows.specs.declared.operation.Operation.{Operation}
use Rattle.shared_terms_rows.specs.Parts.{Part, kind_of, build}
use Rattle.shared_terms_rows.specs.Forms.{slots, term_slots, none}
use Rattle.shared_terms_rows.specs.Rows.{at, bound, fits, number, RowIs, Extends}
use Rattle.shared_terms_folding.specs.Folded.{IsTerm, Stands}
use Rattle.shared_terms_folding.proofs.Stood.{leaf_row, leaf_bound}

abbrev pub sum : Operation → ℕ → ℕ → Row
sum operation left right = record { form = form.Term (term.Bin operation); first = left; second = right; third = 0; fourth = 0 }

abbrev pub pair : ℕ → ℕ → Row
pair left right = record { form = form.Term term.Pair; first = left; second = right; third = 0; fourth = 0 }

abbrev pub second : ℕ → Row
second part = record { form = form.Term term.Snd; first = part; second = 0; third = 0; fourth = 0 }

pub term_kept : (a b : List Part) (place : ℕ) → Extends a b → IsTerm a place → IsTerm b place
term_kept a b place x h = record { within = omega (arith, h.within, x.longer); term = ap kind_of (x.same place h.within) ∙ h.term }

pub leaf_behind : (parts : List Part) (f : TermForm) → term_slots f ≡ none → bound (leaf_row f) ≤ length parts
leaf_behind parts f e = let h = leaf_bound f e in omega (arith, h)

pub leaf_is_term : (parts : List Part) (place : ℕ) (f : TermForm) → RowIs parts place (leaf_row f) → IsTerm parts place
unfolding build
leaf_is_term parts place f r = record { within = r.within; term = ap kind_of r.tree }

pub pair_is_term : (parts : List Part) (place left right : ℕ) → RowIs parts place (pair left right) → IsTerm parts place
unfolding build
pair_is_term parts place left right r = record { within = r.within; term = ap kind_of r.tree }

pub sum_behind : (parts : List Part) (operation : Operation) (left right : ℕ)
    → IsTerm parts left
    → IsTerm parts right
    → bound (sum operation left right) ≤ length parts
unfolding slots term_slots
sum_behind parts operation left right l r = omega (arith, l.within, r.within)

pub sum_fits : (parts : List Part) (operation : Operation) (left right : ℕ)
    → IsTerm parts left
    → IsTerm parts right
    → fits parts (sum operation left right) ≡ true
unfolding fits slots term_slots
sum_fits parts operation left right l r = λ j. (nat_eq (number (l.term j)) 4 && nat_eq (number (r.term j)) 4) && true

pub pair_behind : (parts : List Part) (left right : ℕ) → IsTerm parts left → IsTerm parts right → bound (pair left right) ≤ length parts
unfolding slots term_slots
pair_behind parts left right l r = omega (arith, l.within, r.within)

pub pair_fits : (parts : List Part) (left right : ℕ) → IsTerm parts left → IsTerm parts right → fits parts (pair left right) ≡ true
unfolding fits slots term_slots
pair_fits parts left right l r = λ j. (nat_eq (number (l.term j)) 4 && nat_eq (number (r.term j)) 4) && true

pub second_behind : (parts : List Part) (part : ℕ) → IsTerm parts part → bound (second part) ≤ length parts
unfolding slots term_slots
second_behind parts part h = omega (arith, h.within)

pub second_fits : (parts : List Part) (part : ℕ) → IsTerm parts part → fits parts (second part) ≡ true
unfolding fits slots term_slots
second_fits parts part h = λ j. (nat_eq (number (h.term j)) 4 && true) && true
