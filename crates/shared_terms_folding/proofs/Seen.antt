-- What is seen of a term is told by its form.
use Rattle.std.proofs.Common.{◌≡◌, ℕ, ◌<◌, ◌≤◌, Bool, true, ◌&&◌, nat_eq, List, length, refl, sym, ap, ◌∙◌, arith}
use Rattle.std.proofs.lemmas.Bool.{and_parts}
use Rattle.shared_terms_rows.specs.declared.form.Form.{Form}
use Rattle.shared_terms_rows.specs.declared.form.Form.TheVariants as form
use Rattle.shared_terms_rows.specs.declared.form.TermForm.TheVariants as term
use Rattle.shared_terms_rows.specs.declared.form.Kind.{Kind}
use Rattle.shared_terms_rows.specs.declared.form.Kind.TheVariants as kinds
use Rattle.shared_terms_rows.specs.declared.row.Row.{Row}
use Rattle.shared_terms_rows.specs.Parts.{Part, as_term, build, build_term, kind_of}
use Rattle.shared_terms_rows.specs.Forms.{slots, term_slots, two, four, of}
use Rattle.shared_terms_rows.specs.Rows.{at, in_slot, bound, bound_in, fits, fits_in, number, RowIs}
use Rattle.shared_terms_folding.specs.Folded.{IsTerm}
use Rattle.shared_terms_folding.specs.Shapes.{TermShape, a_word, a_bool, a_loc, a_pair, another, shape_of}

abbrev pub shape_from : Form → Part → Part → TermShape
shape_from (form.Term (term.Word word)) a b = a_word word
shape_from (form.Term (term.Bool truth)) a b = a_bool truth
shape_from (form.Term (term.Loc place)) a b = a_loc place
shape_from (form.Term term.Pair) a b = a_pair (as_term a) (as_term b)
shape_from other a b = another

pub build_shape : (f : Form) (a b c d : Part) → shape_of (as_term (build f a b c d)) ≡ shape_from f a b
unfolding build build_term shape_of
build_shape (form.Term (term.Var index)) a b c d = refl
build_shape (form.Term (term.Val number)) a b c d = refl
build_shape (form.Term (term.Def number)) a b c d = refl
build_shape (form.Term term.App) a b c d = refl
build_shape (form.Term term.Inst) a b c d = refl
build_shape (form.Term term.Lam) a b c d = refl
build_shape (form.Term term.LamT) a b c d = refl
build_shape (form.Term term.Do) a b c d = refl
build_shape (form.Term (term.Fix at)) a b c d = refl
build_shape (form.Term (term.Word word)) a b c d = refl
build_shape (form.Term (term.Bool truth)) a b c d = refl
build_shape (form.Term (term.Loc place)) a b c d = refl
build_shape (form.Term term.Unit) a b c d = refl
build_shape (form.Term term.Pair) a b c d = refl
build_shape (form.Term term.Fst) a b c d = refl
build_shape (form.Term term.Snd) a b c d = refl
build_shape (form.Term term.Un) a b c d = refl
build_shape (form.Term (term.Bin op)) a b c d = refl
build_shape (form.Term term.Eq) a b c d = refl
build_shape (form.Term term.Sel) a b c d = refl
build_shape (form.Term term.Ann) a b c d = refl
build_shape (form.Term (term.Made number)) a b c d = refl
build_shape (form.Term (term.At at)) a b c d = refl
build_shape (form.Skeleton f) a b c d = refl
build_shape (form.Mono f) a b c d = refl
build_shape (form.Ty f) a b c d = refl
build_shape form.Triple a b c d = refl
build_shape form.NoTerms a b c d = refl
build_shape form.MoreTerms a b c d = refl
build_shape (form.Fix f) a b c d = refl
build_shape (form.Comp f) a b c d = refl
build_shape (form.Step f) a b c d = refl
build_shape (form.Formula f) a b c d = refl

-- what is seen at a row's place
pub row_seen : {parts : List Part} {place : ℕ} {row : Row}
    → RowIs parts place row
    → shape_of (as_term (at parts place))
    ≡ shape_from row.form (in_slot parts ((slots row.form).first) row.first) (in_slot parts ((slots row.form).second) row.second)
row_seen {row = row} h = ap (λ p. shape_of (as_term p)) h.tree ∙ build_shape row.form _ _ _ _

-- the row of a form that is told
pub form_seen : {parts : List Part} {place : ℕ} {row : Row} (f : Form)
    → RowIs parts place row
    → row.form ≡ f
    → shape_of (as_term (at parts place)) ≡ shape_from f (in_slot parts ((slots f).first) row.first) (in_slot parts ((slots f).second) row.second)
form_seen {parts = parts} {row = row} f h e =
    row_seen h ∙ (λ j. shape_from (e j) (in_slot parts ((slots (e j)).first) row.first) (in_slot parts ((slots (e j)).second) row.second))

pub word_seen : {parts : List Part} {place : ℕ} {row : Row} (word : ℕ)
    → RowIs parts place row
    → row.form ≡ form.Term (term.Word word)
    → shape_of (as_term (at parts place)) ≡ a_word word
word_seen word h e = form_seen (form.Term (term.Word word)) h e

pub bool_seen : {parts : List Part} {place : ℕ} {row : Row} (truth : Bool)
    → RowIs parts place row
    → row.form ≡ form.Term (term.Bool truth)
    → shape_of (as_term (at parts place)) ≡ a_bool truth
bool_seen truth h e = form_seen (form.Term (term.Bool truth)) h e

pub loc_seen : {parts : List Part} {place : ℕ} {row : Row} (loc : ℕ)
    → RowIs parts place row
    → row.form ≡ form.Term (term.Loc loc)
    → shape_of (as_term (at parts place)) ≡ a_loc loc
loc_seen loc h e = form_seen (form.Term (term.Loc loc)) h e

pub pair_seen : {parts : List Part} {place : ℕ} {row : Row}
    → RowIs parts place row
    → row.form ≡ form.Term term.Pair
    → shape_of (as_term (at parts place)) ≡ a_pair (as_term (at parts row.first)) (as_term (at parts row.second))
unfolding slots term_slots
pair_seen h e = form_seen (form.Term term.Pair) h e

-- the parts of a pair's row are terms
fits_pair : (parts : List Part) (row : Row)
    → row.form ≡ form.Term term.Pair
    → fits parts row ≡ true
    → fits_in parts (two (of kinds.Term) (of kinds.Term)) row ≡ true
unfolding fits slots term_slots
fits_pair parts row e f = sym (ap (λ g. fits_in parts (slots g) row) e) ∙ f

bound_pair : (row : Row) → row.form ≡ form.Term term.Pair → bound row ≡ bound_in (two (of kinds.Term) (of kinds.Term)) row
unfolding slots term_slots
bound_pair row e = ap (λ g. bound_in (slots g) row) e

term_number : (kind : Kind) → nat_eq (number kind) 4 ≡ true → kind ≡ kinds.Term
term_number kinds.Skeleton e = absurd (grind arith)
term_number kinds.Mono e = absurd (grind arith)
term_number kinds.Ty e = absurd (grind arith)
term_number kinds.Triple e = absurd (grind arith)
term_number kinds.Term e = refl
term_number kinds.Terms e = absurd (grind arith)
term_number kinds.Fix e = absurd (grind arith)
term_number kinds.Comp e = absurd (grind arith)
term_number kinds.Step e = absurd (grind arith)
term_number kinds.Formula e = absurd (grind arith)

pub pair_terms : {parts : List Part} {place : ℕ} {row : Row}
    → place < length parts
    → RowIs parts place row
    → row.form ≡ form.Term term.Pair
    → IsTerm parts row.first × IsTerm parts row.second
pair_terms {parts = parts} {place = place} {row = row} l h e =
    let f = fits_pair parts row e h.fitting in
    let x =
    and_parts (nat_eq (number (kind_of (at parts row.first))) 4 && nat_eq (number (kind_of (at parts row.second))) 4)
    (nat_eq row.third 0 && nat_eq row.fourth 0) f in
    let y = and_parts (nat_eq (number (kind_of (at parts row.first))) 4) (nat_eq (number (kind_of (at parts row.second))) 4) (x.0) in
    let b = bound_pair row e in
    let w = h.below in (
      record { within = omega (arith, b, w, l); term = term_number (kind_of (at parts row.first)) (y.0) },
      record { within = omega (arith, b, w, l); term = term_number (kind_of (at parts row.second)) (y.1) },
    )

-- so are the terms that a choice is between
pub sel_terms : {parts : List Part} (row : Row)
    → row.form ≡ form.Term term.Sel
    → bound row ≤ length parts
    → fits parts row ≡ true
    → IsTerm parts row.third × IsTerm parts row.fourth
unfolding fits slots term_slots
sel_terms {parts = parts} row e b f =
    let s = four (of kinds.Mono) (of kinds.Term) (of kinds.Term) (of kinds.Term) in
    let g : fits_in parts s row ≡ true = sym (ap (λ g. fits_in parts (slots g) row) e) ∙ f in
    let k : bound row ≡ bound_in s row = ap (λ g. bound_in (slots g) row) e in
    let x =
    and_parts (nat_eq (number (kind_of (at parts row.first))) 1 && nat_eq (number (kind_of (at parts row.second))) 4)
    (nat_eq (number (kind_of (at parts row.third))) 4 && nat_eq (number (kind_of (at parts row.fourth))) 4) g in
    let y = and_parts (nat_eq (number (kind_of (at parts row.third))) 4) (nat_eq (number (kind_of (at parts row.fourth))) 4) (x.1) in (
      record { within = omega (arith, k, b); term = term_number (kind_of (at parts row.third)) (y.0) },
      record { within = omega (arith, k, b); term = term_number (kind_of (at parts row.fourth)) (y.1) },
    )
