-- The trees of the rows that are folded, over their parts; and where these parts stand.
use Rattle.std.proofs.Common.{◌≡◌, ℕ, ◌<◌, ◌≤◌, List, refl, ap, arith, ◌∙◌}
use Rattle.htt_syntax.specs.Trees.{t_fst, t_snd, t_not, t_bin, t_eq, t_sel}
use Rattle.shared_terms_rows.specs.declared.form.Form.{Form}
use Rattle.shared_terms_rows.specs.declared.form.Form.TheVariants as form
use Rattle.shared_terms_rows.specs.declared.form.TermForm.TheVariants as term
use Rattle.shared_terms_rows.specs.declared.operation.Operation.{Operation}
use Rattle.shared_terms_rows.specs.declared.row.Row.{Row}
use Rattle.shared_terms_rows.specs.declared.slots.Slot.{Slot}
use Rattle.shared_terms_rows.specs.declared.slots.Slots.{Slots}
use Rattle.shared_terms_rows.specs.Parts.{Part, as_mono, as_term, build, build_term, op_of}
use Rattle.shared_terms_rows.specs.Forms.{slots, term_slots, one, two, three, four}
use Rattle.shared_terms_rows.specs.Rows.{at, node, bound, bound_in}

pub fst_node : (parts : List Part) (row : Row) → row.form ≡ form.Term term.Fst → as_term (node parts row) ≡ t_fst (as_term (at parts row.first))
unfolding build build_term slots term_slots
fst_node parts row e = rw e refl

pub snd_node : (parts : List Part) (row : Row) → row.form ≡ form.Term term.Snd → as_term (node parts row) ≡ t_snd (as_term (at parts row.first))
unfolding build build_term slots term_slots
snd_node parts row e = rw e refl

pub not_node : (parts : List Part) (row : Row) → row.form ≡ form.Term term.Un → as_term (node parts row) ≡ t_not (as_term (at parts row.first))
unfolding build build_term slots term_slots
not_node parts row e = rw e refl

pub bin_node : (parts : List Part) (row : Row) (operation : Operation)
    → row.form ≡ form.Term (term.Bin operation)
    → as_term (node parts row) ≡ t_bin (op_of operation) (as_term (at parts row.first)) (as_term (at parts row.second))
unfolding build build_term slots term_slots
bin_node parts row operation e = rw e refl

pub eq_node : (parts : List Part) (row : Row)
    → row.form ≡ form.Term term.Eq
    → as_term (node parts row) ≡ t_eq (as_mono (at parts row.first)) (as_term (at parts row.second)) (as_term (at parts row.third))
unfolding build build_term slots term_slots
eq_node parts row e = rw e refl

pub sel_node : (parts : List Part) (row : Row)
    → row.form ≡ form.Term term.Sel
    → as_term (node parts row)
    ≡ t_sel (as_mono (at parts row.first)) (as_term (at parts row.second)) (as_term (at parts row.third)) (as_term (at parts row.fourth))
unfolding build build_term slots term_slots
sel_node parts row e = rw e refl

-- the places of a row's parts are before its bound
slots_bound : (row : Row) (g : Form) (s : Slots) → row.form ≡ g → slots g ≡ s → bound row ≡ bound_in s row
slots_bound row g s e h = ap (λ f. bound_in (slots f) row) e ∙ ap (λ z. bound_in z row) h

pub within_one : (row : Row) (g : Form) (a : Slot) (n : ℕ) → row.form ≡ g → slots g ≡ one a → bound row ≤ n → row.first < n
within_one row g a n e h b = let k = slots_bound row g (one a) e h in omega (arith, k, b)

pub within_two : (row : Row) (g : Form) (a b : Slot) (n : ℕ)
    → row.form ≡ g
    → slots g ≡ two a b
    → bound row ≤ n
    → (row.first < n) × (row.second < n)
within_two row g a b n e h l = let k = slots_bound row g (two a b) e h in (omega (arith, k, l), omega (arith, k, l))

pub within_three : (row : Row) (g : Form) (a b c : Slot) (n : ℕ)
    → row.form ≡ g
    → slots g ≡ three a b c
    → bound row ≤ n
    → (row.first < n) × (row.second < n) × (row.third < n)
within_three row g a b c n e h l =
    let k = slots_bound row g (three a b c) e h in
    (omega (arith, k, l), omega (arith, k, l), omega (arith, k, l))

pub within_four : (row : Row) (g : Form) (a b c d : Slot) (n : ℕ)
    → row.form ≡ g
    → slots g ≡ four a b c d
    → bound row ≤ n
    → (row.first < n) × (row.second < n) × (row.third < n) × (row.fourth < n)
within_four row g a b c d n e h l =
    let k = slots_bound row g (four a b c d) e h in
    (omega (arith, k, l), omega (arith, k, l), omega (arith, k, l), omega (arith, k, l))
