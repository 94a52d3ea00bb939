use Rattle.std.proofs.Common.{◌≡◌, refl, ap, sym, ◌∙◌, rules, Some}
use Rattle.shared_terms_renaming.specs.Known.{held}
use Rattle.shared_terms_rows.specs.declared.form.Form.TheVariants as form
use Rattle.shared_terms_rows.specs.declared.form.TermForm.TheVariants as term
use Rattle.shared_terms_rows.specs.Forms.{slots, term_slots}
use Rattle.shared_terms_rows.specs.Parts.{op_of}
use Rattle.theory_canonical.specs.Folding.{op_literal}
use Rattle.shared_terms_folding.specs.Shapes.{folded_bin, shape_in}
use Rattle.shared_terms_folding.specs.Folded.{nothing, a_literal}
use Rattle.shared_terms_folding.proofs.Rows.{within_two}
use Rattle.shared_terms_folding.proofs.Told.{bin_told}
use Rattle.shared_terms_folding.proofs.computing.compute_bin.Goals as goal

pub shape_at-requires : goal.shape_at-requires
unfolding slots term_slots
shape_at-requires c = record { within = (within_two c.args.row (form.Term (term.Bin c.args.operation)) _ _ _ c.requires.form refl c.requires.behind).0 }

pub shape_at-requires-2 : goal.shape_at-requires-2
unfolding slots term_slots
shape_at-requires-2 c = record { within = (within_two c.args.row (form.Term (term.Bin c.args.operation)) _ _ _ c.requires.form refl c.requires.behind).1 }

pub returns-in-Word-Word : goal.returns-in-Word-Word
returns-in-Word-Word c =
    let parts = held c.args.work.now in
    let e = bin_told parts c.args.row c.args.operation _ _ c.requires.form c.shape_at.ensures.seen c.shape_at-2.ensures.seen in
    let s : folded_bin (op_of c.args.operation) (shape_in parts c.shape_at.result) (shape_in parts c.shape_at-2.result) ≡ Some (op_literal (op_of c.args.operation) c.in-Word-Word.x c.in-Word-Word.y) =
    λ j. folded_bin (op_of c.args.operation) (shape_in parts (c.in-Word-Word.is-0 j)) (shape_in parts (c.in-Word-Word.is-1 j)) in
    record { told = a_literal (e ∙ s ∙ ap Some (sym c.result_of.ensures.literal)) c.result_of.ensures.slots }

pub returns-in_default : goal.returns-in_default
returns-in_default c =
    let e = bin_told (held c.args.work.now) c.args.row c.args.operation _ _ c.requires.form c.shape_at.ensures.seen c.shape_at-2.ensures.seen in
    record { told = nothing (e ∙ search (rules, c.in_default.is-0, c.in_default.not-Word-1)) }

pub returns-in_default-2 : goal.returns-in_default-2
returns-in_default-2 c =
    let e = bin_told (held c.args.work.now) c.args.row c.args.operation _ _ c.requires.form c.shape_at.ensures.seen c.shape_at-2.ensures.seen in
    record { told = nothing (e ∙ search (rules, c.in_default.not-Word-0)) }
