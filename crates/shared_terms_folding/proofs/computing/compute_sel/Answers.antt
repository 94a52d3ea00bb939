use Rattle.std.proofs.Common.{refl, ◌∙◌, rules}
use Rattle.shared_terms_renaming.specs.Known.{held}
use Rattle.shared_terms_rows.specs.declared.form.Form.TheVariants as form
use Rattle.shared_terms_rows.specs.declared.form.TermForm.TheVariants as term
use Rattle.shared_terms_rows.specs.Forms.{slots, term_slots}
use Rattle.shared_terms_folding.specs.Folded.{nothing, a_place}
use Rattle.shared_terms_folding.proofs.Rows.{within_four}
use Rattle.shared_terms_folding.proofs.Seen.{sel_terms}
use Rattle.shared_terms_folding.proofs.Told.{sel_told}
use Rattle.shared_terms_folding.proofs.computing.compute_sel.Goals as goal

pub shape_at-requires : goal.shape_at-requires
unfolding slots term_slots
shape_at-requires c = record { within = (within_four c.args.row (form.Term term.Sel) _ _ _ _ _ c.requires.form refl c.requires.behind).1 }

pub returns-in-Bool-true : goal.returns-in-Bool-true
returns-in-Bool-true c =
    let parts = held c.args.work.now in
    let e = sel_told parts c.args.row _ c.requires.form c.shape_at.ensures.seen in
    record { told = a_place (e ∙ search (rules, c.in-Bool-true)) (sel_terms c.args.row c.requires.form c.requires.behind c.requires.fitting).0 }

pub returns-in-Bool-false : goal.returns-in-Bool-false
returns-in-Bool-false c =
    let parts = held c.args.work.now in
    let e = sel_told parts c.args.row _ c.requires.form c.shape_at.ensures.seen in
    record { told = a_place (e ∙ search (rules, c.in-Bool-false)) (sel_terms c.args.row c.requires.form c.requires.behind c.requires.fitting).1 }

pub returns-in_default : goal.returns-in_default
returns-in_default c =
    let e = sel_told (held c.args.work.now) c.args.row _ c.requires.form c.shape_at.ensures.seen in
    record { told = nothing (e ∙ search (rules, c.in_default)) }
