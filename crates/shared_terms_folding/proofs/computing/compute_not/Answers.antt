use Rattle.std.proofs.Common.{refl, ap, ◌∙◌, rules}
use Rattle.shared_terms_renaming.specs.Known.{held}
use Rattle.shared_terms_rows.specs.declared.form.Form.TheVariants as form
use Rattle.shared_terms_rows.specs.declared.form.TermForm.TheVariants as term
use Rattle.shared_terms_rows.specs.Forms.{slots, term_slots}
use Rattle.shared_terms_rows.specs.Parts.{build_term}
use Rattle.shared_terms_folding.specs.Shapes.{folded_not, shape_in}
use Rattle.shared_terms_folding.specs.Folded.{nothing, a_literal}
use Rattle.shared_terms_folding.proofs.Rows.{within_one}
use Rattle.shared_terms_folding.proofs.Told.{not_told}
use Rattle.shared_terms_folding.proofs.computing.compute_not.Goals as goal

pub shape_at-requires : goal.shape_at-requires
unfolding slots term_slots
shape_at-requires c = record { within = within_one c.args.row (form.Term term.Un) _ _ c.requires.form refl c.requires.behind }

pub returns-in-Bool : goal.returns-in-Bool
unfolding term_slots build_term
returns-in-Bool c =
    let e = not_told (held c.args.work.now) c.args.row _ c.requires.form c.shape_at.ensures.seen in
    record { told = a_literal (e ∙ ap (λ s. folded_not (shape_in (held c.args.work.now) s)) c.in-Bool.is) refl }

pub returns-in_default : goal.returns-in_default
returns-in_default c =
    let e = not_told (held c.args.work.now) c.args.row _ c.requires.form c.shape_at.ensures.seen in
    record { told = nothing (e ∙ search (rules, c.in_default)) }
