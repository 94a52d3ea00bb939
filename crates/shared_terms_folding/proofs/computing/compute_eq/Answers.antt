use Rattle.std.proofs.Common.{refl, ap, sym, ◌∙◌}
use Rattle.shared_terms_renaming.specs.Known.{held}
use Rattle.shared_terms_rows.specs.declared.form.Form.TheVariants as form
use Rattle.shared_terms_rows.specs.declared.form.TermForm.TheVariants as term
use Rattle.shared_terms_rows.specs.Forms.{slots, term_slots}
use Rattle.shared_terms_rows.specs.Parts.{build_term}
use Rattle.shared_terms_folding.specs.Folded.{nothing, a_literal}
use Rattle.shared_terms_folding.proofs.Rows.{within_three}
use Rattle.shared_terms_folding.proofs.Told.{eq_told, boolean}
use Rattle.shared_terms_folding.proofs.computing.compute_eq.Goals as goal

pub shape_at-left-requires : goal.shape_at-left-requires
unfolding slots term_slots
shape_at-left-requires c = record { within = (within_three c.args.row (form.Term term.Eq) _ _ _ _ c.requires.form refl c.requires.behind).1 }

pub shape_at-right-requires : goal.shape_at-right-requires
unfolding slots term_slots
shape_at-right-requires c = record { within = (within_three c.args.row (form.Term term.Eq) _ _ _ _ c.requires.form refl c.requires.behind).2 }

pub row-requires : goal.row-requires
unfolding slots term_slots
row-requires c = record { within = (within_three c.args.row (form.Term term.Eq) _ _ _ _ c.requires.form refl c.requires.behind).0 }

pub returns-in-Some : goal.returns-in-Some
unfolding term_slots build_term
returns-in-Some c =
    let e = eq_told (held c.args.work.now) c.args.row _ _ _ c.requires.form c.row.ensures.row c.shape_at-left.ensures.seen c.shape_at-right.ensures.seen in
    record { told = a_literal (e ∙ ap boolean (sym c.equal.ensures.told ∙ c.in-Some.is)) refl }

pub returns-in-None : goal.returns-in-None
returns-in-None c =
    let e = eq_told (held c.args.work.now) c.args.row _ _ _ c.requires.form c.row.ensures.row c.shape_at-left.ensures.seen c.shape_at-right.ensures.seen in
    record { told = nothing (e ∙ ap boolean (sym c.equal.ensures.told ∙ c.in-None.is)) }
