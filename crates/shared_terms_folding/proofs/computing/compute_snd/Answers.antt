use Rattle.std.proofs.Common.{refl, ap, ◌∙◌, rules}
use Rattle.shared_terms_renaming.specs.Known.{held}
use Rattle.shared_terms_rows.specs.declared.form.Form.TheVariants as form
use Rattle.shared_terms_rows.specs.declared.form.TermForm.TheVariants as term
use Rattle.shared_terms_rows.specs.Forms.{slots, term_slots}
use Rattle.shared_terms_folding.specs.Shapes.{folded_snd, shape_in}
use Rattle.shared_terms_folding.specs.Folded.{nothing, a_place}
use Rattle.shared_terms_folding.proofs.Rows.{within_one}
use Rattle.shared_terms_folding.proofs.Told.{snd_told}
use Rattle.shared_terms_folding.proofs.computing.compute_snd.Goals as goal

pub shape_at-requires : goal.shape_at-requires
unfolding slots term_slots
shape_at-requires c = record { within = within_one c.args.row (form.Term term.Snd) _ _ c.requires.form refl c.requires.behind }

pub returns-in-Pair : goal.returns-in-Pair
returns-in-Pair c =
    let e = snd_told (held c.args.work.now) c.args.row _ c.requires.form c.shape_at.ensures.seen in
    let t = c.in-Pair.ensures.terms in
    record { told = a_place (e ∙ ap (λ s. folded_snd (shape_in (held c.args.work.now) s)) c.in-Pair.is) (t.1) }

pub returns-in_default : goal.returns-in_default
returns-in_default c =
    let e = snd_told (held c.args.work.now) c.args.row _ c.requires.form c.shape_at.ensures.seen in
    record { told = nothing (e ∙ search (rules, c.in_default)) }
