use Rattle.std.proofs.Common.{◌∙◌, sym}
use Rattle.canonical_forms_skeletons.specs.Views.{skeleton_tree}
use Rattle.canonical_forms_skeletons.proofs.Sameness.{is_same, compares_same}
use Rattle.canonical_forms_skeletons.proofs.form.same_skeletons.Goals as goal

pub returns : goal.returns
returns c =
    let one = skeleton_tree c.args.one.now in
    let other = skeleton_tree c.args.other.now in
    record { same = (λ e. is_same one other (sym c.compare.ensures.compared ∙ e), λ e. c.compare.ensures.compared ∙ compares_same one other e) }
