use Rattle.std.proofs.Common.{sym, ap, not, ◌∙◌, Bool}
use Rattle.std.specs.Prelude.{option_map}
use Rattle.htt_syntax.specs.declared.tree.Term.TheVariants as vterm
use Rattle.htt_syntax.specs.Trees.{t_bool, t_not}
use Rattle.htt_syntax.specs.Views.{term_tree}
use Rattle.htt_syntax.specs.Levels.{term_bool, term_un}
use Rattle.canonical_forms_folding.proofs.Folds.{not_folds}
use Rattle.canonical_forms_folding.proofs.Built.{computed, one_part}
use Rattle.canonical_forms_folding.proofs.terms.folded_not.Goals as goal

pub returns-in-Some : goal.returns-in-Some
returns-in-Some c =
    let t = term_tree c.args.term in
    let seen = not_folds t ∙ ap (option_map (λ (b : Bool). t_bool (not b))) (sym c.in-Some.ensures.truth) in
    record { folded = term_bool (not c.in-Some.truth) ∙ computed (t_not t) (t_bool (not c.in-Some.truth)) seen }

pub returns-in-None : goal.returns-in-None
returns-in-None c =
    let t = term_tree c.args.term in
    let stays = not_folds t ∙ ap (option_map (λ (b : Bool). t_bool (not b))) (sym c.in-None.ensures.truth) in
    record {
      folded = one_part vterm.Un t_not term_un c.args.term c.boxed.result c.term_not.result c.boxed.ensures.same_value
          c.term_not.ensures.made stays;
    }
