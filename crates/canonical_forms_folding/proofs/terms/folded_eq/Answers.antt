use Rattle.std.proofs.Common.{Ok, refl, sym, ap, ◌∙◌}
use Rattle.std.specs.Prelude.{option_map}
use Rattle.htt_syntax.specs.Trees.{t_bool, t_eq}
use Rattle.htt_syntax.specs.Views.{mono_tree, term_tree}
use Rattle.htt_syntax.specs.Levels.{term_bool}
use Rattle.canonical_forms_folding.proofs.Folds.{eq_folds}
use Rattle.canonical_forms_folding.proofs.Built.{computed, eq_parts}
use Rattle.canonical_forms_folding.proofs.terms.folded_eq.Goals as goal

pub returns-in-Some : goal.returns-in-Some
returns-in-Some c =
    let m = mono_tree c.args.mono in
    let l = term_tree c.args.left in
    let r = term_tree c.args.right in
    let seen = eq_folds m l r ∙ ap (option_map t_bool) (sym c.in-Some.ensures.compared) in
    record { folded = term_bool c.in-Some.truth ∙ computed (t_eq m l r) (t_bool c.in-Some.truth) seen }

pub returns-in-None : goal.returns-in-None
returns-in-None c =
    let stays = eq_folds (mono_tree c.args.mono) (term_tree c.args.left) (term_tree c.args.right) ∙ ap (option_map t_bool) (sym c.in-None.ensures.compared) in
    record {
      folded = eq_parts c.args.mono (Ok c.args.mono) c.args.left c.args.right c.boxed.result c.boxed-in-None.result c.term_eq.result refl
          c.boxed.ensures.same_value c.boxed-in-None.ensures.same_value c.term_eq.ensures.made stays;
    }
