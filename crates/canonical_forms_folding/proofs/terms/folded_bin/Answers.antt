use Rattle.std.proofs.Common.{ℕ, sym, ap, ◌∙◌}
use Rattle.std.specs.Prelude.{option_map}
use Rattle.htt_syntax.specs.declared.tree.Term.TheVariants as vterm
use Rattle.htt_syntax.specs.Trees.{t_bin}
use Rattle.htt_syntax.specs.Views.{term_tree}
use Rattle.htt_syntax.specs.Levels.{term_bin}
use Rattle.theory_canonical.specs.Folding.{op_literal}
use Rattle.canonical_forms_folding.proofs.Folds.{bin_folds}
use Rattle.canonical_forms_folding.proofs.Built.{computed, two_parts}
use Rattle.canonical_forms_folding.proofs.terms.folded_bin.Goals as goal

pub returns-in-Some : goal.returns-in-Some
returns-in-Some c =
    let l = term_tree c.args.left in
    let r = term_tree c.args.right in
    let seen = bin_folds c.args.op l r ∙ ap (option_map (λ (p : ℕ × ℕ). op_literal c.args.op p.0 p.1)) (sym c.in-Some.ensures.words) in
    record { folded = c.result_of.ensures.literal ∙ computed (t_bin c.args.op l r) (op_literal c.args.op c.in-Some.x c.in-Some.y) seen }

pub returns-in-None : goal.returns-in-None
returns-in-None c =
    let l = term_tree c.args.left in
    let r = term_tree c.args.right in
    let stays = bin_folds c.args.op l r ∙ ap (option_map (λ (p : ℕ × ℕ). op_literal c.args.op p.0 p.1)) (sym c.in-None.ensures.words) in
    record {
      folded = two_parts (vterm.Bin c.args.op) (t_bin c.args.op) (term_bin c.args.op) c.args.left c.args.right c.boxed.result
          c.boxed-in-None.result c.term_bin.result c.boxed.ensures.same_value c.boxed-in-None.ensures.same_value c.term_bin.ensures.made stays;
    }
