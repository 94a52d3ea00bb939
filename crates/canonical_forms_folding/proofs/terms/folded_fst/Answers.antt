use Rattle.std.proofs.Common.{ap, ◌∙◌}
use Rattle.std.specs.Prelude.{option_map}
use Rattle.htt_syntax.specs.declared.tree.Term.TheVariants as vterm
use Rattle.htt_syntax.specs.Trees.{TermTree, t_fst}
use Rattle.htt_syntax.specs.Views.{term_tree}
use Rattle.htt_syntax.specs.Levels.{term_fst, term_pair}
use Rattle.canonical_forms_folding.specs.Seen.{pair_of}
use Rattle.canonical_forms_folding.proofs.Folds.{fst_folds}
use Rattle.canonical_forms_folding.proofs.Built.{computed, one_part}
use Rattle.canonical_forms_folding.proofs.terms.folded_fst.Goals as goal

pub returns-then-is_pair : goal.returns-then-is_pair
returns-then-is_pair c =
    let t = term_tree c.args.pair in
    let pair = c.if-is_pair.ensures.pair in
    let seen =
    fst_folds t
    ∙ ap (λ (x : TermTree). option_map (λ (p : TermTree × TermTree). p.0) (pair_of x)) (ap term_tree pair.2 ∙ term_pair pair.0 pair.1) in
    record { folded = ap term_tree (c.left_of.ensures.left pair.0 pair.1 pair.2) ∙ computed (t_fst t) (term_tree pair.0) seen }

pub returns-else-is_pair : goal.returns-else-is_pair
returns-else-is_pair c =
    let t = term_tree c.args.pair in
    let stays = fst_folds t ∙ ap (option_map (λ (p : TermTree × TermTree). p.0)) c.if-is_pair.ensures.no_pair in
    record {
      folded = one_part vterm.Fst t_fst term_fst c.args.pair c.boxed.result c.term_fst.result c.boxed.ensures.same_value
          c.term_fst.ensures.made stays;
    }
