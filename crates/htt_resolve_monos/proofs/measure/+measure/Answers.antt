use Rattle.htt_parser_trees.specs.MonoLevels.{raw_mono_tree}
use Rattle.htt_resolve_scopes.specs.Views.{scope_tree}
use Rattle.htt_resolve_monos.proofs.Measured.{pair_sized}
use Rattle.htt_resolve_monos.proofs.measure.+measure.Goals as goal

pub measure_pair-returns : goal.measure_pair-returns
measure_pair-returns t c = record {
  measured = λ f h.
      pair_sized (scope_tree c.args.scope.now) f (raw_mono_tree c.args.right.now) c.args.left c.in_ok-right.right
      c.node_of_two.result h c.in_ok-right.ensures.measured c.node_of_two.ensures;
}
