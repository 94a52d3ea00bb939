use Rattle.htt_syntax.specs.Levels.{comp_tree}
use Rattle.htt_syntax_measure.proofs.Itself.{own_comp}
use Rattle.htt_syntax_measure.proofs.own.size_of_comp.Goals as goal

pub returns : goal.returns
returns c = record {
  sized = own_comp (comp_tree c.args.comp.now) c.measure_comp.result c.deeper.result c.measure_comp.ensures.sized c.deeper.ensures;
}
