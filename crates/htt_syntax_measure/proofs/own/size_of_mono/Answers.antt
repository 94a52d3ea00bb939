use Rattle.htt_syntax.specs.Views.{mono_tree}
use Rattle.htt_syntax_measure.proofs.Itself.{own_mono}
use Rattle.htt_syntax_measure.proofs.own.size_of_mono.Goals as goal

pub returns : goal.returns
returns c = record { sized = own_mono (mono_tree c.args.mono.now) c.measure_mono.result c.measure_mono.ensures.sized }
