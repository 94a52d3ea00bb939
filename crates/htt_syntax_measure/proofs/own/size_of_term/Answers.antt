use Rattle.htt_syntax.specs.Views.{term_tree}
use Rattle.htt_syntax_measure.proofs.Itself.{own_term}
use Rattle.htt_syntax_measure.proofs.own.size_of_term.Goals as goal

pub returns : goal.returns
returns c = record { sized = own_term (term_tree c.args.term.now) c.measure_term.result c.measure_term.ensures.sized }
