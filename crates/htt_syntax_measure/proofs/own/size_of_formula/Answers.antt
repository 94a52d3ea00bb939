use Rattle.htt_syntax.specs.Views.{formula_tree}
use Rattle.htt_syntax_measure.proofs.Itself.{own_formula}
use Rattle.htt_syntax_measure.proofs.own.size_of_formula.Goals as goal

pub returns : goal.returns
returns c = record { sized = own_formula (formula_tree c.args.formula.now) c.measure_formula.result c.measure_formula.ensures.sized }
