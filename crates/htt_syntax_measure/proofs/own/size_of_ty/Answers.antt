use Rattle.htt_syntax.specs.Views.{ty_tree}
use Rattle.htt_syntax_measure.proofs.Itself.{own_ty}
use Rattle.htt_syntax_measure.proofs.own.size_of_ty.Goals as goal

pub returns : goal.returns
returns c = record { sized = own_ty (ty_tree c.args.ty.now) c.measure_ty.result c.measure_ty.ensures.sized }
